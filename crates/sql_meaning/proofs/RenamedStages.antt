-- Stages over rows whose columns stand elsewhere.
use Rattle.std.proofs.Common.{◌≡◌, suc, Bool, true, false, cond, not, List, [], ◌∷◌, ◌++◌, map, length, refl, sym, ap, ap₂, ◌∙◌, Option, Some, None, Result, Ok, Err}
use Rattle.std.specs.Prelude.{filter, flat_map, nat_lt, ◌||◌}
use Rattle.std.specs.List.{list_any}
use Rattle.ooc_types.specs.declared.value.Value.{Value}
use Rattle.ooc_bags.specs.Rows.{row_eq}
use Rattle.sql_expr.specs.declared.fault.ValueFault.{ValueFault}
use Rattle.sql_expr.specs.declared.fault.ValueFault.TheVariants.{CountOverflow}
use Rattle.sql_meaning.specs.Found.{Found, Row, collected}
use Rattle.sql_meaning.specs.Judged.{Condition, RowValue, Verdict, is_plain, then_judged, judged, verdict_found, plain_first, kept}
use Rattle.ooc_bags.specs.Firsts.{firsts}
use Rattle.sql_meaning.specs.Aggregates.{finished, state_of}
use Rattle.sql_meaning.specs.Groups.{behind_value, values, Keyed, keyed, keyed_found, keys_of, rows_of, argument, arguments, value_found, perhaps_once, values_taken, most_rows, rows_counted, aggregated, group_found, groups, grouped, Grouping, Aggregation}
use Rattle.sql_meaning.specs.Select.{item_found, projected}
use Rattle.sql_meaning.specs.Renamed.{AreRenamed, AreSaid, AreRenamedValues, IsRenamedArgument, IsRenamedAggregate, AreRenamedAggregates}
use Rattle.ooc_bags.proofs.Lists.{map-map, flat_map-same, flat_map-map, map-flat_map, filter-map}

found_is : {A : Type 0} (f g : Found A) → f.rows ≡ g.rows → f.faults ≡ g.faults → f ≡ g
found_is f g a b = λ i. record { rows = a i; faults = b i }

-- outcomes over the rows with their columns put back
collected-map : {A B C : Type 0} (f : B → Found C) (g : A → Found C) (back : A → B) → ((x : A) → g x ≡ f (back x)) → (xs : List A) → collected g xs ≡ collected f (map back xs)
collected-map f g back same xs =
    found_is (collected g xs) (collected f (map back xs))
    (flat_map-same (λ x. (g x).rows) (λ x. (f (back x)).rows) (λ x. ap (λ found. found.rows) (same x)) xs ∙ sym (flat_map-map (λ y. (f y).rows) back xs))
    (flat_map-same (λ x. (g x).faults) (λ x. (f (back x)).faults) (λ x. ap (λ found. found.faults) (same x)) xs ∙ sym (flat_map-map (λ y. (f y).faults) back xs))

module _ (back : Row → Row) where
  pub judged-each : (ws es : List Condition) → AreRenamed back ws es → (row : Row) → judged es row ≡ judged ws (back row)
  judged-each [] [] same row = refl
  judged-each [] (e ∷ es) same row = absurd same
  judged-each (w ∷ ws) [] same row = absurd same
  judged-each (w ∷ ws) (e ∷ es) same row = ap₂ then_judged (same.0.value row) (judged-each ws es same.1 row)

  pub judged-said : (ws es : List Condition) → AreSaid back ws es → (row : Row) → judged es row ≡ judged ws (back row)
  judged-said [] [] same row = refl
  judged-said [] (e ∷ es) same row = absurd same
  judged-said (w ∷ ws) [] same row = absurd same
  judged-said (w ∷ ws) (e ∷ es) same row = ap₂ then_judged (same.0 row) (judged-said ws es same.1 row)

  renamed-filter : (f : Bool → Bool) (ws es : List Condition) → AreRenamed back ws es → AreRenamed back (filter (λ c. f (is_plain c)) ws) (filter (λ c. f (is_plain c)) es)
  renamed-filter f [] [] same = tt
  renamed-filter f [] (e ∷ es) same = absurd same
  renamed-filter f (w ∷ ws) [] same = absurd same
  renamed-filter f (w ∷ ws) (e ∷ es) same =
      go (f (is_plain w)) (f (is_plain e)) (ap f same.0.plain) (renamed-filter f ws es same.1)
    where
      go : (a b : Bool) → b ≡ a → AreRenamed back (filter (λ c. f (is_plain c)) ws) (filter (λ c. f (is_plain c)) es)
          → AreRenamed back (cond a (w ∷ filter (λ c. f (is_plain c)) ws) (filter (λ c. f (is_plain c)) ws)) (cond b (e ∷ filter (λ c. f (is_plain c)) es) (filter (λ c. f (is_plain c)) es))
      go true true h rest = (same.0, rest)
      go false false h rest = rest
      go true false h rest = cc
      go false true h rest = cc

  renamed-over : (ws es vs ds : List Condition) → AreRenamed back ws es → AreRenamed back vs ds → AreRenamed back (ws ++ vs) (es ++ ds)
  renamed-over [] [] vs ds a b = b
  renamed-over [] (e ∷ es) vs ds a b = absurd a
  renamed-over (w ∷ ws) [] vs ds a b = absurd a
  renamed-over (w ∷ ws) (e ∷ es) vs ds a b = (a.0, renamed-over ws es vs ds a.1 b)

  judged-renamed : (ws es : List Condition) → AreRenamed back ws es → (row : Row) → judged (plain_first es) row ≡ judged (plain_first ws) (back row)
  judged-renamed ws es same row =
      judged-each (plain_first ws) (plain_first es)
      (renamed-over (filter is_plain ws) (filter is_plain es) (filter (λ c. not (is_plain c)) ws) (filter (λ c. not (is_plain c)) es)
      (renamed-filter (λ b. b) ws es same) (renamed-filter not ws es same)) row

  pub verdict-rows : (row : Row) (verdict : Verdict) → map back (verdict_found row verdict).rows ≡ (verdict_found (back row) verdict).rows
  verdict-rows row (Err fault) = refl
  verdict-rows row (Ok true) = refl
  verdict-rows row (Ok false) = refl

  pub verdict-faults : (row other : Row) (verdict : Verdict) → (verdict_found row verdict).faults ≡ (verdict_found other verdict).faults
  verdict-faults row other (Err fault) = refl
  verdict-faults row other (Ok true) = refl
  verdict-faults row other (Ok false) = refl

  -- a filter
  pub kept-rows-renamed : (ws es : List Condition) → AreRenamed back ws es → (rows : List Row) → map back (kept es rows).rows ≡ (kept ws (map back rows)).rows
  kept-rows-renamed ws es same rows =
      map-flat_map back (λ row. (verdict_found row (judged (plain_first es) row)).rows) rows
      ∙ flat_map-same (λ row. map back (verdict_found row (judged (plain_first es) row)).rows) (λ row. (verdict_found (back row) (judged (plain_first ws) (back row))).rows)
      (λ row. verdict-rows row (judged (plain_first es) row) ∙ ap (λ verdict. (verdict_found (back row) verdict).rows) (judged-renamed ws es same row)) rows
      ∙ sym (flat_map-map (λ row. (verdict_found row (judged (plain_first ws) row)).rows) back rows)

  pub kept-faults-renamed : (ws es : List Condition) → AreRenamed back ws es → (rows : List Row) → (kept es rows).faults ≡ (kept ws (map back rows)).faults
  kept-faults-renamed ws es same rows =
      flat_map-same (λ row. (verdict_found row (judged (plain_first es) row)).faults) (λ row. (verdict_found (back row) (judged (plain_first ws) (back row))).faults)
      (λ row. verdict-faults row (back row) (judged (plain_first es) row) ∙ ap (λ verdict. (verdict_found (back row) verdict).faults) (judged-renamed ws es same row)) rows
      ∙ sym (flat_map-map (λ row. (verdict_found row (judged (plain_first ws) row)).faults) back rows)

  values-renamed : (ws es : List RowValue) → AreRenamedValues back ws es → (row : Row) → values es row ≡ values ws (back row)
  values-renamed [] [] same row = refl
  values-renamed [] (e ∷ es) same row = absurd same
  values-renamed (w ∷ ws) [] same row = absurd same
  values-renamed (w ∷ ws) (e ∷ es) same row = ap₂ behind_value (same.0 row) (values-renamed ws es same.1 row)

  -- the items
  pub projected-renamed : (ws es : List RowValue) → AreRenamedValues back ws es → (rows : List Row) → projected es rows ≡ projected ws (map back rows)
  projected-renamed ws es same =
      collected-map (λ row. item_found (values ws row)) (λ row. item_found (values es row)) back (λ row. ap item_found (values-renamed ws es same row))

  back_keyed : Keyed → Keyed
  back_keyed one = record { key = one.key; row = back one.row }

  keyed-rows : (row : Row) (key : Result Row ValueFault) → map back_keyed (keyed_found row key).rows ≡ (keyed_found (back row) key).rows
  unfolding back_keyed
  keyed-rows row (Err fault) = refl
  keyed-rows row (Ok key) = refl

  keyed-faults : (row other : Row) (key : Result Row ValueFault) → (keyed_found row key).faults ≡ (keyed_found other key).faults
  keyed-faults row other (Err fault) = refl
  keyed-faults row other (Ok key) = refl

  keyed-rows-renamed : (ws es : List RowValue) → AreRenamedValues back ws es → (rows : List Row) → map back_keyed (keyed es rows).rows ≡ (keyed ws (map back rows)).rows
  keyed-rows-renamed ws es same rows =
      map-flat_map back_keyed (λ row. (keyed_found row (values es row)).rows) rows
      ∙ flat_map-same (λ row. map back_keyed (keyed_found row (values es row)).rows) (λ row. (keyed_found (back row) (values ws (back row))).rows)
      (λ row. keyed-rows row (values es row) ∙ ap (λ key. (keyed_found (back row) key).rows) (values-renamed ws es same row)) rows
      ∙ sym (flat_map-map (λ row. (keyed_found row (values ws row)).rows) back rows)

  keyed-faults-renamed : (ws es : List RowValue) → AreRenamedValues back ws es → (rows : List Row) → (keyed es rows).faults ≡ (keyed ws (map back rows)).faults
  keyed-faults-renamed ws es same rows =
      flat_map-same (λ row. (keyed_found row (values es row)).faults) (λ row. (keyed_found (back row) (values ws (back row))).faults)
      (λ row. keyed-faults row (back row) (values es row) ∙ ap (λ key. (keyed_found (back row) key).faults) (values-renamed ws es same row)) rows
      ∙ sym (flat_map-map (λ row. (keyed_found row (values ws row)).faults) back rows)

  keys_of-renamed : (ws es : List RowValue) → AreRenamedValues back ws es → (rows : List Keyed) → keys_of es rows ≡ keys_of ws (map back_keyed rows)
  unfolding back_keyed
  keys_of-renamed [] [] same rows = refl
  keys_of-renamed [] (e ∷ es) same rows = absurd same
  keys_of-renamed (w ∷ ws) [] same rows = absurd same
  keys_of-renamed (w ∷ ws) (e ∷ es) same rows = ap firsts (sym (map-map (λ (one : Keyed). one.key) back_keyed rows))

  rows_of-renamed : (key : Row) (rows : List Keyed) → map back (rows_of key rows) ≡ rows_of key (map back_keyed rows)
  unfolding back_keyed
  rows_of-renamed key rows =
      map-map back (λ (one : Keyed). one.row) (filter (λ one. row_eq key one.key) rows)
      ∙ sym (map-map (λ (one : Keyed). one.row) back_keyed (filter (λ one. row_eq key one.key) rows))
      ∙ ap (map (λ one. one.row)) (sym (filter-map (λ (one : Keyed). row_eq key one.key) back_keyed rows))

  arguments-renamed : (w e : Option RowValue) → IsRenamedArgument back w e → (rows : List Row) → arguments e rows ≡ arguments w (map back rows)
  arguments-renamed None None same rows = collected-map (λ row. value_found (argument None row)) (λ row. value_found (argument None row)) back (λ row. refl) rows
  arguments-renamed None (Some e) same rows = absurd same
  arguments-renamed (Some w) None same rows = absurd same
  arguments-renamed (Some w) (Some e) same rows =
      collected-map (λ row. value_found (argument (Some w) row)) (λ row. value_found (argument (Some e) row)) back (λ row. ap value_found (same row)) rows

  taken-renamed : (w e : Aggregation) → IsRenamedAggregate back w e → (rows : List Row) → values_taken e rows ≡ values_taken w (map back rows)
  taken-renamed w e same rows = λ i. perhaps_once (same.distinct i) (arguments-renamed w.of e.of same.of rows i).rows

  aggregated-renamed : (w e : Aggregation) → IsRenamedAggregate back w e → (rows : List Row) → aggregated rows e ≡ aggregated (map back rows) w
  aggregated-renamed w e same rows = λ i. finished (same.kind i) (same.scale i) (state_of (taken-renamed w e same rows i))

  cells-renamed : (ws es : List Aggregation) → AreRenamedAggregates back ws es → (rows : List Row) → map (aggregated rows) es ≡ map (aggregated (map back rows)) ws
  cells-renamed [] [] same rows = refl
  cells-renamed [] (e ∷ es) same rows = absurd same
  cells-renamed (w ∷ ws) [] same rows = absurd same
  cells-renamed (w ∷ ws) (e ∷ es) same rows = ap₂ ◌∷◌ (aggregated-renamed w e same.0 rows) (cells-renamed ws es same.1 rows)

  argument_faults-renamed : (ws es : List Aggregation) → AreRenamedAggregates back ws es → (rows : List Row)
      → flat_map (λ aggregate. (arguments aggregate.of rows).faults) es ≡ flat_map (λ aggregate. (arguments aggregate.of (map back rows)).faults) ws
  argument_faults-renamed [] [] same rows = refl
  argument_faults-renamed [] (e ∷ es) same rows = absurd same
  argument_faults-renamed (w ∷ ws) [] same rows = absurd same
  argument_faults-renamed (w ∷ ws) (e ∷ es) same rows =
      ap₂ ◌++◌ (ap (λ (found : Found Value). found.faults) (arguments-renamed w.of e.of same.0.of rows)) (argument_faults-renamed ws es same.1 rows)

  length-back : (rows : List Row) → length rows ≡ length (map back rows)
  length-back [] = refl
  length-back (row ∷ rows) = ap suc (length-back rows)

  counted-renamed : (w e : Aggregation) → IsRenamedAggregate back w e → (rows : List Row) → rows_counted rows e ≡ rows_counted (map back rows) w
  counted-renamed w e same rows = λ i. cond (same.distinct i) (length (taken-renamed w e same rows i)) (length-back rows i)

  any-renamed : (ws es : List Aggregation) → AreRenamedAggregates back ws es → (rows : List Row)
      → list_any (λ aggregate. nat_lt most_rows (rows_counted rows aggregate)) es ≡ list_any (λ aggregate. nat_lt most_rows (rows_counted (map back rows) aggregate)) ws
  any-renamed [] [] same rows = refl
  any-renamed [] (e ∷ es) same rows = absurd same
  any-renamed (w ∷ ws) [] same rows = absurd same
  any-renamed (w ∷ ws) (e ∷ es) same rows = ap₂ ◌||◌ (ap (nat_lt most_rows) (counted-renamed w e same.0 rows)) (any-renamed ws es same.1 rows)

  group-renamed : (ws es : List Aggregation) → AreRenamedAggregates back ws es → (key : Row) (rows : List Row) → group_found es key rows ≡ group_found ws key (map back rows)
  group-renamed ws es same key rows =
      found_is (group_found es key rows) (group_found ws key (map back rows))
      (ap (λ cells. (key ++ cells) ∷ []) (cells-renamed ws es same rows))
      (λ i. argument_faults-renamed ws es same rows i ++ cond (any-renamed ws es same rows i) (CountOverflow ∷ []) [])

  groups-renamed : (w e : Grouping) → AreRenamedValues back w.keys e.keys → AreRenamedAggregates back w.aggregates e.aggregates → (rows : List Keyed)
      → groups e rows ≡ groups w (map back_keyed rows)
  groups-renamed w e keys same rows =
      let G : Row → Found Row = λ key. group_found w.aggregates key (rows_of key (map back_keyed rows)) in
      collected-map G (λ key. group_found e.aggregates key (rows_of key rows)) (λ key. key)
      (λ key. group-renamed w.aggregates e.aggregates same key (rows_of key rows) ∙ ap (group_found w.aggregates key) (rows_of-renamed key rows)) (keys_of e.keys rows)
      ∙ ap (collected G) (map-id_is (keys_of e.keys rows) ∙ keys_of-renamed w.keys e.keys keys rows)
    where
      map-id_is : (xs : List Row) → map (λ key. key) xs ≡ xs
      map-id_is [] = refl
      map-id_is (x ∷ xs) = ap (λ l. x ∷ l) (map-id_is xs)

  -- grouping
  pub grouped-renamed : (w e : Grouping) → AreRenamedValues back w.keys e.keys → AreRenamedAggregates back w.aggregates e.aggregates → (rows : List Row)
      → grouped e rows ≡ grouped w (map back rows)
  grouped-renamed w e keys same rows =
      let moved = groups-renamed w e keys same (keyed e.keys rows).rows ∙ ap (groups w) (keyed-rows-renamed w.keys e.keys keys rows) in
      found_is (grouped e rows) (grouped w (map back rows))
      (ap (λ (found : Found Row). found.rows) moved)
      (ap₂ ◌++◌ (keyed-faults-renamed w.keys e.keys keys rows) (ap (λ (found : Found Row). found.faults) moved))
