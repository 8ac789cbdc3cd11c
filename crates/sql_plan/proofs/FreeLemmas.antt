-- A free FROM of bound sources is the free FROM that is planned.
use Rattle.std.proofs.Common.{◌≡◌, ℕ, zero, suc, ◌+◌, ◌≤◌, Bool, true, false, cond, List, [], ◌∷◌, ◌++◌, map, refl, sym, ap, ap₂, ◌∙◌, length, arith}
use Rattle.std.specs.Prelude.{filter, not, ◌&&◌, is_some, slice_index_or, nat_le}
use Rattle.std.specs.List.{list_all, filter_map, cons_option}
use Rattle.std.proofs.lemmas.Bool.Decides.{nat_tests}
use Rattle.sql_expr.specs.declared.tree.Expr.{Expr}
use Rattle.bound_tree.specs.declared.select.BoundCore.{BoundCore}
use Rattle.bound_tree.specs.declared.select.BoundRows.{BoundRows}
use Rattle.bound_tree.specs.declared.select.BoundSelect.{BoundSelect}
use Rattle.bound_tree.specs.declared.select.BoundSource.{BoundSource}
use Rattle.bound_tree.specs.declared.select.Conjunct.{Conjunct}
use Rattle.bound_tree.specs.declared.select.SourceRows.{SourceRows}
use Rattle.bound_tree.specs.declared.select.BoundRows.TheOpen.{Conjunct-F, SourceRows-F}
use Rattle.bound_tree.specs.declared.select.BoundRows.TheViews.{out-BoundSource, out-Conjunct, out-SourceRows}
use Rattle.sql_meaning.specs.Moved.{moved}
use Rattle.sql_meaning.specs.Statements.{pads_of}
use Rattle.plan_tree.specs.declared.parts.Entry.{Entry}
use Rattle.plan_tree.specs.declared.stages.PlanConjunct.TheOpen.{PlanConjunct-F, PlanInput-F}
use Rattle.plan_tree.specs.declared.stages.PlanConjunct.TheViews.{out-roll-PlanConjunct, out-roll-PlanInput}
use Rattle.plan_tree.specs.Split.{is_plain_expr, top}
use Rattle.plan_tree.specs.declared.parts.Linked.{Linked}
use Rattle.plan_tree.specs.Order.{picks, columns_in}
use Rattle.plan_tree.specs.Plannable.{columns_of_source, columns_of_sources}
use Rattle.plan_tree.specs.FreeFrom.{FreeTable, entries_from, ons_of, is_ready, ready, later}
use Rattle.plan_tree.specs.Planned.{Counts, plain_in, plain_of, plain_conjuncts, other_conjuncts, table_in, table_of, is_free_source, is_free, rows_counted, free_table, free_tables, plan_of_input, plan_of_select, plan_of_source, plan_of_conjunct}
use Rattle.sql_plan.specs.declared.order.Chosen.{Chosen}
use Rattle.sql_plan.specs.Chosen.{chosen_of, columns_chosen}
use Rattle.sql_plan.specs.Conjuncts as conjuncts
use Rattle.sql_plan.specs.Sources as bound
use Rattle.sql_plan.proofs.PlanOut.{conjunct_condition, conjunct_member, input_table, input_query, source_is}
use Rattle.sql_plan.proofs.ChosenLemmas.{columns-picked}

module _ (counts : Counts) where
  table-name : (rows : SourceRows) → table_of (plan_of_input counts rows) ≡ bound.table_name rows
  table-name rows = go (out-SourceRows rows) refl
    where
      go : (x : SourceRows-F BoundRows Conjunct SourceRows BoundCore BoundSelect BoundSource) → out-SourceRows rows ≡ x → table_of (plan_of_input counts rows) ≡ bound.name_in x
      go (SourceRows-F.Table name) is = ap table_of (input_table counts rows name is) ∙ ap table_in (out-roll-PlanInput (PlanInput-F.Table name))
      go (SourceRows-F.Query select) is = ap table_of (input_query counts rows select is) ∙ ap table_in (out-roll-PlanInput (PlanInput-F.Query (plan_of_select counts select)))

  pub table-planned : (rows : SourceRows) → is_some (bound.table_name rows) ≡ true → plan_of_input counts rows ≡ bound.table_input (bound.table_name rows)
  table-planned rows there = go (out-SourceRows rows) refl
    where
      go : (x : SourceRows-F BoundRows Conjunct SourceRows BoundCore BoundSelect BoundSource) → out-SourceRows rows ≡ x → plan_of_input counts rows ≡ bound.table_input (bound.table_name rows)
      go (SourceRows-F.Table name) is = input_table counts rows name is ∙ sym (ap (λ x. bound.table_input (bound.name_in x)) is)
      go (SourceRows-F.Query select) is = let no_table : is_some (bound.table_name rows) ≡ false = ap (λ x. is_some (bound.name_in x)) is in cc

  free-source : (source : BoundSource) → is_free_source (plan_of_source counts source) ≡ bound.is_free_source source
  free-source source =
      ap is_free_source (source_is counts source)
      ∙ ap (λ t. is_some t && (not (pads_of (out-BoundSource source).join) && list_all is_plain_expr (out-BoundSource source).on)) (table-name (out-BoundSource source).rows)

  pub free-sources : (sources : List BoundSource) → is_free (map (plan_of_source counts) sources) ≡ list_all bound.is_free_source sources
  free-sources [] = refl
  free-sources (source ∷ sources) = ap₂ ◌&&◌ (free-source source) (free-sources sources)

  pub tables-are : (sources : List BoundSource) → free_tables counts (map (plan_of_source counts) sources) ≡ map (bound.bound_table counts) sources
  tables-are [] = refl
  tables-are (source ∷ sources) =
      ap₂ ◌∷◌ (ap (free_table counts) (source_is counts source) ∙ (λ i. record {
        width = length (out-BoundSource source).kinds;
        rows = rows_counted counts (table-name (out-BoundSource source).rows i);
        on = (out-BoundSource source).on;
      })) (tables-are sources)

  pub plain-is : (conjunct : Conjunct) → plain_of (plan_of_conjunct counts conjunct) ≡ bound.plain_conjunct conjunct
  plain-is conjunct = go (out-Conjunct conjunct) refl
    where
      go : (x : Conjunct-F BoundRows Conjunct SourceRows BoundCore BoundSelect BoundSource) → out-Conjunct conjunct ≡ x → plain_of (plan_of_conjunct counts conjunct) ≡ bound.plain_in x
      go (Conjunct-F.Condition expr) is = ap plain_of (conjunct_condition counts conjunct expr is) ∙ ap plain_in (out-roll-PlanConjunct (PlanConjunct-F.Condition expr))
      go (Conjunct-F.Member of query negated) is =
          ap plain_of (conjunct_member counts conjunct of query negated is) ∙ ap plain_in (out-roll-PlanConjunct (PlanConjunct-F.Member of (plan_of_select counts query) negated))

  pub plains-are : (list : List Conjunct) → plain_conjuncts (map (plan_of_conjunct counts) list) ≡ filter_map bound.plain_conjunct list
  plains-are [] = refl
  plains-are (c ∷ list) = ap₂ cons_option (plain-is c) (plains-are list)

  pub others-are : (list : List Conjunct) → other_conjuncts (map (plan_of_conjunct counts) list) ≡ map (plan_of_conjunct counts) (filter (λ c. not (is_some (bound.plain_conjunct c))) list)
  others-are [] = refl
  others-are (c ∷ list) = ap (λ o. cond (not (is_some o)) (plan_of_conjunct counts c ∷ other_conjuncts (map (plan_of_conjunct counts) list)) (other_conjuncts (map (plan_of_conjunct counts) list))) (plain-is c) ∙ go (not (is_some (bound.plain_conjunct c))) (others-are list)
    where
      rest : List Conjunct
      rest = filter (λ d. not (is_some (bound.plain_conjunct d))) list

      go : (b : Bool) → other_conjuncts (map (plan_of_conjunct counts) list) ≡ map (plan_of_conjunct counts) rest
          → cond b (plan_of_conjunct counts c ∷ other_conjuncts (map (plan_of_conjunct counts) list)) (other_conjuncts (map (plan_of_conjunct counts) list)) ≡ map (plan_of_conjunct counts) (cond b (c ∷ rest) rest)
      go true is = ap (λ l. plan_of_conjunct counts c ∷ l) is
      go false is = is

pub ons-are : (counts : Counts) (sources : List BoundSource) → ons_of (map (bound.bound_table counts) sources) ≡ bound.ons_in sources
ons-are counts [] = refl
ons-are counts (source ∷ sources) = ap (λ es. (out-BoundSource source).on ++ es) (ons-are counts sources)

pub entries-long : (place start : ℕ) (tables : List FreeTable) → length (entries_from place start tables) ≡ length tables
entries-long place start [] = refl
entries-long place start (table ∷ tables) = ap suc (entries-long (place + 1) (start + table.width) tables)

-- ---- the stages

filter-moved : (places : List ℕ) (p : Expr → Bool) (es : List Expr) → map (moved places) (filter (λ e. p (moved places e)) es) ≡ filter p (map (moved places) es)
filter-moved places p [] = refl
filter-moved places p (e ∷ es) = go (p (moved places e)) (filter-moved places p es)
  where
    go : (b : Bool) → map (moved places) (filter (λ e. p (moved places e)) es) ≡ filter p (map (moved places) es)
        → map (moved places) (cond b (e ∷ filter (λ e. p (moved places e)) es) (filter (λ e. p (moved places e)) es)) ≡ cond b (moved places e ∷ filter p (map (moved places) es)) (filter p (map (moved places) es))
    go true is = ap (λ l. moved places e ∷ l) is
    go false is = is

-- one test behind another
filter-both : {A : Type 0} (p q r : A → Bool) → ((x : A) → (p x && q x) ≡ r x) → (xs : List A) → filter q (filter p xs) ≡ filter r xs
filter-both p q r both [] = refl
filter-both p q r both (x ∷ xs) = go (p x) refl (filter-both p q r both xs)
  where
    go : (b : Bool) → p x ≡ b → filter q (filter p xs) ≡ filter r xs → filter q (cond b (x ∷ filter p xs) (filter p xs)) ≡ cond (r x) (x ∷ filter r xs) (filter r xs)
    go true is rest =
        let same : q x ≡ r x = sym (ap (λ b. b && q x) is) ∙ both x in
        (λ i. cond (same i) (x ∷ rest i) (rest i))
    go false is rest =
        let never : r x ≡ false = sym (both x) ∙ ap (λ b. b && q x) is in
        rest ∙ sym (ap (λ b. cond b (x ∷ filter r xs) (filter r xs)) never)

module _ (places : List ℕ) where
  -- the conjuncts that weren't ready before
  abbrev pub from_low : ℕ → List Expr → List Expr
  from_low low = filter (λ e. nat_le low (top (moved places e)))

  pub ready-is : (low end : ℕ) (es : List Expr) → map (moved places) (ready places end (from_low low es)) ≡ filter (conjuncts.is_ready low end) (map (moved places) es)
  ready-is low end es =
      ap (map (moved places)) (filter-both (λ e. nat_le low (top (moved places e))) (is_ready places end) (λ e. conjuncts.is_ready low end (moved places e)) (λ e. refl) es)
      ∙ filter-moved places (conjuncts.is_ready low end) es

  pub later-is : (low end : ℕ) (es : List Expr) → low ≤ end + 1 → later places end (from_low low es) ≡ from_low (end + 1) es
  later-is low end es h = filter-both (λ e. nat_le low (top (moved places e))) (λ e. not (is_ready places end e)) (λ e. nat_le (end + 1) (top (moved places e))) (λ e. past (top (moved places e))) es
    where
      past : (t : ℕ) → (nat_le low t && not (nat_le t end)) ≡ nat_le (end + 1) t
      past t = grind (arith, nat_tests)

pub all-low : (places : List ℕ) (es : List Expr) → from_low places 0 es ≡ es
all-low places [] = refl
all-low places (e ∷ es) =
    ap (λ b. cond b (e ∷ from_low places 0 es) (from_low places 0 es)) (never-below (top (moved places e))) ∙ ap (λ l. e ∷ l) (all-low places es)
  where
    never-below : (n : ℕ) → nat_le 0 n ≡ true
    never-below n = grind (arith, nat_tests)

pub index-map : {A B : Type 0} (f : A → B) (xs : List A) (n : ℕ) (d : A) → slice_index_or (map f xs) n (f d) ≡ f (slice_index_or xs n d)
index-map f [] n d = refl
index-map f (x ∷ xs) zero d = refl
index-map f (x ∷ xs) (suc n) d = index-map f xs n d

pub index-all : {A : Type 0} (p : A → Bool) (xs : List A) (n : ℕ) (d : A) → list_all p xs ≡ true → p d ≡ true → p (slice_index_or xs n d) ≡ true
index-all p [] n d all here = here
index-all p (x ∷ xs) zero d all here = (and-left (p x) (list_all p xs) all)
  where
    and-left : (a b : Bool) → (a && b) ≡ true → a ≡ true
    and-left true b is = refl
    and-left false b is = is
index-all p (x ∷ xs) (suc n) d all here = index-all p xs n d (and-right (p x) (list_all p xs) all) here
  where
    and-right : (a b : Bool) → (a && b) ≡ true → b ≡ true
    and-right true b is = is
    and-right false b is = cc

-- the entries have the columns of the sources
pub entries-columns : (counts : Counts) (place start : ℕ) (sources : List BoundSource) → columns_in (entries_from place start (map (bound.bound_table counts) sources)) ≡ columns_of_sources sources
entries-columns counts place start [] = refl
entries-columns counts place start (source ∷ sources) =
    ap (λ n. columns_of_source source + n) (entries-columns counts (place + 1) (start + columns_of_source source) sources)

pub chosen-columns : (counts : Counts) (sources : List BoundSource) (links : List Linked) (entries : List Entry) (chosen : List Chosen) → entries ≡ entries_from 0 0 (map (bound.bound_table counts) sources)
    → chosen ≡ map chosen_of (picks (length entries) links [] entries) → columns_chosen chosen ≡ columns_of_sources sources
chosen-columns counts sources links entries chosen entered picked =
    ap columns_chosen picked ∙ columns-picked links (length entries) [] entries (omega arith) ∙ ap columns_in entered ∙ entries-columns counts 0 0 sources
