-- A well-formed core over answered subqueries: each part of it is typed over the rows that come to it.
use Rattle.std.proofs.Common.{◌≡◌, ℕ, zero, suc, ◌≤◌, ◌^◌, Bool, true, false, cond, List, [], ◌∷◌, ◌++◌, take, length, map, refl, sym, subst, ap, ◌∙◌, arith, All, Option, Some, None, ℤ}
use Rattle.std.specs.Option.{option_map}
use Rattle.std.specs.Prelude.{IfSome, FitsSigned, unwrap_or, nat_le}
use Rattle.std.specs.Int.{w32, w64, w128}
use Rattle.std.specs.List.{AllByRecursion}
use Rattle.std.proofs.lemmas.Int.{ints}
use Rattle.std.proofs.lemmas.List.{length-take}
use Rattle.ooc_decimal.specs.Numeric.{scale_of}
use Rattle.ooc_types.specs.Meets.{HasForm, Meets}
use Rattle.ooc_types.specs.declared.schema.SqlType.{SqlType}
use Rattle.ooc_types.specs.declared.schema.SqlType.TheVariants.{Boolean, Integer, BigInt, HugeInt, Decimal, Date, Varchar}
use Rattle.ooc_types.specs.declared.value.Value.{Value}
use Rattle.ooc_types.specs.declared.value.Value.TheVariants.{Number}
use Rattle.bound_tree.specs.declared.kinds.AggregateKind.{AggregateKind}
use Rattle.bound_tree.specs.declared.kinds.AggregateKind.TheVariants as of
use Rattle.bound_tree.specs.declared.select.Aggregate.{Aggregate}
use Rattle.bound_tree.specs.declared.select.BoundCore.{BoundCore}
use Rattle.bound_tree.specs.declared.select.BoundRows.{BoundRows}
use Rattle.bound_tree.specs.declared.select.BoundSelect.{BoundSelect}
use Rattle.bound_tree.specs.declared.select.BoundSource.{BoundSource}
use Rattle.bound_tree.specs.declared.select.Conjunct.{Conjunct}
use Rattle.bound_tree.specs.declared.select.Grouping.{Grouping}
use Rattle.bound_tree.specs.declared.select.SourceRows.{SourceRows}
use Rattle.bound_tree.specs.declared.select.BoundRows.TheOpen.{Conjunct-F}
use Rattle.bound_tree.specs.declared.select.BoundRows.TheViews.{out-BoundCore, out-BoundSource, out-Conjunct}
use Rattle.sql_expr.specs.declared.fault.ValueFault.{ValueFault}
use Rattle.sql_expr.specs.declared.tree.Expr.{Expr}
use Rattle.sql_expr.specs.Kinds.{kind_of}
use Rattle.sql_expr.specs.Typing.{IsTyped}
use Rattle.sql_meaning.specs.Aggregates.{state_of, sum_value}
use Rattle.sql_meaning.specs.Found.{Row, and_then, clean, if_clean, unless_faulted}
use Rattle.sql_meaning.specs.From.{Source as MeantSource, from_rows}
use Rattle.sql_meaning.specs.Groups.{group_faults, keyed, keys_of, most_rows, rows_of, values_taken}
use Rattle.sql_meaning.specs.Judged.{Condition, kept}
use Rattle.sql_meaning.specs.Select.{below_having, perhaps_grouped}
use Rattle.sql_meaning.specs.Statements.{Tables, aggregation_of, grouping_of, row_value_of, source_meaning, takes_once}
use Rattle.well_formed.specs.Aggregates.{IsAggregate, IsGrouping, aggregate_type}
use Rattle.well_formed.specs.Cores.{IsConjunct, IsConjunctIn, IsCoreNode}
use Rattle.well_formed.specs.Exprs.{IsCondition, IsExpr}
use Rattle.well_formed.specs.From.{AreJoined, IsSourceNode}
use Rattle.well_formed.specs.Given.{kinds_below_items, kinds_of_group, kinds_of_source, kinds_of_sources}
use Rattle.well_formed.specs.Rows.{AnyConjunct, AnyInput, IsRowsNode, IsSelectNode, IsWellFormedSource}
use Rattle.well_formed.proofs.Parts.{core_held, core_here}
use Rattle.bound_laws.specs.Meeting.{IsRow, IsValue}
use Rattle.bound_laws.proofs.AggregateLemmas.{AreArguments, finished-value, taken-few}
use Rattle.bound_laws.proofs.CoreLemmas.{SourceFits, below-fit, from-fit, width-is}
use Rattle.bound_laws.proofs.GroupLemmas.{CountsFew, append-empty, fit-arguments, flat-empty, group-counts, keyed-fit, rows-fit}
use Rattle.bound_laws.proofs.RowLemmas.{source-rows}
use Rattle.bound_laws.proofs.ValueRows.{meet-on}
use Rattle.plain_rows.specs.declared.source.Source.{Source}
use Rattle.plain_rows.specs.Froms.{CanJoin, source_in}
use Rattle.plain_rows.specs.Tests.{parts_in, parts_of}
use Rattle.plain_rows.proofs.Fitting.{all-at, each, items-fit, kept-has}
use Rattle.plain_groups.specs.Arguments.{FitsArgument}
use Rattle.plain_groups.specs.Grouped.{CanGroup}
use Rattle.plain_groups.specs.Sums.{CanAggregate, FitsRows, HasSums}
use Rattle.plain_cores.specs.declared.known.Known.{Known}
use Rattle.plain_cores.specs.declared.table.Table.{Table}
use Rattle.plain_cores.specs.Cores.{ArePartsOver, CanCore, conditions_of, core_in, having_exprs}
use Rattle.plain_cores.specs.Known.{known_parts}
use Rattle.plain_cores.specs.Named.{tables_in}
use Rattle.plain_select.specs.Settings.{CanAnswerCore, conjunct_parts, conjunct_parts_in, on_parts}
use Rattle.plain_cores.proofs.Tested.{all-over, from-map}

row-meets : (limit : ℕ) (columns : List SqlType) (row : Row) → IsRow limit columns row → Meets limit columns row
row-meets limit columns row is = meet-on (IsValue limit) (HasForm limit) (λ k v h. h.form) columns row is

rows-meet : (limit : ℕ) (columns : List SqlType) (rows : List Row) → AllByRecursion (IsRow limit columns) rows → AllByRecursion (Meets limit columns) rows
rows-meet limit columns rows all = each (IsRow limit columns) (Meets limit columns) (row-meets limit columns) rows all

-- ---- FROM

conditions-over : (limit : ℕ) (columns : List SqlType) (exprs : List Expr) → AllByRecursion (IsCondition limit columns) exprs → AllByRecursion (ArePartsOver columns) (map parts_of exprs)
conditions-over limit columns [] all = tt
conditions-over limit columns (expr ∷ exprs) all = ((all.0.whole.typed, all.0.boolean), conditions-over limit columns exprs all.1)

can-join : (limit : ℕ) (tables : Tables) (columns : List SqlType) (sources : List Source) (bounds : List BoundSource) → map source_in sources ≡ map (source_meaning tables) bounds
    → map (λ (source : Source). map parts_in source.on.items) sources ≡ map on_parts bounds → AreJoined limit columns bounds → AllByRecursion (SourceFits limit tables) bounds → CanJoin limit columns sources
can-join limit tables columns [] bounds are on joined fit = tt
can-join limit tables columns (source ∷ sources) [] are on joined fit = cc
can-join limit tables columns (source ∷ sources) (bound ∷ bounds) are on joined fit =
    let here : source_in source ≡ source_meaning tables bound = cc in
    let there : map source_in sources ≡ map (source_meaning tables) bounds = cc in
    let on_here : map parts_in source.on.items ≡ on_parts bound = cc in
    let on_there : map (λ (source : Source). map parts_in source.on.items) sources ≡ map on_parts bounds = cc in
    let kinds = kinds_of_source bound in (
      record {
        kinds = kinds;
        width = ap (λ (s : MeantSource). s.width) here ∙ width-is limit tables bound;
        are = rows-meet limit kinds source.found.rows.items (subst (λ (s : MeantSource). AllByRecursion (IsRow limit kinds) s.found.rows) (sym here) fit.0);
        on = all-over (columns ++ kinds) source.on.items (subst (AllByRecursion (ArePartsOver (columns ++ kinds))) (sym on_here) (conditions-over limit (columns ++ kinds) (out-BoundSource bound).on joined.0.conditions));
      },
      can-join limit tables (columns ++ kinds) sources bounds there on_there joined.1 fit.1,
    )

-- ---- WHERE

conjunct-over : (limit : ℕ) (tables : Tables) (columns : List SqlType) (x : Conjunct-F BoundRows Conjunct SourceRows BoundCore BoundSelect BoundSource) → IsConjunctIn limit columns x → ArePartsOver columns (conjunct_parts_in tables x)
conjunct-over limit tables columns (Conjunct-F.Condition expr) is = (is.whole.typed, is.boolean)
conjunct-over limit tables columns (Conjunct-F.Member of query negated) is = is.operand.typed

conjuncts-over : (limit : ℕ) (tables : Tables) (columns : List SqlType) (conjuncts : List Conjunct) → AllByRecursion (IsConjunct limit columns) conjuncts → AllByRecursion (ArePartsOver columns) (map (conjunct_parts tables) conjuncts)
conjuncts-over limit tables columns [] all = tt
conjuncts-over limit tables columns (conjunct ∷ conjuncts) all = (conjunct-over limit tables columns (out-Conjunct conjunct) all.0, conjuncts-over limit tables columns conjuncts all.1)

-- ---- grouping

number-fits : (limit : ℕ) (kind : SqlType) (digits : ℤ) (scale : ℕ) → IsValue limit kind (Number digits scale) → FitsSigned w128 digits
number-fits limit Boolean digits scale is = absurd is.form
number-fits limit Integer digits scale is = let fits : FitsSigned w32 digits = is.form.0 in omega (arith, ints)
number-fits limit BigInt digits scale is = let fits : FitsSigned w64 digits = is.form.0 in omega (arith, ints)
number-fits limit HugeInt digits scale is = is.form.0
number-fits limit (Decimal width places) digits scale is = wide (nat_le width 18) is.form.0
  where
    wide : (b : Bool) → FitsSigned (cond b w64 w128) digits → FitsSigned w128 digits
    wide true fits = omega (arith, ints)
    wide false fits = fits
number-fits limit Date digits scale is = absurd is.form
number-fits limit Varchar digits scale is = absurd is.form

total-fits : (limit : ℕ) (kind : SqlType) (scale : ℕ) (total : Option ℤ) → IsValue limit kind (sum_value scale total) → IfSome total (FitsSigned w128)
total-fits limit kind scale None is = tt
total-fits limit kind scale (Some digits) is = number-fits limit kind digits scale is

take-has : (P : Value → Type 0) (n : ℕ) (values : List Value) → AllByRecursion P values → AllByRecursion P (take n values)
take-has P zero [] all = tt
take-has P (suc n) [] all = tt
take-has P zero (value ∷ values) all = tt
take-has P (suc n) (value ∷ values) all = (all.0, take-has P n values all.1)

sums-fit : (limit : ℕ) (argument : Option Expr) (result : SqlType) (values : List Value) → aggregate_type of.Sum (option_map kind_of argument) ≡ Some result → length values ≤ 10 ^ 11
    → AreArguments limit argument values → HasSums values
sums-fit limit None result values is few all = cc
sums-fit limit (Some expr) result values is few all = λ n.
    let fewer : length (take n values) ≤ 10 ^ 11 = let h = length-take n values in omega arith in
    total-fits limit result (scale_of (kind_of expr)) (state_of (take n values)).total
    (finished-value limit of.Sum (Some expr) result (take n values) is fewer (take-has (IsValue limit (kind_of expr)) n values all))

argument-fits : (limit : ℕ) (columns : List SqlType) (argument : Option Expr) (row : Row) → IfSome argument (IsExpr limit columns) → IsRow limit columns row → IfSome argument (FitsArgument row)
argument-fits limit columns None row is meets = tt
argument-fits limit columns (Some expr) row is meets = record { columns = columns; limit = limit; typed = is.typed; meets = row-meets limit columns row meets }

module _ (limit : ℕ) (columns : List SqlType) where
  fits-rows : (rows : List Row) → AllByRecursion (IsRow limit columns) rows → (aggregate : Aggregate) → IsAggregate limit columns aggregate → FitsRows rows aggregate
  fits-rows rows all aggregate is =
      all-at (λ row. IfSome aggregate.of (FitsArgument row)) rows
      (each (IsRow limit columns) (λ row. IfSome aggregate.of (FitsArgument row)) (λ row meets. argument-fits limit columns aggregate.of row is.argument meets) rows all)

  can-aggregate : (rows : List Row) → AllByRecursion (IsRow limit columns) rows → (aggregate : Aggregate) → IsAggregate limit columns aggregate → CountsFew limit columns rows aggregate → CanAggregate rows aggregate
  can-aggregate rows all aggregate is few = record {
    fits = fits-rows rows all aggregate is;
    sums = λ sum.
        sums-fit limit aggregate.of aggregate.result (values_taken (aggregation_of aggregate) rows)
        (ap (λ (kind : AggregateKind). aggregate_type kind (option_map kind_of aggregate.of)) (sym sum) ∙ is.result)
        (taken-few (takes_once aggregate.kind) (option_map row_value_of aggregate.of) rows most_rows few)
        (fit-arguments limit columns (takes_once aggregate.kind) aggregate.of rows is.argument all);
  }

  both-all : {A : Type 0} (P Q R : A → Type 0) → ((x : A) → P x → Q x → R x) → (xs : List A) → AllByRecursion P xs → AllByRecursion Q xs → AllByRecursion R xs
  both-all P Q R f [] all also = tt
  both-all P Q R f (x ∷ xs) all also = (f x all.0 also.0, both-all P Q R f xs all.1 also.1)

  every : {A : Type 0} (P : A → Type 0) → ((x : A) → P x) → (xs : List A) → AllByRecursion P xs
  every P f [] = tt
  every P f (x ∷ xs) = (f x, every P f xs)

  can-group : (grouping : Grouping) (rows : List Row) → IsGrouping limit columns grouping → AllByRecursion (IsRow limit columns) rows → CanGroup grouping rows
  can-group grouping rows is all =
      let keys = map row_value_of grouping.keys in
      let ones = (keyed keys rows).rows in
      let here : (key : Row) → AllByRecursion (IsRow limit columns) (rows_of key ones) = λ key. rows-fit limit columns grouping.keys key ones (keyed-fit limit columns grouping.keys rows is.keys all) in
      record {
        keys = items-fit limit columns grouping.keys rows (each (IsExpr limit columns) (IsTyped columns) (λ expr e. e.typed) grouping.keys is.keys) (rows-meet limit columns rows all);
        groups = record {
          fits = all-at (λ key. All (FitsRows (rows_of key ones)) grouping.aggregates) (keys_of keys ones)
              (every (λ key. All (FitsRows (rows_of key ones)) grouping.aggregates)
              (λ key. all-at (FitsRows (rows_of key ones)) grouping.aggregates (each (IsAggregate limit columns) (FitsRows (rows_of key ones)) (fits-rows (rows_of key ones) (here key)) grouping.aggregates is.aggregates)) (keys_of keys ones));
          sums = λ none.
              all-at (λ key. All (CanAggregate (rows_of key ones)) grouping.aggregates) (keys_of keys ones)
              (each (λ key. group_faults (map aggregation_of grouping.aggregates) (rows_of key ones) ≡ []) (λ key. All (CanAggregate (rows_of key ones)) grouping.aggregates)
              (λ key no_fault. all-at (CanAggregate (rows_of key ones)) grouping.aggregates
              (both-all (IsAggregate limit columns) (CountsFew limit columns (rows_of key ones)) (CanAggregate (rows_of key ones)) (λ aggregate one few. can-aggregate (rows_of key ones) (here key) aggregate one few)
              grouping.aggregates is.aggregates (group-counts limit columns grouping.aggregates (rows_of key ones) no_fault)))
              (keys_of keys ones) (flat-empty (λ key. group_faults (map aggregation_of grouping.aggregates) (rows_of key ones)) (keys_of keys ones) none));
        };
      }

  perhaps-group : (grouping : Option Grouping) (rows : List Row) → IfSome grouping (IsGrouping limit columns) → AllByRecursion (IsRow limit columns) rows → IfSome grouping (λ one. CanGroup one rows)
  perhaps-group None rows is all = tt
  perhaps-group (Some grouping) rows is all = can-group grouping rows is all

-- ---- HAVING and the items

unless-clean : (P : Row → Type 0) (faults : List ValueFault) (rows : List Row) → (faults ≡ [] → AllByRecursion P rows) → AllByRecursion P (unless_faulted faults (clean rows)).rows
unless-clean P [] rows all = all refl
unless-clean P (fault ∷ faults) rows all = tt

having-over : (limit : ℕ) (sources : List BoundSource) (grouping : Option Grouping) (columns : List SqlType) → IfSome grouping (IsGrouping limit columns)
    → AllByRecursion (λ expr. IsTyped (kinds_below_items sources grouping) expr × (kind_of expr ≡ Boolean)) (having_exprs grouping)
having-over limit sources None columns is = tt
having-over limit sources (Some grouping) columns is = by grouping.having is.having
  where
    by : (having : Option (List Expr)) → IfSome having (AllByRecursion (IsCondition limit (kinds_of_group grouping))) → AllByRecursion (λ expr. IsTyped (kinds_of_group grouping) expr × (kind_of expr ≡ Boolean)) (unwrap_or having [])
    by None all = tt
    by (Some list) all = each (IsCondition limit (kinds_of_group grouping)) (λ expr. IsTyped (kinds_of_group grouping) expr × (kind_of expr ≡ Boolean)) (λ expr is. (is.whole.typed, is.boolean)) list all

below-rows : (limit : ℕ) (tables : Tables) (bounds : List BoundSource) (grouping : Option Grouping) (sources : List MeantSource) (conjuncts : List Condition)
    → AllByRecursion (IsRow limit (kinds_of_sources bounds)) (from_rows sources).rows → IfSome grouping (IsGrouping limit (kinds_of_sources bounds))
    → (and_then (and_then (from_rows sources) (kept conjuncts)) (perhaps_grouped (option_map grouping_of grouping))).faults ≡ []
    → AllByRecursion (IsRow limit (kinds_below_items bounds grouping)) (and_then (and_then (from_rows sources) (kept conjuncts)) (perhaps_grouped (option_map grouping_of grouping))).rows
below-rows limit tables bounds grouping sources conjuncts from is none =
    let filtered = and_then (from_rows sources) (kept conjuncts) in
    below-fit limit tables bounds grouping filtered.rows (kept-has (IsRow limit (kinds_of_sources bounds)) conjuncts (from_rows sources).rows from) is
    (append-empty filtered.faults (perhaps_grouped (option_map grouping_of grouping) filtered.rows).faults none).1

-- ---- the whole

pub can-core : (tables : List Table) (core : BoundCore) (sources : List Source) (knowns : List Known) → CanAnswerCore tables core → map source_in sources ≡ map (source_meaning (tables_in tables)) (out-BoundCore core).sources
    → map (λ (source : Source). map parts_in source.on.items) sources ≡ map on_parts (out-BoundCore core).sources → map known_parts knowns ≡ map (conjunct_parts (tables_in tables)) (out-BoundCore core).conjuncts
    → CanCore core sources knowns
can-core tables core sources knowns set are on known =
    let x = out-BoundCore core in
    let limit = set.limit in
    let named = tables_in tables in
    let columns = kinds_of_sources x.sources in
    let node = core_here IsRowsNode AnyConjunct AnyInput (IsCoreNode limit) IsSelectNode (IsSourceNode set.schemas) core x set.well refl in
    let held = core_held IsRowsNode AnyConjunct AnyInput (IsCoreNode limit) IsSelectNode (IsSourceNode set.schemas) core x set.well refl in
    let fit = each (IsWellFormedSource limit set.schemas) (SourceFits limit named) (source-rows limit set.schemas named set.meet) x.sources held.0 in
    let from = subst (λ (ss : List MeantSource). AllByRecursion (IsRow limit columns) (from_rows ss).rows) (sym are) (from-fit limit named x.sources fit) in
    let filtered = kept-has (IsRow limit columns) (conditions_of knowns) (from_rows (map source_in sources)).rows from in
    let below = below_having (core_in core knowns) (map source_in sources) in
    record {
      from = record { limit = limit; all = can-join limit named [] sources x.sources are on node.from.joined fit };
      filtered = record {
        columns = columns;
        limit = limit;
        are = rows-meet limit columns (from_rows (map source_in sources)).rows from;
        judged = from-map (ArePartsOver columns) known_parts knowns (subst (AllByRecursion (ArePartsOver columns)) (sym known) (conjuncts-over limit named columns x.conjuncts node.conjuncts));
      };
      grouped = perhaps-group limit columns x.grouping (and_then (from_rows (map source_in sources)) (kept (conditions_of knowns))).rows node.grouping filtered;
      shown = record {
        columns = kinds_below_items x.sources x.grouping;
        limit = limit;
        are = rows-meet limit (kinds_below_items x.sources x.grouping) (if_clean below clean).rows
            (unless-clean (IsRow limit (kinds_below_items x.sources x.grouping)) below.faults below.rows (below-rows limit named x.sources x.grouping (map source_in sources) (core_in core knowns).conjuncts from node.grouping));
        judged = having-over limit x.sources x.grouping columns node.grouping;
        shown = each (IsExpr limit (kinds_below_items x.sources x.grouping)) (IsTyped (kinds_below_items x.sources x.grouping)) (λ expr e. e.typed) x.items node.items;
      };
    }
