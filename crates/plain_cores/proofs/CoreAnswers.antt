-- The answer of a core by its steps.
use Rattle.std.proofs.Common.{◌≡◌, ◌≢◌, List, [], ◌∷◌, ◌++◌, length, map, refl, sym, ap, ap₂, ◌∙◌, Option, Some, None}
use Rattle.std.specs.Prelude.{flat_map}
use Rattle.std.proofs.lemmas.List.{nil_from_length}
use Rattle.ooc_bags.proofs.Lists.{flat_map-map, map-map}
use Rattle.bound_tree.specs.declared.select.BoundCore.{BoundCore}
use Rattle.bound_tree.specs.declared.select.Grouping.{Grouping}
use Rattle.bound_tree.specs.declared.select.BoundRows.TheViews.{out-BoundCore}
use Rattle.sql_expr.specs.declared.fault.ValueFault.{ValueFault}
use Rattle.sql_expr.specs.declared.tree.Expr.{Expr}
use Rattle.sql_meaning.specs.Found.{Found, Row, clean, if_clean, unless_faulted}
use Rattle.sql_meaning.specs.Judged.{Condition, kept}
use Rattle.sql_meaning.specs.Select.{above_groups, below_having, inner_faults, projected}
use Rattle.sql_meaning.specs.Statements.{Meant, condition_of, having_of, row_value_of}
use Rattle.plain_rows.specs.declared.source.Source.{Source}
use Rattle.plain_rows.specs.Answers.{distinct_found}
use Rattle.plain_rows.specs.Froms.{source_in}
use Rattle.plain_cores.specs.declared.known.Known.{Known}
use Rattle.plain_cores.specs.Cores.{above_of, conditions_of, core_found, core_in, having_exprs}
use Rattle.plain_cores.specs.Known.{faults_in, meant_in}
use Rattle.plain_cores.proofs.Cleaning.{after-clean, clean-in-turn}

pub conjuncts-are : (core : BoundCore) (knowns : List Known) → (core_in core knowns).conjuncts ≡ conditions_of knowns
conjuncts-are core knowns = map-map (λ (meant : Meant). meant.condition) meant_in knowns

pub inner-are : (core : BoundCore) (sources : List Source) (knowns : List Known)
    → inner_faults (core_in core knowns) (map source_in sources) ≡ flat_map (λ (source : Source). source.found.faults.items) sources ++ flat_map faults_in knowns
inner-are core sources knowns =
    ap₂ ◌++◌ (flat_map-map (λ source. source.found.faults) source_in sources) (flat_map-map (λ (meant : Meant). meant.faults) meant_in knowns)

having-is : (grouping : Option Grouping) → having_of grouping ≡ map condition_of (having_exprs grouping)
having-is None = refl
having-is (Some grouping) = refl

abbrev pub faulty : List Row → List ValueFault → Found Row
faulty rows faults = record { rows = rows; faults = faults }

left-out : (faults : List ValueFault) (rows : List Row) (found : Found Row) → rows ≡ [] → length faults ≢ 0 → faulty rows faults ≡ unless_faulted faults found
left-out [] rows found none some = absurd (some refl)
left-out (fault ∷ faults) rows found none some = ap (λ (rs : List Row). faulty rs (fault ∷ faults)) none

-- where a subquery has a fault there are no rows
pub core-faulted : (core : BoundCore) (sources : List Source) (knowns : List Known) (faults : List ValueFault) (rows : List Row) → rows ≡ []
    → faults ≡ flat_map (λ (source : Source). source.found.faults.items) sources ++ flat_map faults_in knowns → length faults ≢ 0 → faulty rows faults ≡ core_found core sources knowns
core-faulted core sources knowns faults rows none are some =
    let rest = distinct_found (out-BoundCore core).distinct (if_clean (below_having (core_in core knowns) (map source_in sources)) (above_groups (core_in core knowns))) in
    left-out faults rows rest none some ∙ ap (λ (fs : List ValueFault). unless_faulted fs rest) (are ∙ sym (inner-are core sources knowns))

-- else HAVING, the items and DISTINCT follow
pub core-clean : (core : BoundCore) (sources : List Source) (knowns : List Known) (faults : List ValueFault) (below : Found Row) (items : List Expr)
    → faults ≡ flat_map (λ (source : Source). source.found.faults.items) sources ++ flat_map faults_in knowns → length faults ≡ 0
    → below ≡ if_clean (below_having (core_in core knowns) (map source_in sources)) clean → items ≡ (out-BoundCore core).items
    → above_of (having_exprs (out-BoundCore core).grouping) items (out-BoundCore core).distinct below ≡ core_found core sources knowns
core-clean core sources knowns faults below items are none is same =
    let x = out-BoundCore core in
    let b = below_having (core_in core knowns) (map source_in sources) in
    let having = map condition_of (having_exprs x.grouping) in
    let shown = projected (map row_value_of x.items) in
    let steps : if_clean (if_clean (if_clean b clean) (kept having)) shown ≡ if_clean b (above_groups (core_in core knowns)) =
    ap (λ (f : Found Row). if_clean f shown) (after-clean b (kept having)) ∙ clean-in-turn b (kept having) shown
    ∙ ap (λ (cs : List Condition). if_clean b (λ rows. if_clean (kept cs rows) shown)) (sym (having-is x.grouping)) in
    let empty : inner_faults (core_in core knowns) (map source_in sources) ≡ [] = inner-are core sources knowns ∙ sym are ∙ nil_from_length faults none in
    ap₂ (λ (es : List Expr) (f : Found Row). above_of (having_exprs x.grouping) es x.distinct f) same is
    ∙ ap (distinct_found x.distinct) steps
    ∙ ap (λ (fs : List ValueFault). unless_faulted fs (distinct_found x.distinct (if_clean b (above_groups (core_in core knowns))))) (sym empty)
