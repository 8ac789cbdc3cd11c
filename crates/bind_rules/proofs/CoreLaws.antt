-- A core, clause by clause.
use Rattle.std.proofs.Common.{◌≡◌, ℕ, Bool, List, refl, sym, ap, subst}
use Rattle.std.specs.Prelude.{Option, Result, Ok, Err}
use Rattle.bound_tree.specs.declared.select.Conjunct.{Conjunct}
use Rattle.sql_expr.specs.declared.tree.Expr.{Expr as Tree}
use Rattle.sql_scope.specs.declared.fault.BindFault.{BindFault}
use Rattle.sql_scope.specs.declared.fault.BindFault.TheVariants.{Refused, OutOfMemory}
use Rattle.sql_scope.specs.declared.scope.ScopeColumn.{ScopeColumn}
use Rattle.sql_scope.specs.Answer.{Answer, Gives, GoesOn, GoesOnBoth, ◌>>=◌}
use Rattle.sql_scope.specs.Scopes.{View, over_columns, over_keys}
use Rattle.sql_scope.proofs.Going.{same_answer, goes_on}
use Rattle.sql_clauses.specs.declared.cores.Selected.{Selected}
use Rattle.sql_clauses.specs.declared.items.Outputs.{Outputs}
use Rattle.sql_clauses.specs.declared.joins.Joined.{Joined}
use Rattle.sql_clauses.specs.declared.rows.Unordered.{Unordered}
use Rattle.sql_clauses.specs.declared.sources.Sources.{Sources}
use Rattle.sql_clauses.specs.Cores.{unmixed}
use Rattle.sql_clauses.specs.Joins.{join_plainly}
use Rattle.sql_clauses.specs.Sources.{all_sources}
use Rattle.bind_rules.specs.declared.cores.Filtered.{Filtered}
use Rattle.bind_rules.specs.declared.cores.Shown.{Shown}
use Rattle.bind_rules.specs.Bindings.{ExprBinding, ConditionBinding, ItemBinding, JoinBinding}
use Rattle.bind_rules.specs.Cores.{keys_of, with_conjuncts, with_selected, bound_core}
use Rattle.bind_rules.specs.From.{AreOf, AreColumns, begun, begin_joins}
use Rattle.bind_rules.specs.Selects.{ons_behind, conjuncts_over, keys_over, outputs_over, having_over, selected_over, filtered_over, shown_over}
use Rattle.bind_rules.proofs.Going.{on_on, on_both, goes_on_then}

-- ON from left to right, and then WHERE
pub filtered_stage : (view : View) (joins : List JoinBinding) (filter : Option ConditionBinding) (from first last : Result Joined BindFault) (conjuncts : Result (List Conjunct) BindFault)
    (result : Result Filtered BindFault) → GoesOn join_plainly from first → GoesOn (ons_behind view joins) first last → Gives (conjuncts_over view filter) conjuncts
    → GoesOnBoth with_conjuncts last conjuncts result → GoesOn (filtered_over view joins filter) from result
filtered_stage view joins filter from first last conjuncts result plain ons given on =
    on_both (λ j. join_plainly j >>= ons_behind view joins) (conjuncts_over view filter) with_conjuncts from last conjuncts result
    (on_on join_plainly (ons_behind view joins) from first last plain ons) given on

-- the items over the keys that were bound, and then HAVING
pub selected_stage : (view over : View) (grouped : Bool) (items : List ItemBinding) (having : Option ConditionBinding) (keys : List Tree) (outputs : Result Outputs BindFault) (selected result : Result Selected BindFault)
    → over ≡ over_keys view keys → Gives (outputs_over over grouped items) outputs → GoesOn (having_over over having) outputs selected → GoesOn unmixed selected result
    → Gives (selected_over view grouped items having keys) result
selected_stage view over grouped items having keys outputs selected result is gives on then =
    subst (λ v. Gives (outputs_over v grouped items >>= having_over v having >>= unmixed) result) is
    (goes_on (outputs_over over grouped items >>= having_over over having) unmixed selected result
    (goes_on (outputs_over over grouped items) (having_over over having) outputs selected gives on) then)

pub shown_stage : (view over : View) (grouped : Bool) (items : List ItemBinding) (group : List ExprBinding) (having : Option ConditionBinding) (keys : Result (List Tree) BindFault)
    (outputs : Result Outputs BindFault) (selected last : Result Selected BindFault) (result : Result Shown BindFault)
    → Gives (keys_over view group) keys → over ≡ over_keys view (keys_of keys) → Gives (outputs_over over grouped items) outputs → GoesOn (having_over over having) outputs selected
    → GoesOn unmixed selected last → GoesOnBoth with_selected keys last result → Gives (shown_over view grouped items group having) result
shown_stage view over grouped items group having keys outputs selected last result given is gives on then both =
    goes_on_then (keys_over view group) (selected_over view grouped items having) with_selected keys last result given
    (λ k found. selected_stage view over grouped items having k outputs selected last (subst (λ f. over ≡ over_keys view (keys_of f)) found is) gives on then) both

-- what was carried on from the sources
of_on : {B : Type 0} (answer : Answer Sources) (rest : List ScopeColumn → Joined → Answer B) (joined : Result Joined BindFault) (columns : List ScopeColumn) (result : Result B BindFault)
    → Gives (answer >>= (λ s. Ok (begun s))) joined → AreOf answer joined columns → GoesOn (rest columns) joined result → Gives (answer >>= (λ s. rest s.columns (begun s))) result
of_on answer rest (Err OutOfMemory) columns result given are on = subst (λ r. Gives (answer >>= (λ s. rest s.columns (begun s))) r) (sym on) tt
of_on (Err refusal) rest (Err (Refused place kind)) columns result given are on =
    subst (λ r. Gives (Err refusal) r) (sym on) (ap (λ (x : Answer Joined). x >>= rest columns) given)
of_on (Ok sources) rest (Err (Refused place kind)) columns result given are on = cc
of_on (Err refusal) rest (Ok joined) columns result given are on = cc
of_on (Ok sources) rest (Ok joined) columns result given are on =
    let same : begun sources ≡ joined = cc in
    subst (λ cs. Gives (rest cs (begun sources)) result) are (subst (λ j. Gives (rest columns j) result) (sym same) on)

pub from_on : {B : Type 0} (m : Answer Sources) (place : ℕ) (rest : List ScopeColumn → Joined → Answer B) (got : Result Sources BindFault) (joined : Result Joined BindFault) (columns : List ScopeColumn)
    (result : Result B BindFault) → Gives m got → GoesOn (begin_joins place) got joined → AreColumns place got joined columns → GoesOn (rest columns) joined result
    → Gives (m >>= all_sources place >>= (λ s. rest s.columns (begun s))) result
from_on m place rest (Err fault) joined columns result gives is are on =
    goes_on (m >>= all_sources place) (λ s. rest s.columns (begun s)) (Err fault) result
    (goes_on m (all_sources place) (Err fault) (Err fault) gives refl) (subst (λ j. GoesOn (rest columns) j result) is on)
from_on m place rest (Ok sources) joined columns result gives is are on =
    same_answer (all_sources place sources >>= (λ s. rest s.columns (begun s))) (m >>= all_sources place >>= (λ s. rest s.columns (begun s))) result
    (sym (ap (λ x. x >>= all_sources place >>= (λ s. rest s.columns (begun s))) gives)) (of_on (all_sources place sources) rest joined columns result is are on)

-- all clauses over the columns of the sources
pub core_stage : (place : ℕ) (distinct grouped : Bool) (view over : View) (items : List ItemBinding) (joins : List JoinBinding) (filter : Option ConditionBinding) (group : List ExprBinding)
    (having : Option ConditionBinding) (columns : List ScopeColumn) (joined : Result Joined BindFault) (filtered : Result Filtered BindFault) (shown : Result Shown BindFault) (result : Result Unordered BindFault)
    → over ≡ over_columns view columns → GoesOn (filtered_over over joins filter) joined filtered → Gives (shown_over over grouped items group having) shown
    → GoesOnBoth (bound_core place distinct grouped columns) filtered shown result
    → GoesOn (λ j. filtered_over (over_columns view columns) joins filter j
    >>= (λ f. shown_over (over_columns view columns) grouped items group having >>= bound_core place distinct grouped columns f)) joined result
core_stage place distinct grouped view over items joins filter group having columns joined filtered shown result is first given on =
    subst (λ v. GoesOn (λ j. filtered_over v joins filter j >>= (λ f. shown_over v grouped items group having >>= bound_core place distinct grouped columns f)) joined result) is
    (on_both (filtered_over over joins filter) (shown_over over grouped items group having) (bound_core place distinct grouped columns) joined filtered shown result first given on)
