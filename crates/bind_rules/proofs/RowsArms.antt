-- Rows in the walk: a core of all its clauses, and set operations.
use Rattle.std.proofs.Common.{◌≡◌, ℕ, Bool, List, [], ◌∷◌, map, refl, sym, ap, subst, ◌∙◌}
use Rattle.std.specs.Prelude.{◌||◌, Option, Some, None, Result, Ok, is_some}
use Rattle.bound_tree.specs.declared.kinds.JoinKind.TheVariants.{First}
use Rattle.bound_tree.specs.declared.select.Conjunct.{Conjunct}
use Rattle.sql_expr.specs.declared.tree.Expr.{Expr as Tree}
use Rattle.sql_grammar.specs.declared.tree.expr.Expr.{Expr}
use Rattle.sql_grammar.specs.declared.tree.select.Condition.{Condition}
use Rattle.sql_grammar.specs.declared.tree.select.Item.{Item}
use Rattle.sql_grammar.specs.declared.tree.select.Join.{Join}
use Rattle.sql_grammar.specs.declared.tree.select.Rows.{Rows}
use Rattle.sql_grammar.specs.declared.tree.select.SetOperand.{SetOperand}
use Rattle.sql_grammar.specs.declared.tree.select.Source.{Source}
use Rattle.sql_grammar.specs.declared.tree.expr.Argument.TheOpen.{Rows-F}
use Rattle.sql_grammar.specs.declared.tree.expr.Argument.TheViews.{out-Rows}
use Rattle.sql_scope.specs.declared.fault.BindFault.{BindFault}
use Rattle.sql_scope.specs.declared.scope.ScopeColumn.{ScopeColumn}
use Rattle.sql_scope.specs.Answer.{Gives, GoesOn, GoesOnBoth, each, ◌>>=◌}
use Rattle.sql_scope.specs.Scopes.{View, over_columns, over_keys}
use Rattle.sql_scope.proofs.Each.{each-map}
use Rattle.sql_scope.proofs.Going.{same_answer, goes_on}
use Rattle.sql_clauses.specs.declared.cores.NamedRows.{NamedRows}
use Rattle.sql_clauses.specs.declared.cores.Selected.{Selected}
use Rattle.sql_clauses.specs.declared.items.Outputs.{Outputs}
use Rattle.sql_clauses.specs.declared.joins.Joined.{Joined}
use Rattle.sql_clauses.specs.declared.rows.Unordered.{Unordered}
use Rattle.sql_clauses.specs.declared.sources.Sources.{Sources}
use Rattle.sql_clauses.specs.Cores.{unmixed}
use Rattle.sql_clauses.specs.Items.{no_outputs}
use Rattle.sql_clauses.specs.Joins.{join_plainly}
use Rattle.sql_clauses.specs.Rows.{finished_rows}
use Rattle.sql_clauses.specs.Sources.{no_sources}
use Rattle.bind_rules.specs.declared.cores.Filtered.{Filtered}
use Rattle.bind_rules.specs.declared.cores.Shown.{Shown}
use Rattle.bind_rules.specs.Bound.{expr_binding, item_binding, join_binding, rows_binding, source_binding, set_binding, condition_of, conjuncts, selected, source_behind, on_behind, key_behind, item_behind, set_behind, item_aggregates}
use Rattle.bind_rules.specs.Cores.{keys_of, with_conjuncts, with_selected, bound_core, set}
use Rattle.bind_rules.specs.Expressions.{some_of}
use Rattle.bind_rules.specs.From.{AreColumns, begin_joins}
use Rattle.bind_rules.specs.Selects as selects
use Rattle.bind_rules.proofs.Arms.{rows_gives, over_bound}
use Rattle.bind_rules.proofs.CoreLaws.{filtered_stage, shown_stage, from_on, core_stage}
use Rattle.bind_rules.proofs.Nodes.{rows_children}
use Rattle.bind_rules.proofs.Standing.{some_of-map}
use Rattle.bind_rules.proofs.Steps.{rows_at}

pub core_children : (place : ℕ) (distinct : Bool) (items : List Item) (first : Source) (joins : List Join) (filter : Option Condition) (group : List Expr) (having : Option Condition)
    → rows_children (Rows-F.Core place distinct items first joins filter group having)
    ≡ Rows-F.Core place distinct (map item_binding items) (source_binding first) (map join_binding joins) (condition_of filter) (map expr_binding group) (condition_of having)
core_children place distinct items first joins None group None = refl
core_children place distinct items first joins None group (Some having) = refl
core_children place distinct items first joins (Some filter) group None = refl
core_children place distinct items first joins (Some filter) group (Some having) = refl

some_bound : (group : List Expr) → selects.has_some group ≡ selects.has_some (map expr_binding group)
some_bound [] = refl
some_bound (key ∷ group) = refl

having_bound : (having : Option Condition) → is_some having ≡ is_some (condition_of having)
having_bound None = refl
having_bound (Some having) = refl

pub grouped_is : (script : List ℕ) (group : List Expr) (having : Option Condition) (items : List Item)
    → ((selects.has_some group || is_some having) || some_of (item_aggregates script) items) ≡ selects.is_grouped script (map expr_binding group) (condition_of having) (map item_binding items)
grouped_is script group having items =
    ap (λ b. (b || is_some having) || some_of (item_aggregates script) items) (some_bound group)
    ∙ ap (λ b. (selects.has_some (map expr_binding group) || b) || some_of (item_aggregates script) items) (having_bound having)
    ∙ ap (λ b. (selects.has_some (map expr_binding group) || is_some (condition_of having)) || b) (some_of-map (selects.aggregates_of script) item_binding items)

pub core_arm : (view over inner : View) (e : Rows) (place : ℕ) (distinct : Bool) (items : List Item) (first : Source) (joins : List Join) (filter : Option Condition) (group : List Expr) (having : Option Condition)
    (grouped : Bool) (sources all : Result Sources BindFault) (columns : List ScopeColumn) (joined : Result Joined BindFault) (plain ons : Result Joined BindFault) (where_conjuncts : Result (List Conjunct) BindFault) (filtered : Result Filtered BindFault)
    (keys : Result (List Tree) BindFault) (outputs : Result Outputs BindFault) (chosen last : Result Selected BindFault) (shown : Result Shown BindFault) (result : Result Unordered BindFault)
    → out-Rows e ≡ Rows-F.Core place distinct items first joins filter group having
    → grouped ≡ ((selects.has_some group || is_some having) || some_of (item_aggregates view.script) items)
    → GoesOn ((source_binding first).sources view First) (Ok no_sources) sources
    → GoesOn (λ s. each (source_behind view) (Ok s) joins) sources all
    → GoesOn (begin_joins (source_binding first).place) all joined
    → AreColumns (source_binding first).place all joined columns
    → over ≡ over_columns view columns
    → GoesOn join_plainly joined plain
    → GoesOn (λ j. each (on_behind over) (Ok j) joins) plain ons
    → Gives (conjuncts over filter) where_conjuncts
    → GoesOnBoth with_conjuncts ons where_conjuncts filtered
    → Gives (each (key_behind over) (Ok []) group) keys
    → inner ≡ over_keys over (keys_of keys)
    → Gives (each (item_behind inner grouped) (Ok no_outputs) items) outputs
    → GoesOn (selected inner having) outputs chosen
    → GoesOn unmixed chosen last
    → GoesOnBoth with_selected keys last shown
    → GoesOnBoth (bound_core place distinct grouped columns) filtered shown result
    → Gives ((rows_binding e).rows view) result
core_arm view over inner e place distinct items first joins filter group having grouped sources all columns joined plain ons where_conjuncts filtered keys outputs chosen last shown result
    is grouping sources_on all_on begins are over_is plain_on ons_on where_given filtered_on keys_given inner_is outputs_given chosen_on last_on shown_on core_on =
    let sources_given : Gives ((source_binding first).sources view First no_sources >>= selects.sources_behind view (map join_binding joins)) all =
    goes_on ((source_binding first).sources view First no_sources) (selects.sources_behind view (map join_binding joins)) sources all sources_on
    (over_bound (selects.source_behind view) join_binding joins sources all all_on) in
    let keys_bound : Gives (selects.keys_over over (map expr_binding group)) keys =
    same_answer (each (key_behind over) (Ok []) group) (selects.keys_over over (map expr_binding group)) keys (each-map (selects.key_over over) expr_binding (Ok []) group) keys_given in
    let outputs_bound : Gives (selects.outputs_over inner grouped (map item_binding items)) outputs =
    same_answer (each (item_behind inner grouped) (Ok no_outputs) items) (selects.outputs_over inner grouped (map item_binding items)) outputs
    (each-map (selects.item_behind inner grouped) item_binding (Ok no_outputs) items) outputs_given in
    let shown_given : Gives (selects.shown_over over grouped (map item_binding items) (map expr_binding group) (condition_of having)) shown =
    shown_stage over inner grouped (map item_binding items) (map expr_binding group) (condition_of having) keys outputs chosen last shown keys_bound inner_is outputs_bound chosen_on last_on shown_on in
    let filtered_goes : GoesOn (selects.filtered_over over (map join_binding joins) (condition_of filter)) joined filtered =
    filtered_stage over (map join_binding joins) (condition_of filter) joined plain ons where_conjuncts filtered plain_on
    (over_bound (selects.on_behind over) join_binding joins plain ons ons_on) where_given filtered_on in
    let core_goes = core_stage place distinct grouped view over (map item_binding items) (map join_binding joins) (condition_of filter) (map expr_binding group) (condition_of having) columns joined filtered shown result
    over_is filtered_goes shown_given core_on in
    let bound = from_on ((source_binding first).sources view First no_sources >>= selects.sources_behind view (map join_binding joins)) (source_binding first).place
    (λ cs j. selects.filtered_over (over_columns view cs) (map join_binding joins) (condition_of filter) j
    >>= (λ f. selects.shown_over (over_columns view cs) grouped (map item_binding items) (map expr_binding group) (condition_of having) >>= bound_core place distinct grouped cs f))
    all joined columns result sources_given begins are core_goes in
    rows_gives view e (Rows-F.Core place distinct items first joins filter group having) result is
    (subst (λ y. Gives (selects.rows_over view y) result) (sym (core_children place distinct items first joins filter group having))
    (subst (λ g. Gives (selects.sources_of view (source_binding first) (map join_binding joins)
    >>= selects.core_over place distinct view g (map item_binding items) (map join_binding joins) (condition_of filter) (map expr_binding group) (condition_of having)) result)
    (grouping ∙ grouped_is view.script group having items) bound))

pub sets_arm : (view : View) (e : Rows) (first lent : Rows) (others : List SetOperand) (got result : Result Unordered BindFault) (operand sets : Result NamedRows BindFault)
    → out-Rows e ≡ Rows-F.Sets first others → lent ≡ first → Gives ((rows_binding lent).rows view) got → GoesOn finished_rows got operand
    → GoesOn (λ l. each (set_behind view) (Ok l) others) operand sets → GoesOn set sets result → Gives ((rows_binding e).rows view) result
sets_arm view e first lent others got result operand sets is at gives finished sets_on set_on =
    rows_gives view e (Rows-F.Sets first others) result is
    (goes_on (selects.operand_over view (rows_binding first) >>= selects.sets_behind view (map set_binding others)) set sets result
    (goes_on (selects.operand_over view (rows_binding first)) (selects.sets_behind view (map set_binding others)) operand sets (rows_at view first lent got operand at gives finished)
    (over_bound (selects.set_behind view) set_binding others operand sets sets_on)) set_on)
