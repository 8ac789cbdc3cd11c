-- Rows in the walk, whose lists are gone through as slices.
use Rattle.std.proofs.Common.{◌≡◌, ℕ, Bool, List, [], subst, ap, ◌∙◌}
use Rattle.std.specs.Prelude.{◌||◌, Option, Result, Ok, is_some}
use Rattle.bound_tree.specs.declared.kinds.JoinKind.TheVariants.{First}
use Rattle.bound_tree.specs.declared.select.Conjunct.{Conjunct}
use Rattle.sql_expr.specs.declared.tree.Expr.{Expr as Tree}
use Rattle.sql_grammar.specs.declared.tree.expr.Expr.{Expr}
use Rattle.sql_grammar.specs.declared.tree.select.Condition.{Condition}
use Rattle.sql_grammar.specs.declared.tree.select.Item.{Item}
use Rattle.sql_grammar.specs.declared.tree.select.Join.{Join}
use Rattle.sql_grammar.specs.declared.tree.select.Rows.{Rows}
use Rattle.sql_grammar.specs.declared.tree.select.SetOperand.{SetOperand}
use Rattle.sql_grammar.specs.declared.tree.select.Source.{Source}
use Rattle.sql_grammar.specs.declared.tree.expr.Argument.TheOpen.{Rows-F}
use Rattle.sql_grammar.specs.declared.tree.expr.Argument.TheViews.{out-Rows}
use Rattle.sql_scope.specs.declared.fault.BindFault.{BindFault}
use Rattle.sql_scope.specs.declared.scope.ScopeColumn.{ScopeColumn}
use Rattle.sql_scope.specs.Answer.{Gives, GoesOn, GoesOnBoth, each}
use Rattle.sql_scope.specs.Scopes.{View, over_columns, over_keys}
use Rattle.sql_clauses.specs.declared.cores.NamedRows.{NamedRows}
use Rattle.sql_clauses.specs.declared.cores.Selected.{Selected}
use Rattle.sql_clauses.specs.declared.items.Outputs.{Outputs}
use Rattle.sql_clauses.specs.declared.joins.Joined.{Joined}
use Rattle.sql_clauses.specs.declared.rows.Unordered.{Unordered}
use Rattle.sql_clauses.specs.declared.sources.Sources.{Sources}
use Rattle.sql_clauses.specs.Cores.{unmixed}
use Rattle.sql_clauses.specs.Items.{no_outputs}
use Rattle.sql_clauses.specs.Joins.{join_plainly}
use Rattle.sql_clauses.specs.Rows.{finished_rows}
use Rattle.sql_clauses.specs.Sources.{no_sources}
use Rattle.bind_rules.specs.declared.cores.Filtered.{Filtered}
use Rattle.bind_rules.specs.declared.cores.Shown.{Shown}
use Rattle.bind_rules.specs.Bound.{rows_binding, source_binding, conjuncts, selected, source_behind, on_behind, key_behind, item_behind, set_behind, item_aggregates}
use Rattle.bind_rules.specs.Cores.{keys_of, with_conjuncts, with_selected, bound_core, set}
use Rattle.bind_rules.specs.Expressions.{some_of}
use Rattle.bind_rules.specs.From.{AreColumns, begin_joins}
use Rattle.bind_rules.specs.Selects.{has_some}
use Rattle.bind_rules.proofs.RowsArms.{core_arm, sets_arm}
use Rattle.sql_bind.proofs.ExprArms.{over_slice}

-- the lists of a core as slices
pub record AreSlices (items shown : List Item) (joins lent : List Join) (group keys : List Expr) : Type 0 where
  pub items_are : shown ≡ items
  pub joins_are : lent ≡ joins
  pub group_is : keys ≡ group

-- the sources of a core, none of which is joined yet
pub record AreBegun (view : View) (first : Source) (lent : List Join) (columns : List ScopeColumn) (begun sources all : Result Sources BindFault) (joined : Result Joined BindFault) : Type 0 where
  pub begun_is : begun ≡ Ok no_sources
  pub first_on : GoesOn ((source_binding first).sources view First) begun sources
  pub all_on : GoesOn (λ s. each (source_behind view) (Ok s) lent) sources all
  pub joined_on : GoesOn (begin_joins (source_binding first).place) all joined
  pub columns_are : AreColumns (source_binding first).place all joined columns

-- ON and WHERE
pub record AreFiltered (over : View) (filter : Option Condition) (lent : List Join) (joined plain ons : Result Joined BindFault) (where_conjuncts : Result (List Conjunct) BindFault) (filtered : Result Filtered BindFault) : Type 0 where
  pub plain_on : GoesOn join_plainly joined plain
  pub ons_on : GoesOn (λ j. each (on_behind over) (Ok j) lent) plain ons
  pub where_given : Gives (conjuncts over filter) where_conjuncts
  pub filtered_on : GoesOnBoth with_conjuncts ons where_conjuncts filtered

-- GROUP BY, the items and HAVING
pub record AreShown (over inner : View) (grouped : Bool) (having : Option Condition) (slice : List Item) (group : List Expr) (keys : Result (List Tree) BindFault) (outputs : Result Outputs BindFault)
    (chosen last : Result Selected BindFault) (shown : Result Shown BindFault) : Type 0 where
  pub keys_given : Gives (each (key_behind over) (Ok []) group) keys
  pub inner_is : inner ≡ over_keys over (keys_of keys)
  pub outputs_given : Gives (each (item_behind inner grouped) (Ok no_outputs) slice) outputs
  pub chosen_on : GoesOn (selected inner having) outputs chosen
  pub last_on : GoesOn unmixed chosen last
  pub shown_on : GoesOnBoth with_selected keys last shown

pub core_at : (view over inner : View) (e : Rows) (place : ℕ) (distinct : Bool) (items slice : List Item) (first : Source) (joins lent : List Join) (filter : Option Condition) (group keyed : List Expr) (having : Option Condition)
    (grouped : Bool) (begun sources all : Result Sources BindFault) (columns : List ScopeColumn) (joined plain ons : Result Joined BindFault) (where_conjuncts : Result (List Conjunct) BindFault) (filtered : Result Filtered BindFault)
    (keys : Result (List Tree) BindFault) (outputs : Result Outputs BindFault) (chosen last : Result Selected BindFault) (shown : Result Shown BindFault) (result : Result Unordered BindFault)
    → out-Rows e ≡ Rows-F.Core place distinct items first joins filter group having
    → AreSlices items slice joins lent group keyed
    → grouped ≡ ((has_some keyed || is_some having) || some_of (item_aggregates view.script) slice)
    → AreBegun view first lent columns begun sources all joined
    → over ≡ over_columns view columns
    → AreFiltered over filter lent joined plain ons where_conjuncts filtered
    → AreShown over inner grouped having slice keyed keys outputs chosen last shown
    → GoesOnBoth (bound_core place distinct grouped columns) filtered shown result
    → Gives ((rows_binding e).rows view) result
core_at view over inner e place distinct items slice first joins lent filter group keyed having grouped begun sources all columns joined plain ons where_conjuncts filtered keys outputs chosen last shown result
    is slices grouping from over_is where_on show on =
    core_arm view over inner e place distinct items first joins filter group having grouped sources all columns joined plain ons where_conjuncts filtered keys outputs chosen last shown result
    is
    (grouping ∙ ap (λ k. (has_some k || is_some having) || some_of (item_aggregates view.script) slice) slices.group_is
    ∙ ap (λ i. (has_some group || is_some having) || some_of (item_aggregates view.script) i) slices.items_are)
    (subst (λ b. GoesOn ((source_binding first).sources view First) b sources) from.begun_is from.first_on)
    (over_slice (source_behind view) lent joins sources all slices.joins_are from.all_on)
    from.joined_on from.columns_are over_is where_on.plain_on
    (over_slice (on_behind over) lent joins plain ons slices.joins_are where_on.ons_on)
    where_on.where_given where_on.filtered_on
    (subst (λ k. Gives (each (key_behind over) (Ok []) k) keys) slices.group_is show.keys_given)
    show.inner_is
    (subst (λ i. Gives (each (item_behind inner grouped) (Ok no_outputs) i) outputs) slices.items_are show.outputs_given)
    show.chosen_on show.last_on show.shown_on on

pub sets_at : (view : View) (e : Rows) (first lent : Rows) (others slice : List SetOperand) (got result : Result Unordered BindFault) (operand sets : Result NamedRows BindFault)
    → out-Rows e ≡ Rows-F.Sets first others → lent ≡ first → slice ≡ others → Gives ((rows_binding lent).rows view) got → GoesOn finished_rows got operand
    → GoesOn (λ l. each (set_behind view) (Ok l) slice) operand sets → GoesOn set sets result → Gives ((rows_binding e).rows view) result
sets_at view e first lent others slice got result operand sets is at same gives finished sets_on set_on =
    sets_arm view e first lent others got result operand sets is at gives finished (over_slice (set_behind view) slice others operand sets same sets_on) set_on
