-- A core, once its clauses are bound.
use Rattle.std.specs.Prelude.{ℕ, ◌+◌, Bool, true, ◌&&◌, nat_le, List, ◌++◌, length, Option, Some, None, Ok, if◌then◌else◌}
use Rattle.ooc_types.specs.declared.refusal.RefusalKind.TheVariants.{DistinctMix, TooManyColumns}
use Rattle.sql_expr.specs.declared.tree.Expr.{Expr as Tree}
use Rattle.bound_tree.specs.declared.select.Grouping.{Grouping}
use Rattle.bound_tree.specs.declared.select.BoundRows.{BoundRows}
use Rattle.bound_tree.specs.declared.select.BoundRows.TheVariants.{Core as CoreRows}
use Rattle.bound_tree.specs.declared.select.BoundRows.TheViews.{roll-BoundCore}
use Rattle.sql_scope.specs.declared.part.Part.{Part}
use Rattle.sql_scope.specs.Answer.{Answer, unless, ◌>>=◌}
use Rattle.sql_clauses.specs.declared.aggregates.Gathered.{Gathered}
use Rattle.sql_clauses.specs.declared.items.Outputs.{Outputs}
use Rattle.sql_clauses.specs.declared.cores.Selected.{Selected}
use Rattle.sql_clauses.specs.declared.cores.Core.{Core}
use Rattle.sql_clauses.specs.declared.cores.NamedRows.{NamedRows}
use Rattle.sql_clauses.specs.Aggregates.{are_unmixed, first_call, gathered}
use Rattle.sql_clauses.specs.Conditions.{condition, conjuncts}
use Rattle.sql_clauses.specs.Grouping.{group_place, list_over, over_group}
use Rattle.sql_clauses.specs.Items.{covered}
use Rattle.sql_clauses.specs.Tables.{most_columns}

abbrev pub without_having : Outputs → Answer Selected
without_having outputs = Ok (record { outputs = outputs; having = None })

abbrev pub with_test : Outputs → Part → Answer Selected
with_test outputs part =
    Ok (record { outputs = record outputs { calls = outputs.calls ++ part.calls }; having = Some part.tree })

-- HAVING behind the items: it is BOOLEAN, and then its columns are covered
abbrev pub with_having : ℕ → Outputs → Part → Answer Selected
with_having place outputs part = condition place part >>= (λ test. covered true test >>= with_test outputs)

-- `count(DISTINCT x)` stands alone: asked once the items and HAVING are bound
abbrev pub unmixed : Selected → Answer Selected
unmixed selected = unless (are_unmixed selected.outputs.calls) (first_call selected.outputs.calls) DistinctMix selected

-- ---- the end of a core

-- how many items a core may have
abbrev pub most_items : ℕ
most_items = 64

-- the items, and the keys with the different aggregates
abbrev pub is_narrow : Core → Gathered → Bool
is_narrow core all =
    nat_le (length core.selected.outputs.trees) most_items && nat_le (length core.keys + length all.aggregates) most_columns

-- an expression over the sources and the aggregates as written, over the row of a group
abbrev pub grouped_trees : Core → Gathered → List Tree → List Tree
grouped_trees core all trees = list_over core.keys (group_place (length core.keys) (length core.columns) all.calls) trees

abbrev pub core_rows : Core → Option Grouping → List Tree → BoundRows
core_rows core grouping items = CoreRows (roll-BoundCore (record {
  sources = core.sources;
  conjuncts = core.conjuncts;
  grouping = grouping;
  items = items;
  distinct = core.distinct;
}))

abbrev pub plain_rows : Core → BoundRows
plain_rows core = core_rows core None core.selected.outputs.trees

-- HAVING over the row of a group, and then the operands of its outermost AND: an AND that is a key is its column
abbrev pub having_over : Core → Gathered → Option Tree → Option (List Tree)
having_over core all None = None
having_over core all (Some having) = Some (conjuncts (over_group core.keys (group_place (length core.keys) (length core.columns) all.calls) having))

abbrev pub grouped_rows : Core → Gathered → BoundRows
grouped_rows core all =
    core_rows core (Some (record { keys = core.keys; aggregates = all.aggregates; having = having_over core all core.selected.having }))
    (grouped_trees core all core.selected.outputs.trees)

abbrev pub rows_of : Core → Gathered → BoundRows
rows_of core all = if core.grouped then grouped_rows core all else plain_rows core

abbrev pub named_rows : Core → Gathered → Answer NamedRows
named_rows core all =
    unless (is_narrow core all) core.place TooManyColumns (record { rows = rows_of core all; columns = core.selected.outputs.columns })

-- Once its order is bound, or it is an operand: there are not too many items, nor keys and aggregates.
abbrev pub finished : Core → Answer NamedRows
finished core = named_rows core (gathered core.selected.outputs.calls)
