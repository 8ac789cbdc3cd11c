-- A core, put together of its bound clauses.
use Rattle.std.specs.Prelude.{ℕ, Bool, List, [], Result, Ok, Err}
use Rattle.sql_expr.specs.declared.tree.Expr.{Expr as Tree}
use Rattle.bound_tree.specs.declared.select.Conjunct.{Conjunct}
use Rattle.sql_scope.specs.declared.fault.BindFault.{BindFault}
use Rattle.sql_scope.specs.declared.scope.ScopeColumn.{ScopeColumn}
use Rattle.sql_scope.specs.Answer.{Answer}
use Rattle.sql_clauses.specs.declared.cores.NamedRows.{NamedRows}
use Rattle.sql_clauses.specs.declared.cores.Selected.{Selected}
use Rattle.sql_clauses.specs.declared.joins.Joined.{Joined}
use Rattle.sql_clauses.specs.declared.rows.Unordered.{Unordered}
use Rattle.sql_clauses.specs.declared.rows.Unordered.TheVariants.{Core, Set}
use Rattle.bind_rules.specs.declared.cores.Filtered.{Filtered}
use Rattle.bind_rules.specs.declared.cores.Shown.{Shown}

abbrev pub with_conjuncts : Joined → List Conjunct → Answer Filtered
with_conjuncts joined conjuncts = Ok (record { sources = joined.joined; conjuncts = conjuncts })

-- the keys that items may be covered by
abbrev pub keys_of : Result (List Tree) BindFault → List Tree
keys_of (Err fault) = []
keys_of (Ok keys) = keys

abbrev pub with_selected : List Tree → Selected → Answer Shown
with_selected keys selected = Ok (record { keys = keys; selected = selected })

abbrev pub bound_core : ℕ → Bool → Bool → List ScopeColumn → Filtered → Shown → Answer Unordered
bound_core place distinct grouped columns filtered shown = Ok (Core (record {
  place = place;
  distinct = distinct;
  sources = filtered.sources;
  columns = columns;
  conjuncts = filtered.conjuncts;
  grouped = grouped;
  keys = shown.keys;
  selected = shown.selected;
}))

abbrev pub set : NamedRows → Answer Unordered
set rows = Ok (Set rows)
