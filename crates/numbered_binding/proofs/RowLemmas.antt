-- Rows and their order.
use Rattle.std.proofs.Common.{ℕ, ◌≤◌, Bool, true, false, List, subst, Option, None, cond, arith}
use Rattle.std.specs.Prelude.{⊤, ◌<◌}
use Rattle.ooc_types.specs.declared.refusal.RefusalKind.TheVariants.{TooManyColumns}
use Rattle.sql_expr.specs.declared.tree.Expr.{Expr as Tree}
use Rattle.bound_tree.specs.declared.select.BoundCore.{BoundCore}
use Rattle.bound_tree.specs.declared.select.BoundRows.{BoundRows}
use Rattle.bound_tree.specs.declared.select.BoundSelect.{BoundSelect}
use Rattle.bound_tree.specs.declared.select.BoundSource.{BoundSource}
use Rattle.bound_tree.specs.declared.select.Conjunct.{Conjunct}
use Rattle.bound_tree.specs.declared.select.Cut.{Cut}
use Rattle.bound_tree.specs.declared.select.Grouping.{Grouping}
use Rattle.bound_tree.specs.declared.select.SourceRows.{SourceRows}
use Rattle.bound_tree.specs.declared.select.BoundRows.TheOpen.{BoundCore-F, BoundRows-F}
use Rattle.bound_tree.specs.declared.select.BoundRows.TheVariants.{rolls-Core, rolls-Set}
use Rattle.bound_tree.specs.declared.select.BoundRows.TheViews.{roll-BoundCore}
use Rattle.sql_plan.specs.Chosen.{columns_limit}
use Rattle.sql_plan.specs.Numbered.{AreNumbered, AreNumberedRows, IsNumberedCore}
use Rattle.sql_grammar.specs.declared.tree.expr.Span.{Span}
use Rattle.sql_grammar.specs.declared.tree.select.Key.{Key}
use Rattle.sql_grammar.specs.declared.tree.select.SetKind.{SetKind as WrittenKind}
use Rattle.sql_scope.specs.Answer.{◌>>=◌}
use Rattle.sql_scope.specs.Scopes.{View}
use Rattle.sql_clauses.specs.declared.cores.Core.{Core as BoundClauses}
use Rattle.sql_clauses.specs.declared.cores.NamedRows.{NamedRows}
use Rattle.sql_clauses.specs.declared.rows.Unordered.{Unordered}
use Rattle.sql_clauses.specs.declared.rows.Unordered.TheVariants.{Core, Set}
use Rattle.sql_clauses.specs.Aggregates.{gathered}
use Rattle.sql_clauses.specs.Cores.{core_rows, plain_rows, rows_of}
use Rattle.sql_clauses.specs.Rows.{combined, cut_rows, finished_rows, select_of, select_with, set_kind, set_rows}
use Rattle.sql_clauses.specs.Sets.{common_columns, types_of}
use Rattle.well_formed.proofs.Parts.{core_made, rows_made, whole_made}
use Rattle.numbered_binding.specs.Kept.{AreNamed, AreUnordered, IsNumberedFrom, OfAnswer}
use Rattle.numbered_binding.proofs.AnswerLemmas.{asked-for, behind-any, on-answer}

few-numbered : (n : ℕ) → n ≤ 64 → n < columns_limit
unfolding columns_limit
few-numbered n few = omega arith

core-kept : (core : BoundClauses) (grouping : Option Grouping) (items : List Tree) → IsNumberedFrom core.sources core.conjuncts → AreNumberedRows (core_rows core grouping items)
core-kept core grouping items is =
    let node : BoundCore-F BoundRows Conjunct SourceRows BoundCore BoundSelect BoundSource =
    record { sources = core.sources; conjuncts = core.conjuncts; grouping = grouping; items = items; distinct = core.distinct } in
    let whole : BoundCore = roll-BoundCore node in
    subst AreNumberedRows (rolls-Core whole) (rows_made (λ x. ⊤) (λ x. ⊤) (λ x. ⊤) IsNumberedCore (λ x. ⊤) (λ x. ⊤) (BoundRows-F.Core whole)
    (core_made (λ x. ⊤) (λ x. ⊤) (λ x. ⊤) IsNumberedCore (λ x. ⊤) (λ x. ⊤) node (is.numbered, is.conjuncts) (few-numbered _ is.few)) tt)

rows-kept : (b : Bool) (core : BoundClauses) (grouping : Option Grouping) (items : List Tree) → IsNumberedFrom core.sources core.conjuncts → AreNumberedRows (cond b (core_rows core grouping items) (plain_rows core))
rows-kept true core grouping items is = core-kept core grouping items is
rows-kept false core grouping items is = core-kept core None core.selected.outputs.trees is

pub finished-kept : (rows : Unordered) → AreUnordered rows → OfAnswer AreNamed (finished_rows rows)
finished-kept (Core core) are =
    asked-for AreNamed _ core.place TooManyColumns (record { rows = rows_of core (gathered core.selected.outputs.calls); columns = core.selected.outputs.columns })
    (λ e. rows-kept core.grouped core _ _ are)
finished-kept (Set rows) are = are

pub combined-kept : (kind : WrittenKind) (all : Bool) (place : ℕ) (left right : NamedRows) → AreNamed left → AreNamed right → OfAnswer AreNamed (combined kind all place left right)
combined-kept kind all place left right l r =
    behind-any AreNamed (common_columns place left.columns right.columns) (set_rows (set_kind kind) all left right)
    (λ columns. subst AreNumberedRows (rolls-Set (set_kind kind) all left.rows right.rows (types_of columns))
    (rows_made (λ x. ⊤) (λ x. ⊤) (λ x. ⊤) IsNumberedCore (λ x. ⊤) (λ x. ⊤) (BoundRows-F.Set (set_kind kind) all left.rows right.rows (types_of columns)) (l, r) tt))

pub select-kept : (view : View) (order : List Key) (most from : Option Span) (rows : Unordered) → AreUnordered rows → OfAnswer AreNumbered (select_of view order most from rows)
select-kept view order most from rows are =
    behind-any AreNumbered (cut_rows view rows order most from) (λ (window : Option Cut). finished_rows rows >>= select_with window)
    (λ window. on-answer AreNamed AreNumbered (finished_rows rows) (select_with window) (finished-kept rows are)
    (λ named h. whole_made (λ x. ⊤) (λ x. ⊤) (λ x. ⊤) IsNumberedCore (λ x. ⊤) (λ x. ⊤) (record { rows = named.rows; columns = named.columns; cut = window }) h tt))
