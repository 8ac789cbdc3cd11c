use Rattle.std.proofs.Common.{[], ap, sym, get_or}
use Rattle.std.specs.Prelude.{Ok, None, false}
use Rattle.sql_grammar.specs.declared.tree.statement.Column.{Column}
use Rattle.sql_scope.proofs.Each.{begins, goes_further_at, ends, step_on}
use Rattle.sql_clauses.specs.Tables.{column_behind}
use Rattle.sql_clauses.proofs.tables.all_columns.Goals as goal

pub loop-column-init : goal.loop-column-init
loop-column-init c = begins _ (Ok []) _ _ (ap Ok (sym c.new_schema.ensures))

pub loop-column-preserved : goal.loop-column-preserved
loop-column-preserved c =
    let none : Column = record { name = record { start = 0; end = 0 }; kind = record { name = record { start = 0; end = 0 }; sizes = None }; not_null = false } in
    goes_further_at (column_behind c.args.scope.now) _ c.loop-column.columns c.column_behind-columns.result c.args.written.now c.loop-column.column-index none
    c.loop-column-test.true c.loop-column.invariant
    (step_on (column_behind c.args.scope.now) (get_or c.args.written.now c.loop-column.column-index none) c.loop-column.columns c.column_behind-columns.result c.column_behind-columns.ensures)

pub returns : goal.returns
returns c = ends (column_behind c.args.scope.now) _ c.loop-column.columns c.args.written.now c.loop-column.column-index c.loop-column-test.false c.loop-column.invariant
