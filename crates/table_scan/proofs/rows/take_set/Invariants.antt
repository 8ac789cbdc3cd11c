use Rattle.std.proofs.Common.{length}
use Rattle.std.specs.Prelude.{IsTrue}
use Rattle.page_body.specs.Keeps.{Kept}
use Rattle.row_cursors.specs.RowCursors.{rest_rows}
use Rattle.table_scan.specs.Sink.{sink_of}
use Rattle.table_scan.specs.Steps.{TakesSome}
use Rattle.table_scan.specs.TableRows.{rows_ahead, rows_of_set}
use Rattle.table_scan.proofs.Going.{HasGone}
use Rattle.table_scan.proofs.rows.take_set.Given as goal

abbrev pub invariant-rows : goal.invariant-rows
invariant-rows g l = record {
  gone : IsTrue g.P.Pages.terms.told → HasGone l.reading (rows_of_set g.P.Pages.terms l.set) (rows_ahead g.P.Pages.terms l.set l.cursor) (sink_of l.fn.into) (sink_of l.into);
  some : TakesSome l.reading (sink_of l.fn.into) (sink_of l.into);
  kept : Kept (g.P.Pages.view l.fn.pages) (g.P.Pages.view l.pages);
}

abbrev pub decreases-rows : goal.decreases-rows
decreases-rows g l = length (rest_rows g.P.Pages.terms l.set l.cursor)
