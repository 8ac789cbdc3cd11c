use Rattle.std.proofs.Common.{drop}
use Rattle.std.specs.Prelude.{IsTrue}
use Rattle.page_body.specs.Keeps.{Kept}
use Rattle.table_scan.specs.Sink.{sink_of}
use Rattle.table_scan.specs.Steps.{TakesSome}
use Rattle.table_scan.specs.TableRows.{rows_of_sets}
use Rattle.table_scan.proofs.Going.{HasGone}
use Rattle.table_scan.proofs.rows.take_sets.Given as goal

abbrev pub invariant-loop-set : goal.invariant-loop-set
invariant-loop-set g l = record {
  gone : IsTrue g.P.Pages.terms.told → HasGone l.reading (rows_of_sets g.P.Pages.terms l.sets) (rows_of_sets g.P.Pages.terms (drop l.set-index l.sets)) (sink_of l.fn.into) (sink_of l.into);
  some : TakesSome l.reading (sink_of l.fn.into) (sink_of l.into);
  kept : Kept (g.P.Pages.view l.fn.pages) (g.P.Pages.view l.pages);
}
