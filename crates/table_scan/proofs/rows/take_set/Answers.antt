use Rattle.page_body.proofs.Kept.{kept_then}
use Rattle.table_scan.specs.Sink.{sink_of}
use Rattle.table_scan.specs.TableRows.{rows_ahead, rows_of_set}
use Rattle.table_scan.proofs.Going.{gone-noted, gone-step, takes-then}
use Rattle.table_scan.proofs.Resting.{here-on}
use Rattle.table_scan.proofs.rows.take_set.Goals as goal

pub take_next-requires-clause-here : goal.take_next-requires-clause-here
take_next-requires-clause-here g c =
    here-on g.P.Pages.terms (g.P.Pages.view c.args.pages.now) (g.P.Pages.view c.rows.pages) c.args.set.now c.rows.invariant.kept c.requires.here

pub rows-preserved : goal.rows-preserved
rows-preserved g c =
    let t = g.P.Pages.terms in
    let set = c.args.set.now in
    record {
      gone = λ told. gone-step c.args.reading.now (rows_of_set t set) (rows_ahead t set c.rows.cursor) (rows_ahead t set c.take_next.new.cursor) (sink_of c.args.into.now) (sink_of c.rows.into) (sink_of c.take_next.new.into)
          (c.rows.invariant.gone told) (c.in-Ok.ensures.step told c.if-not-more.false);
      some = takes-then c.args.reading.now (sink_of c.args.into.now) (sink_of c.rows.into) (sink_of c.take_next.new.into) c.rows.invariant.some c.in-Ok.ensures.some;
      kept = kept_then (g.P.Pages.view c.args.pages.now) (g.P.Pages.view c.rows.pages) (g.P.Pages.view c.take_next.new.pages) c.rows.invariant.kept c.take_next.ensures.kept;
    }

pub returns-in-Err-clause-noted : goal.returns-in-Err-clause-noted
returns-in-Err-clause-noted g c = λ told.
    let t = g.P.Pages.terms in
    let set = c.args.set.now in
    gone-noted c.args.reading.now (rows_of_set t set) (rows_ahead t set c.rows.cursor) (sink_of c.args.into.now) (sink_of c.rows.into) c.in-Err.fault (c.rows.invariant.gone told) (c.in-Err.ensures.noted told)

pub returns-then-not-more-clause-some : goal.returns-then-not-more-clause-some
returns-then-not-more-clause-some g c =
    takes-then c.args.reading.now (sink_of c.args.into.now) (sink_of c.rows.into) (sink_of c.take_next.new.into) c.rows.invariant.some c.in-Ok.ensures.some
