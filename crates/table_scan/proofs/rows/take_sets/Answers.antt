use Rattle.std.proofs.Common.{◌+◌, List, drop, refl, sym, subst}
use Rattle.page_body.proofs.Kept.{kept_same, kept_then}
use Rattle.row_sets.specs.Sets.{IsHere}
use Rattle.sql_meaning.specs.Found.{Row}
use Rattle.table_scan.specs.Outcomes.{IsNoted}
use Rattle.table_scan.specs.Sink.{conditions_in, sink_of}
use Rattle.table_scan.specs.TableRows.{rows_of_set, rows_of_sets}
use Rattle.table_scan.proofs.Going.{gone-more, gone-none, gone-noted, noted-before, sets-next, takes-none, takes-then}
use Rattle.table_scan.proofs.Resting.{here-on}
use Rattle.table_scan.proofs.rows.take_sets.Goals as goal

pub loop-set-init : goal.loop-set-init
loop-set-init g c = record {
  gone = λ told. gone-none c.args.reading.now (rows_of_sets g.P.Pages.terms c.args.sets.now) (rows_of_sets g.P.Pages.terms c.args.sets.now) (sink_of c.args.into.now) (sink_of c.args.into.now) refl refl;
  some = takes-none c.args.reading.now (sink_of c.args.into.now) (sink_of c.args.into.now) refl;
  kept = kept_same (g.P.Pages.view c.args.pages.now);
}

pub take_set-requires-clause-here : goal.take_set-requires-clause-here
take_set-requires-clause-here g c =
    let a = g.P.Pages.view c.args.pages.now in
    let set = c.set-item.result in
    here-on g.P.Pages.terms a (g.P.Pages.view c.loop-set.pages) set c.loop-set.invariant.kept
    (subst (λ s. IsHere a s) (sym c.set-item.is) (c.requires.sets c.loop-set.set-index set c.loop-set-test.true).here)

pub returns-in-Err-clause-noted : goal.returns-in-Err-clause-noted
returns-in-Err-clause-noted g c = λ told.
    let t = g.P.Pages.terms in
    let sets = c.args.sets.now in
    let i = c.loop-set.set-index in
    let set = c.set-item.result in
    let conditions = conditions_in c.args.reading.now in
    let why = c.in-Err.fault in
    gone-noted c.args.reading.now (rows_of_sets t sets) (rows_of_sets t (drop i sets)) (sink_of c.args.into.now) (sink_of c.loop-set.into) why (c.loop-set.invariant.gone told)
    (subst (λ (l : List Row). IsNoted conditions l why) (sym (sets-next t sets i set c.loop-set-test.true c.set-item.is))
    (noted-before conditions (rows_of_set t set) (rows_of_sets t (drop (i + 1) sets)) why (c.in-Err.ensures.noted told)))

pub loop-set-preserved : goal.loop-set-preserved
loop-set-preserved g c =
    let t = g.P.Pages.terms in
    let sets = c.args.sets.now in
    let i = c.loop-set.set-index in
    let set = c.set-item.result in
    record {
      gone = λ told. gone-more c.args.reading.now (rows_of_sets t sets) (rows_of_sets t (drop i sets)) (rows_of_sets t (drop (i + 1) sets)) (rows_of_set t set) (sink_of c.args.into.now) (sink_of c.loop-set.into) (sink_of c.take_set.new.into)
          (c.loop-set.invariant.gone told) (sets-next t sets i set c.loop-set-test.true c.set-item.is) (c.in-Ok.ensures.taken told) (c.in-Ok.ensures.clean told);
      some = takes-then c.args.reading.now (sink_of c.args.into.now) (sink_of c.loop-set.into) (sink_of c.take_set.new.into) c.loop-set.invariant.some c.in-Ok.ensures.some;
      kept = kept_then (g.P.Pages.view c.args.pages.now) (g.P.Pages.view c.loop-set.pages) (g.P.Pages.view c.take_set.new.pages) c.loop-set.invariant.kept c.take_set.ensures.kept;
    }
