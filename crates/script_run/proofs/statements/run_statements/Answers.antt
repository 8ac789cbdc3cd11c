use Rattle.std.proofs.Common.{◌+◌, ◌∙◌, drop, arith, refl}
use Rattle.std.proofs.Math.ListN.{drop_of_length-le}
use Rattle.formed_binding.specs.Placed.{StandApart}
use Rattle.row_sets.proofs.Changed.{changes_none}
use Rattle.paged_catalog.specs.Meaning.{catalog_of, catalog_holding}
use Rattle.paged_catalog.proofs.Leaving.{leaves_then, idle_still}
use Rattle.script_says.proofs.Endings.{text_written}
use Rattle.script_says.proofs.SoFar.{Appends-none, drop_next}
use Rattle.script_says.proofs.LastLines.{last_line, last_closing, grown_nothing, grown_more}
use Rattle.statement_run.specs.Running.{run_closing}
use Rattle.script_run.proofs.Told.{at_place, told_none, told_written, told_lost, told_stopped, told_done}
use Rattle.script_run.proofs.Ran.{ends_undone, ran_none, ran_more, ran_all}
use Rattle.script_run.proofs.Causing.{cause_in, cause_ends, not_done, not_written}
use Rattle.script_run.proofs.statements.run_statements.Goals as goal

pub run_statement-requires-clause-apart : goal.run_statement-requires-clause-apart
run_statement-requires-clause-apart g c =
    let l = c.loop-statement in
    at_place StandApart c.args.statements.now l.statement-index c.statement-item.result c.requires.apart c.loop-statement-test.true c.statement-item.is

pub end-requires : goal.end-requires
end-requires g c = not_written _ _ _ _ _ c.in-Err.status c.in-Err.ensures.cause

pub loop-statement-init : goal.loop-statement-init
loop-statement-init g c =
    let t = g.P.Pages.terms in
    let a = g.P.Pages.view c.args.pages.now in
    let written = g.K.Sink.written c.args.out.now in
    record {
      counted = refl;
      leaves = record { stands = c.requires.stands; here = c.requires.here; changes = changes_none t (catalog_holding t c.args.catalog.now) a };
      idle = c.requires.idle;
      holds = refl;
      later = omega arith;
      faults = refl;
      grown = grown_nothing written written (Appends-none written);
      so_far = λ told. told_none a.page_bytes c.args.script.now (catalog_of t c.args.catalog.now) c.args.statements.now (g.F.Files.holds c.args.files.now) written;
      ran = λ told. ran_none a.page_bytes c.args.script.now (catalog_of t c.args.catalog.now) c.args.statements.now (g.F.Files.holds c.args.files.now) written;
    }

pub loop-statement-preserved : goal.loop-statement-preserved
loop-statement-preserved g c =
    let t = g.P.Pages.terms in
    let view = g.P.Pages.view in
    let l = c.loop-statement in
    let i = l.invariant in
    let all = c.args.statements.now in
    let a = view c.args.pages.now in
    let is = drop_next all l.statement-index c.statement-item.result c.loop-statement-test.true c.statement-item.is in
    let leaves = c.run_statement.ensures.leaves in
    let later = c.run_statement.ensures.later in
    let written = rw (c.as_slice.ensures.value) at c.in-Ok-write_all.ensures.bytes in
    record {
      counted = let e = i.counted in omega (arith, e);
      leaves = leaves_then t a (view l.pages) (view c.run_statement.new.pages) c.args.catalog.now l.catalog c.run_statement.new.catalog i.leaves leaves;
      idle = idle_still t (view l.pages) (view c.run_statement.new.pages) l.catalog c.run_statement.new.catalog leaves i.idle;
      holds = c.run_statement.ensures.holds ∙ i.holds;
      later = let e = i.later in omega (arith, e, later);
      faults = c.in-Ok-write_all.ensures.cause ∙ i.faults;
      grown = grown_more _ _ _ c.in-Ok.block.items i.grown c.in-Ok.ensures.block written;
      so_far = λ told. told_written a.page_bytes c.args.script.now (catalog_of t c.args.catalog.now) all (g.F.Files.holds c.args.files.now) (g.F.Files.holds l.files) i.holds (view l.pages).page_bytes i.leaves.changes.page_bytes
          l.number (catalog_of t l.catalog) (catalog_of t c.run_statement.new.catalog) c.statement-item.result (drop l.statement-index all) (drop (l.statement-index + 1) all) is
          (g.K.Sink.written c.args.out.now) (g.K.Sink.written l.out) (g.K.Sink.written c.write_all.new.out) (i.so_far told) c.in-Ok.block.items (c.in-Ok.ensures.step told) written;
      ran = λ told. ran_more a.page_bytes c.args.script.now (catalog_of t c.args.catalog.now) all (g.F.Files.holds c.args.files.now) (g.F.Files.holds l.files) i.holds (view l.pages).page_bytes i.leaves.changes.page_bytes
          l.number (catalog_of t l.catalog) (catalog_of t c.run_statement.new.catalog) c.statement-item.result (drop l.statement-index all) (drop (l.statement-index + 1) all) is
          (g.K.Sink.written c.args.out.now) (g.K.Sink.written l.out) (g.K.Sink.written c.write_all.new.out) (i.ran told) c.in-Ok.block.items (c.in-Ok.ensures.step told) written;
    }

pub returns-in-Err-write_all-clause-says : goal.returns-in-Err-write_all-clause-says
returns-in-Err-write_all-clause-says g c = λ told.
    let t = g.P.Pages.terms in
    let view = g.P.Pages.view in
    let l = c.loop-statement in
    let i = l.invariant in
    let all = c.args.statements.now in
    let is = drop_next all l.statement-index c.statement-item.result c.loop-statement-test.true c.statement-item.is in
    told_lost (view c.args.pages.now).page_bytes c.args.script.now (catalog_of t c.args.catalog.now) all (g.F.Files.holds c.args.files.now) (g.F.Files.holds l.files) i.holds (view l.pages).page_bytes i.leaves.changes.page_bytes
    l.number (catalog_of t l.catalog) (catalog_of t c.run_statement.new.catalog) c.statement-item.result (drop l.statement-index all) (drop (l.statement-index + 1) all) is
    (g.K.Sink.written c.args.out.now) (g.K.Sink.written l.out) (g.K.Sink.written c.write_all.new.out) (i.so_far told) c.in-Ok.block.items (c.in-Ok.ensures.step told)
    (rw (c.as_slice.ensures.value) at c.in-Err-write_all.ensures.bytes)

pub returns-in-Err-write_all-clause-leaves : goal.returns-in-Err-write_all-clause-leaves
returns-in-Err-write_all-clause-leaves g c =
    let view = g.P.Pages.view in
    let l = c.loop-statement in
    leaves_then g.P.Pages.terms (view c.args.pages.now) (view l.pages) (view c.run_statement.new.pages) c.args.catalog.now l.catalog c.run_statement.new.catalog l.invariant.leaves c.run_statement.ensures.leaves

pub returns-in-Err-clause-says : goal.returns-in-Err-clause-says
returns-in-Err-clause-says g c = λ told.
    let t = g.P.Pages.terms in
    let view = g.P.Pages.view in
    let l = c.loop-statement in
    let i = l.invariant in
    let all = c.args.statements.now in
    let is = drop_next all l.statement-index c.statement-item.result c.loop-statement-test.true c.statement-item.is in
    told_stopped (view c.args.pages.now).page_bytes c.args.script.now (catalog_of t c.args.catalog.now) all (g.F.Files.holds c.args.files.now) (g.F.Files.holds l.files) i.holds (view l.pages).page_bytes i.leaves.changes.page_bytes
    l.number (catalog_of t l.catalog) (catalog_of t c.run_statement.new.catalog) c.statement-item.result (drop l.statement-index all) (drop (l.statement-index + 1) all) is
    (g.K.Sink.written c.args.out.now) (g.K.Sink.written l.out) (g.K.Sink.written c.end.new.out) (i.so_far told) c.in-Err.status c.end.result (c.in-Err.ensures.step told) c.end.ensures.line

pub returns-in-Err-clause-leaves : goal.returns-in-Err-clause-leaves
returns-in-Err-clause-leaves g c =
    let view = g.P.Pages.view in
    let l = c.loop-statement in
    leaves_then g.P.Pages.terms (view c.args.pages.now) (view l.pages) (view c.run_statement.new.pages) c.args.catalog.now l.catalog c.run_statement.new.catalog l.invariant.leaves c.run_statement.ensures.leaves

pub returns-in-Err-clause-cause : goal.returns-in-Err-clause-cause
returns-in-Err-clause-cause g c =
    let told = g.P.Pages.terms.told in
    let view = g.P.Pages.view in
    let faults = g.F.Files.faults in
    let l = c.loop-statement in
    let i = l.invariant in
    let new = c.run_statement.new in
    cause_ends told (faults c.args.files.now) (faults new.files) (view c.args.pages.now).faults (view new.pages).faults (g.K.Sink.written l.out) (g.K.Sink.written c.end.new.out) c.in-Err.status c.end.result c.end.ensures.line
    (cause_in told (faults c.args.files.now) (faults l.files) (faults new.files) (view c.args.pages.now).faults (view l.pages).faults (view new.pages).faults c.in-Err.status i.later i.leaves.changes.faults c.in-Err.ensures.cause)

pub returns-in-Err-clause-last : goal.returns-in-Err-clause-last
returns-in-Err-clause-last g c = last_line run_closing _ _ _ c.in-Err.status c.end.result (not_done _ _ _ _ _ c.in-Err.status c.in-Err.ensures.cause) c.loop-statement.invariant.grown c.end.ensures.line

pub returns-clause-says : goal.returns-clause-says
returns-clause-says g c = λ told.
    let t = g.P.Pages.terms in
    let l = c.loop-statement in
    let all = c.args.statements.now in
    told_done (g.P.Pages.view c.args.pages.now).page_bytes c.args.script.now (catalog_of t c.args.catalog.now) all (g.F.Files.holds c.args.files.now) l.number (catalog_of t l.catalog) (drop l.statement-index all)
    (g.K.Sink.written c.args.out.now) (g.K.Sink.written l.out) (drop_of_length-le all c.loop-statement-test.false) (l.invariant.so_far told)

pub returns-clause-last : goal.returns-clause-last
returns-clause-last g c =
    let written = g.K.Sink.written c.loop-statement.out in
    last_closing run_closing (g.K.Sink.written c.args.out.now) written written _ c.loop-statement.invariant.grown (text_written written written run_closing _ (Appends-none written))

pub returns-in-Err-write_all-clause-ran : goal.returns-in-Err-write_all-clause-ran
returns-in-Err-write_all-clause-ran g c = λ told done. absurd (cc done)

pub returns-in-Err-clause-ran : goal.returns-in-Err-clause-ran
returns-in-Err-clause-ran g c = λ told done.
    absurd (ends_undone (g.K.Sink.written c.loop-statement.out) (g.K.Sink.written c.end.new.out) c.in-Err.status c.end.result c.end.ensures.line (not_done _ _ _ _ _ c.in-Err.status c.in-Err.ensures.cause) done)

pub returns-clause-ran : goal.returns-clause-ran
returns-clause-ran g c = λ told done.
    let t = g.P.Pages.terms in
    let l = c.loop-statement in
    let all = c.args.statements.now in
    ran_all (g.P.Pages.view c.args.pages.now).page_bytes c.args.script.now (catalog_of t c.args.catalog.now) all (g.F.Files.holds c.args.files.now) l.number (catalog_of t l.catalog) (drop l.statement-index all)
    (g.K.Sink.written c.args.out.now) (g.K.Sink.written l.out) (drop_of_length-le all c.loop-statement-test.false) (l.invariant.ran told)
