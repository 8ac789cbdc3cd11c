use Rattle.statement_run.specs.Running.{run_closing}
use Rattle.script_says.proofs.SoFar.{Appends-none}
use Rattle.script_says.proofs.LastLines.{last_line, grown_nothing}
use Rattle.script_check.proofs.Told.{files_open}
use Rattle.ooc_engine.proofs.Paying.{not_done, script_paid}
use Rattle.ooc_engine.proofs.Statements.{script_ran}
use Rattle.ooc_engine.proofs.run.run_named.Goals as goal

pub returns-in-Ok-clause-says : goal.returns-in-Ok-clause-says
returns-in-Ok-clause-says g c tells =
    script_ran c.args.settings.now (record { bytes = c.in-Ok.bytes.items; script = c.in-Ok.script }) c.as_str.result.now (g.F.Files.holds c.args.files.now) (g.F.Files.holds c.open_script.new.files) (g.K.Sink.written c.args.out.now) (g.K.Sink.written c.run_paged.new.out) c.run_paged.result
    c.as_str.ensures c.in-Ok.ensures.holds (rw (c.in-Ok.bytes-is, c.in-Ok.script-is) at c.in-Ok.ensures.opened) (rw (c.as_slice.ensures.value, c.as_slice-statements.ensures, c.in-Ok.bytes-is, c.in-Ok.script-is) at c.run_paged.ensures.says tells)

pub returns-in-Err-clause-last : goal.returns-in-Err-clause-last
returns-in-Err-clause-last g c = last_line run_closing _ (g.K.Sink.written c.args.out.now) _ c.in-Err.status c.end.result (files_open c.in-Err.status c.in-Err.ensures.kinds) (grown_nothing _ _ (Appends-none (g.K.Sink.written c.args.out.now))) c.end.ensures.line

pub returns-in-Ok-clause-bound : goal.returns-in-Ok-clause-bound
returns-in-Ok-clause-bound g c tells done below =
    script_paid c.args.settings.now (record { bytes = c.in-Ok.bytes.items; script = c.in-Ok.script }) c.as_str.result.now (g.F.Files.holds c.args.files.now) (g.F.Files.holds c.open_script.new.files) (g.K.Sink.written c.args.out.now) (g.K.Sink.written c.run_paged.new.out) _ _
    c.as_str.ensures c.in-Ok.ensures.holds (rw (c.in-Ok.bytes-is, c.in-Ok.script-is) at c.in-Ok.ensures.opened) (rw (c.as_slice.ensures.value, c.as_slice-statements.ensures, c.in-Ok.bytes-is, c.in-Ok.script-is) at c.run_paged.ensures.bound tells done below)

pub returns-in-Err-clause-bound : goal.returns-in-Err-clause-bound
returns-in-Err-clause-bound g c tells done below = absurd (not_done (g.K.Sink.written c.args.out.now) (g.K.Sink.written c.end.new.out) c.in-Err.status c.end.result (files_open c.in-Err.status c.in-Err.ensures.kinds) c.end.ensures.line done)
