use Rattle.std.proofs.Common.{inr, refl}
use Rattle.run_settings.specs.declared.status.Status.TheVariants.{OutOfMemory}
use Rattle.run_settings.specs.Settings.{settings}
use Rattle.statement_run.specs.Running.{run_closing, run_outcome}
use Rattle.script_says.proofs.SoFar.{Appends-none}
use Rattle.script_says.proofs.LastLines.{last_line, grown_nothing, memory_not_done}
use Rattle.ooc_engine.proofs.Stopped.{words_said}
use Rattle.oocsql.specs.Arguments.{words_behind}
use Rattle.oocsql.proofs.command.run.Goals as goal

pub returns-in-Err-clause-last : goal.returns-in-Err-clause-last
returns-in-Err-clause-last g c = last_line run_closing _ (g.K.Sink.written c.args.out.now) _ OutOfMemory c.end.result memory_not_done (grown_nothing _ _ (Appends-none (g.K.Sink.written c.args.out.now))) c.end.ensures.line

-- memory ran out before the run began
pub returns-in-Err-clause-says : goal.returns-in-Err-clause-says
returns-in-Err-clause-says g c tells =
    words_said run_outcome run_closing (g.F.Files.holds c.args.files.now) (g.K.Sink.written c.args.out.now) (g.K.Sink.written c.end.new.out) OutOfMemory c.end.result c.end.ensures.line (settings (words_behind c.args.args)) (inr refl)
