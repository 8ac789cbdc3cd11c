use Rattle.script_says.specs.Checking.{check_closing}
use Rattle.script_says.proofs.SoFar.{Appends-none}
use Rattle.script_says.proofs.LastLines.{last_line, grown_nothing}
use Rattle.script_says.proofs.RunLemmas.{read_line}
use Rattle.script_check.proofs.Told.{files_open}
use Rattle.script_check.proofs.check.check_named.Goals as goal

pub returns-in-Err-clause-last : goal.returns-in-Err-clause-last
returns-in-Err-clause-last g c = last_line check_closing _ (g.K.Sink.written c.args.out.now) _ c.in-Err.status c.end.result (files_open c.in-Err.status c.in-Err.ensures.kinds) (grown_nothing _ _ (Appends-none (g.K.Sink.written c.args.out.now))) c.end.ensures.line

pub returns-in-Err-clause-read_line : goal.returns-in-Err-clause-read_line
returns-in-Err-clause-read_line g c is = read_line _ _ c.in-Err.status c.end.result c.end.ensures.line is
