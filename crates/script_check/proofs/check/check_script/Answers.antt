use Rattle.run_settings.specs.Settings.{check_settings}
use Rattle.run_settings.specs.Texts.{words_of}
use Rattle.script_says.specs.Checking.{check_closing, check_outcome}
use Rattle.script_says.proofs.SoFar.{Appends-none}
use Rattle.script_says.proofs.LastLines.{last_line, grown_nothing}
use Rattle.script_says.proofs.RunLemmas.{read_line}
use Rattle.script_check.proofs.SettingsPage.{check_page}
use Rattle.script_check.proofs.Told.{told_ends, told_complete, stayed_not, words_open}
use Rattle.script_check.proofs.check.check_script.Goals as goal

pub check_named-requires : goal.check_named-requires
check_named-requires g c = check_page (words_of c.args.words.now) c.in-Ok.settings c.in-Ok.ensures

pub returns-in-Ok-clause-ends : goal.returns-in-Ok-clause-ends
returns-in-Ok-clause-ends g c =
    told_ends check_outcome check_closing (check_settings (words_of c.args.words.now)) (g.F.Files.holds c.args.files.now) (g.K.Sink.written c.args.out.now) (g.K.Sink.written c.check_named.new.out) c.check_named.result (rw (c.in-Ok.ensures) c.check_named.ensures.says)

pub returns-in-Ok-clause-complete : goal.returns-in-Ok-clause-complete
returns-in-Ok-clause-complete g c files_stayed sink_stayed =
    told_complete check_outcome check_closing (check_settings (words_of c.args.words.now)) (g.F.Files.holds c.args.files.now) (g.K.Sink.written c.args.out.now) (g.K.Sink.written c.check_named.new.out) c.check_named.result
    c.check_named.ensures.kinds (λ failed. stayed_not sink_stayed (c.check_named.ensures.cause.rose failed)) (λ failed. stayed_not files_stayed (c.check_named.ensures.read_fault failed)) (rw (c.in-Ok.ensures) c.check_named.ensures.says)

pub returns-in-Err-clause-last : goal.returns-in-Err-clause-last
returns-in-Err-clause-last g c = last_line check_closing _ (g.K.Sink.written c.args.out.now) _ c.in-Err.status c.end.result (words_open (check_settings (words_of c.args.words.now)) c.in-Err.status c.in-Err.ensures) (grown_nothing _ _ (Appends-none (g.K.Sink.written c.args.out.now))) c.end.ensures.line

pub returns-in-Err-clause-read_line : goal.returns-in-Err-clause-read_line
returns-in-Err-clause-read_line g c is = read_line _ _ c.in-Err.status c.end.result c.end.ensures.line is
