use Rattle.run_settings.specs.Settings.{settings}
use Rattle.run_settings.specs.Texts.{words_of}
use Rattle.statement_run.specs.Running.{run_closing}
use Rattle.script_says.proofs.SoFar.{Appends-none}
use Rattle.script_says.proofs.LastLines.{last_line, grown_nothing}
use Rattle.script_check.proofs.SettingsPage.{settings_page}
use Rattle.script_check.proofs.Told.{words_open}
use Rattle.ooc_engine.proofs.Paying.{not_done, words_paid}
use Rattle.ooc_engine.proofs.SettingsFrames.{settings_frames}
use Rattle.ooc_engine.proofs.run.run_words.Goals as goal

pub run_named-requires-clause-page : goal.run_named-requires-clause-page
run_named-requires-clause-page g c = settings_page (words_of c.args.words.now) c.in-Ok.settings c.in-Ok.ensures

pub run_named-requires-clause-least : goal.run_named-requires-clause-least
run_named-requires-clause-least g c = (settings_frames (words_of c.args.words.now) c.in-Ok.settings c.in-Ok.ensures).least

pub run_named-requires-clause-most : goal.run_named-requires-clause-most
run_named-requires-clause-most g c = (settings_frames (words_of c.args.words.now) c.in-Ok.settings c.in-Ok.ensures).most

pub returns-in-Err-clause-last : goal.returns-in-Err-clause-last
returns-in-Err-clause-last g c = last_line run_closing _ (g.K.Sink.written c.args.out.now) _ c.in-Err.wrong c.end.result (words_open (settings (words_of c.args.words.now)) c.in-Err.wrong c.in-Err.ensures) (grown_nothing _ _ (Appends-none (g.K.Sink.written c.args.out.now))) c.end.ensures.line

pub returns-in-Ok-clause-bound : goal.returns-in-Ok-clause-bound
returns-in-Ok-clause-bound g c tells done below =
    words_paid (settings (words_of c.args.words.now)) c.in-Ok.settings (g.F.Files.holds c.args.files.now) (g.K.Sink.written c.args.out.now) (g.K.Sink.written c.run_named.new.out) _ _ c.in-Ok.ensures (c.run_named.ensures.bound tells done below)

pub returns-in-Err-clause-bound : goal.returns-in-Err-clause-bound
returns-in-Err-clause-bound g c tells done below = absurd (not_done (g.K.Sink.written c.args.out.now) (g.K.Sink.written c.end.new.out) c.in-Err.wrong c.end.result (words_open (settings (words_of c.args.words.now)) c.in-Err.wrong c.in-Err.ensures) c.end.ensures.line done)
