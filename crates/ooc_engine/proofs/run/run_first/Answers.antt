use Rattle.std.proofs.Common.{arith}
use Rattle.run_settings.specs.Settings.{settings}
use Rattle.run_settings.specs.Texts.{words_of}
use Rattle.statement_run.specs.Running.{run_closing, run_outcome}
use Rattle.script_check.proofs.Told.{stayed_not}
use Rattle.ooc_engine.proofs.FirstLane.{first_stayed}
use Rattle.ooc_engine.proofs.Told.{said_ends, said_complete}
use Rattle.ooc_engine.proofs.run.run_first.Goals as goal

pub returns-clause-ends : goal.returns-clause-ends
returns-clause-ends g c tells =
    said_ends run_outcome run_closing (settings (words_of c.args.words.now)) (g.F.Files.holds c.args.files.now) (g.K.Sink.written c.args.out.now) (g.K.Sink.written c.run_words.new.out) c.run_words.result (c.run_words.ensures.says tells)

pub returns-clause-complete : goal.returns-clause-complete
returns-clause-complete g c tells files_stayed sink_stayed lanes_stayed =
    said_complete run_outcome run_closing (settings (words_of c.args.words.now)) (g.F.Files.holds c.args.files.now) (g.K.Sink.written c.args.out.now) (g.K.Sink.written c.run_words.new.out) c.run_words.result
    record {
      read = λ failed. stayed_not files_stayed (c.run_words.ensures.read_fault failed);
      spill = λ failed. stayed_not (first_stayed g.L.SpillLane.faults c.args.lanes.now c.index-lanes-0.result c.run_words.new.lane (omega (arith, c.requires)) lanes_stayed) (c.run_words.ensures.spill_fault failed);
      damaged = λ damage is. c.run_words.ensures.spill_damaged damage is tells;
      write = λ failed. stayed_not sink_stayed (c.run_words.ensures.written.rose failed);
    }
    (c.run_words.ensures.says tells)
