use Rattle.std.proofs.Common.{◌≡◌, None, length}
use Rattle.run_settings.specs.First.{after}
use Rattle.run_settings.specs.Texts.{sayings_of, words_of}
use Rattle.run_settings.specs.Words.{said}
use Rattle.run_settings.proofs.words.said.Given as goal

abbrev pub invariant-loop-left : goal.invariant-loop-left
invariant-loop-left l = said None (words_of l.words) ≡ after (sayings_of l.all.items) (said None (words_of l.left))

abbrev pub decreases-loop-left : goal.decreases-loop-left
decreases-loop-left l = length l.left
