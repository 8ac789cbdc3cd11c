use Rattle.std.proofs.Common.{◌≡◌, ◌++◌, length, map}
use Rattle.run_settings.specs.Texts.{sayings_of, words_of}
use Rattle.run_settings.specs.Words.{script}
use Rattle.run_settings.proofs.words.push_scripts.Given as goal

abbrev pub invariant-loop-left : goal.invariant-loop-left
invariant-loop-left l = sayings_of l.all.items ++ map script (words_of l.left) ≡ sayings_of l.fn.all.items ++ map script (words_of l.words)

abbrev pub decreases-loop-left : goal.decreases-loop-left
decreases-loop-left l = length l.left
