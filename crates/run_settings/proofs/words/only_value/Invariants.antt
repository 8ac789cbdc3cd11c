use Rattle.std.proofs.Common.{◌≡◌, length}
use Rattle.run_settings.specs.First.{with_found}
use Rattle.run_settings.specs.Texts.{sayings_of, text_now}
use Rattle.run_settings.specs.Words.{at_most_one, values_of}
use Rattle.run_settings.proofs.words.only_value.Given as goal

abbrev pub invariant-loop-left : goal.invariant-loop-left
invariant-loop-left l = at_most_one (values_of l.name (sayings_of l.all)) ≡ with_found (text_now l.found) (values_of l.name (sayings_of l.left))

abbrev pub decreases-loop-left : goal.decreases-loop-left
decreases-loop-left l = length l.left
