use Rattle.std.proofs.Common.{◌≡◌, ◌≤◌, length, take, reverse}
use Rattle.ooc_decimal.specs.Numeral.{after_blanks}
use Rattle.ooc_decimal.proofs.trim.trim_back.Given as goal

abbrev pub invariant-loop-end : goal.invariant-loop-end
invariant-loop-end l = record {
  within : l.end ≤ length l.text;
  same : after_blanks (reverse (take l.end l.text)) ≡ after_blanks (reverse l.text);
}

abbrev pub decreases-loop-end : goal.decreases-loop-end
decreases-loop-end l = l.end
