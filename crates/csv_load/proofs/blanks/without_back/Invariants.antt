use Rattle.std.proofs.Common.{◌≡◌, ◌≤◌, length, take, reverse}
use Rattle.ooc_decimal.specs.Numeral.{after_blanks}
use Rattle.csv_load.proofs.blanks.without_back.Given as goal

abbrev pub invariant-loop-end : goal.invariant-loop-end
invariant-loop-end l = record {
  within : l.end ≤ length l.field;
  same : after_blanks (reverse (take l.end l.field)) ≡ after_blanks (reverse l.field);
}

abbrev pub decreases-loop-end : goal.decreases-loop-end
decreases-loop-end l = l.end
