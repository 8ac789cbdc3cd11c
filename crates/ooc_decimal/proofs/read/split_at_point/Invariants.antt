use Rattle.std.proofs.Common.{◌≡◌, ◌+◌, drop}
use Rattle.std.specs.List.{position_or_len}
use Rattle.ooc_decimal.specs.Numeral.{is_point}
use Rattle.ooc_decimal.proofs.read.split_at_point.Given as goal

abbrev pub invariant-loop-at : goal.invariant-loop-at
invariant-loop-at l = position_or_len is_point l.numeral ≡ l.at + position_or_len is_point (drop l.at l.numeral)
