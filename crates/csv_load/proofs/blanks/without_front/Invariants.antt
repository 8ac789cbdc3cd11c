use Rattle.std.proofs.Common.{◌≡◌, drop}
use Rattle.ooc_decimal.specs.Numeral.{after_blanks}
use Rattle.csv_load.proofs.blanks.without_front.Given as goal

abbrev pub invariant-loop-at : goal.invariant-loop-at
invariant-loop-at l = after_blanks (drop l.at l.field) ≡ after_blanks l.field
