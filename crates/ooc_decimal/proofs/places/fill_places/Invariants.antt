use Rattle.std.proofs.Common.{◌≡◌, ◌++◌, ◌≤◌, length, drop}
use Rattle.ooc_decimal.specs.Printed.{places}
use Rattle.ooc_decimal.proofs.places.fill_places.Given as goal

-- what is left to write of the digits, and the digits that are written
abbrev pub invariant-loop-at : goal.invariant-loop-at
invariant-loop-at l = record {
  within : l.at ≤ length l.part;
  digits : places l.at l.rest ++ drop l.at l.part ≡ places (length l.fn.part) l.n;
}

abbrev pub decreases-loop-at : goal.decreases-loop-at
decreases-loop-at l = l.at
