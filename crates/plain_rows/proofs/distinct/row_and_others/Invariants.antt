use Rattle.std.proofs.Common.{◌≡◌, ◌∷◌, take}
use Rattle.plain_rows.specs.Places.{other_rows}
use Rattle.plain_rows.proofs.distinct.row_and_others.Given as goal

abbrev pub invariant-loop-other : goal.invariant-loop-other
invariant-loop-other l = l.all.items ≡ l.row ∷ other_rows l.row (take l.other-index l.rows)
