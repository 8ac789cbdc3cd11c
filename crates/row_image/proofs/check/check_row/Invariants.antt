use Rattle.std.proofs.Common.{◌≡◌, ◌<◌, ℕ, None}
use Rattle.row_image.specs.Rules.{first_damage, cell_rules}
use Rattle.row_image.proofs.check.check_row.Given as goal

abbrev pub invariant-loop-column : goal.invariant-loop-column
invariant-loop-column l = (k : ℕ) → k < l.column → first_damage (cell_rules l.layout l.image l.row k) ≡ None
