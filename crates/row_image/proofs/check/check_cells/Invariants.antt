use Rattle.std.proofs.Common.{◌≡◌, ◌<◌, ℕ, None}
use Rattle.row_image.specs.Rules.{first_damage, row_rules}
use Rattle.row_image.proofs.check.check_cells.Given as goal

abbrev pub invariant-loop-row : goal.invariant-loop-row
invariant-loop-row l = (k : ℕ) → k < l.row → first_damage (row_rules l.layout l.image k) ≡ None
