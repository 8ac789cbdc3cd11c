use Rattle.std.proofs.Common.{◌≡◌, ◌<◌, ◌≤◌, ℕ, None}
use Rattle.row_image.specs.Image.{row_count}
use Rattle.row_image.specs.Rules.{first_damage, part_rules, rows_before}
use Rattle.row_image.proofs.check.check_parts.Given as goal

abbrev pub invariant-loop-part : goal.invariant-loop-part
invariant-loop-part l = (l.before ≡ rows_before l.image l.part) × (l.before ≤ row_count l.image) × ((k : ℕ) → k < l.part → first_damage (part_rules l.image k) ≡ None)
