-- What a view keeps of the parts of a row page.
use Rattle.std.specs.Prelude.{◌≡◌, ℕ, ◌+◌, ◌<◌, List}
use Rattle.row_image.specs.Image.{part_count, part_at}
use Rattle.rebase_pins.specs.Rows.{part_number}

-- where a part is there, behind which row it ends, and its base
pub record IsPartSight (image : List ℕ) (part end base : ℕ) : Type 0 where
  pub end_is : part < part_count image → end ≡ (part_at image part).first + (part_at image part).rows
  pub base_is : part < part_count image → base ≡ (part_at image part).base

-- a row stands in one of the parts
abbrev pub IsKnownPart : List ℕ → ℕ → Type 0
IsKnownPart image row = part_number image row < part_count image
