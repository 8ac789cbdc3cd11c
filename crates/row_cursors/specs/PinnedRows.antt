-- Pages that have other rows than they were sealed with.
use Rattle.std.specs.Prelude.{◌≡◌, ◌≢◌, ℕ}
use Rattle.row_image.specs.declared.image.DamageField.TheVariants.{Rows}
use Rattle.page_body.specs.declared.fault.PoolFault.{PoolFault}
use Rattle.page_body.specs.declared.fault.PoolFault.TheVariants.{Spill, Damaged, OutOfMemory}

-- so many rows were sealed, and others found
abbrev pub IsMiscounted : ℕ → ℕ → PoolFault → Type 0
IsMiscounted rows found Spill = ⊥
IsMiscounted rows found (Damaged damage) = (damage ≡ record { field = Rows; found = found; bound = rows }) × (found ≢ rows)
IsMiscounted rows found OutOfMemory = ⊥
