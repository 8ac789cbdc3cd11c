-- Exact results of arithmetic.
use Rattle.std.specs.Prelude.{ℕ, ℤ, pos, ◌*ℤ◌, ◌-◌, ◌^◌, Option}
use Rattle.std.specs.Option.{SomeIff}
use Rattle.ooc_types.specs.declared.schema.SqlType.{SqlType}
use Rattle.ooc_types.specs.Meets.{IsInRange}

-- the number `digits / 10 ^ scale` as digits at a scale that is at least as great
abbrev pub at_scale : ℤ → ℕ → ℕ → ℤ
at_scale digits scale to = digits *ℤ pos (10 ^ (to - scale))

-- the value itself where it is in the range of the type, and none exactly where it isn't
abbrev pub IsExact : SqlType → ℤ → Option ℤ → Type 0
IsExact kind value outcome = SomeIff outcome (IsInRange kind value) value
