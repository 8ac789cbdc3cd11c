-- The number of a field.
use Rattle.std.specs.Prelude.{ℕ, ℤ, pos, negsuc, ◌+◌, ◌^◌, nat_lt, Bool, false, List, Option, Some, None, if◌then◌else◌}
use Rattle.ooc_types.specs.declared.schema.SqlType.{SqlType}
use Rattle.ooc_types.specs.declared.schema.SqlType.TheVariants.{Boolean, Integer, BigInt, HugeInt, Decimal, Date, Varchar}
use Rattle.ooc_decimal.specs.Numeral.{spelled}

-- from -bound to bound - 1
abbrev pub is_within : ℕ → ℤ → Bool
is_within bound (pos n) = nat_lt n bound
is_within bound (negsuc n) = nat_lt n bound

-- more than -bound and less than bound
abbrev pub is_below : ℕ → ℤ → Bool
is_below bound (pos n) = nat_lt n bound
is_below bound (negsuc n) = nat_lt (n + 1) bound

-- a number in the range of its type
abbrev pub is_in_range : SqlType → ℤ → Bool
is_in_range Boolean n = false
is_in_range Integer n = is_within (2 ^ 31) n
is_in_range BigInt n = is_within (2 ^ 63) n
is_in_range HugeInt n = is_within (2 ^ 127) n
is_in_range (Decimal width scale) n = is_below (10 ^ width) n
is_in_range Date n = false
is_in_range Varchar n = false

-- the number that a field spells, at the scale of its column's type, where it spells one in its range
unfoldable pub number_of : SqlType → List ℕ → Option ℤ
number_of kind field = elim (spelled kind field) [ None ↦ None | Some n ↦ if is_in_range kind n then Some n else None ]
