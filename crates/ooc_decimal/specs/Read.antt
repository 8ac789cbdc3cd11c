-- What reading a text as a number of a type gives.
use Rattle.std.specs.Prelude.{◌≡◌, ℕ, ℤ, List, Option, None, MatchOption}
use Rattle.ooc_types.specs.declared.schema.SqlType.{SqlType}
use Rattle.ooc_decimal.specs.Exact.{IsExact}
use Rattle.ooc_decimal.specs.Numeral.{spelled}

-- the number that the text spells, where it spells one in the range of the type, and none elsewhere
abbrev pub IsReadAs : SqlType → List ℕ → Option ℤ → Type 0
IsReadAs kind text outcome = MatchOption (spelled kind text) (outcome ≡ None) (λ digits. IsExact kind digits outcome)
