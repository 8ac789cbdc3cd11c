-- Tables by their names.
use Rattle.std.specs.Prelude.{◌≡◌, ℕ, zero, suc, Bool, true, false, if◌then◌else◌, List, [], ◌∷◌, ⊤}
use Rattle.std.specs.Str.{bytes_eq}
use Rattle.sql_scope.specs.declared.scope.TableColumns.{TableColumns}

abbrev pub has_table : List TableColumns → List ℕ → Bool
has_table [] name = false
has_table (table ∷ tables) name = if bytes_eq table.name name then true else has_table tables name

-- the first table of a name stands in this place
abbrev pub IsFirst : List TableColumns → List ℕ → ℕ → Type 0
IsFirst [] name place = ⊥
IsFirst (table ∷ tables) name zero = bytes_eq table.name name ≡ true
IsFirst (table ∷ tables) name (suc place) = (bytes_eq table.name name ≡ false) × IsFirst tables name place

-- no two tables have one name
abbrev pub NamesDiffer : List TableColumns → Type 0
NamesDiffer [] = ⊤
NamesDiffer (table ∷ tables) = (has_table tables table.name ≡ false) × NamesDiffer tables
