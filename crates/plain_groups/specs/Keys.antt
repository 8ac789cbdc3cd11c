-- Keyed rows as the meaning has them.
use Rattle.std.specs.Prelude.{◌≡◌, if◌then◌else◌, List, [], ◌∷◌, ◌++◌, map}
use Rattle.ooc_bags.specs.Rows.{row_eq}
use Rattle.sql_meaning.specs.Found.{Found, Row}
use Rattle.sql_meaning.specs.Groups.{Keyed as MeantKeyed}
use Rattle.plain_groups.specs.declared.keyed.Keyed.{Keyed}
use Rattle.plain_groups.specs.declared.keyed.KeyedRows.{KeyedRows}

abbrev pub one_in : Keyed → MeantKeyed
one_in one = record { key = one.key; row = one.row }

abbrev pub keyed_in : KeyedRows → Found MeantKeyed
keyed_in found = record { rows = map one_in found.rows.items; faults = found.faults.items }

-- the rows and faults of `more` came behind
pub record AddsKeyed (old new : KeyedRows) (more : Found MeantKeyed) : Type 0 where
  pub rows : map one_in new.rows.items ≡ map one_in old.rows.items ++ more.rows
  pub faults : new.faults.items ≡ old.faults.items ++ more.faults

-- a row, where it has this key
abbrev pub one_row_of : Row → MeantKeyed → List Row
one_row_of key one = if row_eq key one.key then one.row ∷ [] else []
