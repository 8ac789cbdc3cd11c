-- A record that was found.
use Rattle.std.specs.Prelude.{◌≡◌, ℕ, Bool, false, List}
use Rattle.std.specs.List.{list_any}
use Rattle.csv_records.specs.Table.{is_special, ends_quoted}
use Rattle.csv_records.specs.Ahead.{IsRecord}

-- the bytes of a record, whether they may have a double quote, and whether they end inside of quotes
pub record IsFound (d : ℕ) (bytes : List ℕ) (quotes is_open : Bool) : Type 0 where
  pub is : IsRecord d bytes
  pub quoted : is_open ≡ ends_quoted d bytes
  pub plain : quotes ≡ false → list_any is_special bytes ≡ false
