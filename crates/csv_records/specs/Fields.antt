-- The fields of a record.
use Rattle.std.specs.Prelude.{ℕ, List, [], ◌∷◌, Option, Some, None}
use Rattle.csv.specs.Machine.{Read, next_record}
use Rattle.csv.specs.Reading.{default_config, strip_bom}
use Rattle.csv.specs.declared.parser.Config.{Config}
use Rattle.csv.specs.declared.parser.State.TheVariants as st

-- csv's defaults with another delimiter
abbrev pub csv_config : ℕ → Config
csv_config d = record default_config { delimiter = d }

abbrev pub fields_read : Option Read → List (List ℕ)
fields_read None = []
fields_read (Some r) = r.0

-- What csv reads as the next record of these bytes. As it skips the bytes EF BB BF at the start of a source, they are
-- handed to it behind these three.
unfoldable pub fields : ℕ → List ℕ → List (List ℕ)
fields d bytes = fields_read (next_record (csv_config d) st.StartRecord [] [] (strip_bom (0xEF ∷ 0xBB ∷ 0xBF ∷ bytes)))
