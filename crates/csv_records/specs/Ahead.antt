-- What is ahead of a reader that takes a file in pieces.
use Rattle.std.specs.Prelude.{◌≡◌, ◌+◌, ◌≤◌, ◌<◌, ℕ, Bool, false, nat_le, length, if◌then◌else◌, Option, Some, None, List, [], ◌∷◌, ◌++◌, take, option_map, ⊤, IsSomeAnd}
use Rattle.csv.specs.Reading.{strip_bom}
use Rattle.csv_records.specs.Limits.{record_limit}
use Rattle.csv_records.specs.declared.mark.Mark.{Mark}
use Rattle.csv_records.specs.declared.mark.Mark.TheVariants.{FieldStart}
use Rattle.csv_records.specs.Table.{state_after}
use Rattle.csv_records.specs.Cut.{records_in, finished_in}
use Rattle.csv_records.specs.Files.{Records}

-- Where a reader is in a file: whether it looked for the byte order mark, the bytes that it took and that are in no
-- record yet, and how many more it may take. All in all that is one more than a file may have.
pub record Position : Type 0 where
  pub begun : Bool
  pub carried : List ℕ
  pub allowed : ℕ

-- at the start of a file that may have so many bytes
abbrev pub start_within : ℕ → Position
start_within limit = record { begun = false; carried = []; allowed = limit + 1 }

-- a text, and whether the file is too long
pub record Text : Type 0 where
  pub bytes : List ℕ
  pub too_long : Bool

-- the text from a position on, where these bytes of the file are left
abbrev pub text_ahead : Position → List ℕ → Text
text_ahead p left =
    let bytes = p.carried ++ take p.allowed left in
    record { bytes = if p.begun then bytes else strip_bom bytes; too_long = nat_le p.allowed (length left) }

abbrev pub records_of : ℕ → Text → Records
records_of d text = record { records = if text.too_long then finished_in d text.bytes else records_in d text.bytes; too_long = text.too_long }

-- the same where the files tell what is left
abbrev pub told_text : Position → Option (List ℕ) → Option Text
told_text p left = option_map (text_ahead p) left

abbrev pub told_records : ℕ → Position → Option (List ℕ) → Option Records
told_records d p left = option_map (λ bytes. records_of d (text_ahead p bytes)) left

-- what is known stays as it was
abbrev pub Same : {A : Type 0} → Option A → Option A → Type 0
Same None now = ⊤
Same (Some before) now = now ≡ Some before

-- one record more in front
abbrev pub with_record : List ℕ → Records → Records
with_record bytes rest = record { records = bytes ∷ rest.records; too_long = rest.too_long }

-- a record was split off those that are known
abbrev pub SplitsOff : Option Records → List ℕ → Option Records → Type 0
SplitsOff None bytes now = ⊤
SplitsOff (Some before) bytes now = IsSomeAnd now (λ rest. before ≡ with_record bytes rest)

-- no record is left, and the file is too long or not
abbrev pub no_records : Bool → Records
no_records too_long = record { records = []; too_long = too_long }

-- the first record is longer than a record may be
pub record FirstIsLong (all : Records) : Type 0 where
  pub bytes : List ℕ
  pub rest : Records
  pub first : all ≡ with_record bytes rest
  pub long : record_limit < length bytes

-- the bytes of a record: one at least and not too many, none of which ends it
pub record IsRecord (d : ℕ) (bytes : List ℕ) : Type 0 where
  pub state : Mark
  pub ran : state_after d FieldStart bytes ≡ Some state
  pub some : 0 < length bytes
  pub most : length bytes ≤ record_limit
