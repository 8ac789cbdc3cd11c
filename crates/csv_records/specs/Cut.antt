-- How a text falls into records.
use Rattle.std.specs.Prelude.{ℕ, Bool, true, false, Some, None, List, [], ◌∷◌, filter}
use Rattle.std.specs.List.{onto_first}
use Rattle.csv_records.specs.Table.{after}
use Rattle.csv_records.specs.declared.mark.Mark.{Mark}
use Rattle.csv_records.specs.declared.mark.Mark.TheVariants.{FieldStart}

-- the parts between the bytes that end records, from a state on
unfoldable pub cut : ℕ → Mark → List ℕ → List (List ℕ)
cut d mark [] = [] ∷ []
cut d mark (byte ∷ bytes) = elim (after d mark byte) [ None ↦ [] ∷ cut d FieldStart bytes | Some next ↦ onto_first byte (cut d next bytes) ]

abbrev pub has_bytes : List ℕ → Bool
has_bytes [] = false
has_bytes (byte ∷ bytes) = true

-- all parts but the last
unfoldable pub but_last : List (List ℕ) → List (List ℕ)
but_last [] = []
but_last (part ∷ []) = []
but_last (part ∷ next ∷ parts) = part ∷ but_last (next ∷ parts)

-- the records of a text: a part of no bytes is none
abbrev pub records_in : ℕ → List ℕ → List (List ℕ)
records_in d text = filter has_bytes (cut d FieldStart text)

-- the records of a text that goes on: what its last part will be isn't known
abbrev pub finished_in : ℕ → List ℕ → List (List ℕ)
finished_in d text = filter has_bytes (but_last (cut d FieldStart text))
