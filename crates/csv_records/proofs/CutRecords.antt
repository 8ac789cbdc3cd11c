-- The first record of a text.
use Rattle.std.proofs.Common.{◌≡◌, ◌<◌, ℕ, ◌++◌, Bool, true, false, Option, Some, None, List, [], ◌∷◌, length, refl, arith}
use Rattle.std.specs.Prelude.{filter}
use Rattle.std.specs.List.{onto_first}
use Rattle.csv_records.specs.Table.{after, state_after}
use Rattle.csv_records.specs.Cut.{cut, but_last, has_bytes}
use Rattle.csv_records.specs.Ahead.{records_of, with_record, no_records}
use Rattle.csv_records.specs.declared.mark.Mark.{Mark}
use Rattle.csv_records.specs.declared.mark.Mark.TheVariants.{FieldStart}
use Rattle.csv_records.proofs.Cutting.{cut-at, cut-last}

-- a part in front of a text's parts is no last one
front-part : (x : List ℕ) (d : ℕ) (ys : List ℕ) → but_last (x ∷ cut d FieldStart ys) ≡ x ∷ but_last (cut d FieldStart ys)
unfolding but_last cut
front-part x d [] = refl
front-part x d (c ∷ ys) = by (after d FieldStart c)
  where
    onto : (parts : List (List ℕ)) → but_last (x ∷ onto_first c parts) ≡ x ∷ but_last (onto_first c parts)
    onto [] = refl
    onto (p ∷ ps) = refl

    by : (o : Option Mark) → but_last (x ∷ elim o [ None ↦ [] ∷ cut d FieldStart ys | Some t ↦ onto_first c (cut d t ys) ])
        ≡ x ∷ but_last (elim o [ None ↦ [] ∷ cut d FieldStart ys | Some t ↦ onto_first c (cut d t ys) ])
    by None = refl
    by (Some t) = onto (cut d t ys)

keep : (x : List ℕ) (parts : List (List ℕ)) → 0 < length x → filter has_bytes (x ∷ parts) ≡ x ∷ filter has_bytes parts
keep [] parts h = absurd (omega arith)
keep (c ∷ x) parts h = refl

-- a record that ends in the text
pub record-ends : (d : ℕ) (t : Mark) (x : List ℕ) (c : ℕ) (ys : List ℕ) (too_long : Bool) → state_after d FieldStart x ≡ Some t → after d t c ≡ None → 0 < length x
    → records_of d (record { bytes = x ++ c ∷ ys; too_long = too_long }) ≡ with_record x (records_of d (record { bytes = ys; too_long = too_long }))
record-ends d t x c ys true ran ends some =
    rw (cut-at d FieldStart t x c ys ran ends, front-part x d ys, keep x (but_last (cut d FieldStart ys)) some) refl
record-ends d t x c ys false ran ends some =
    rw (cut-at d FieldStart t x c ys ran ends, keep x (cut d FieldStart ys) some) refl

-- a part of no bytes
pub part-skipped : (d : ℕ) (t : Mark) (x : List ℕ) (c : ℕ) (ys : List ℕ) (too_long : Bool) → state_after d FieldStart x ≡ Some t → after d t c ≡ None → x ≡ []
    → records_of d (record { bytes = x ++ c ∷ ys; too_long = too_long }) ≡ records_of d (record { bytes = ys; too_long = too_long })
part-skipped d t x c ys true ran ends none =
    rw (cut-at d FieldStart t x c ys ran ends, front-part x d ys, none) refl
part-skipped d t x c ys false ran ends none =
    rw (cut-at d FieldStart t x c ys ran ends, none) refl

-- a record at the end of the text
pub record-last : (d : ℕ) (t : Mark) (x : List ℕ) → state_after d FieldStart x ≡ Some t → 0 < length x
    → records_of d (record { bytes = x; too_long = false }) ≡ with_record x (no_records false)
record-last d t x ran some = rw (cut-last d FieldStart t x ran, keep x [] some) refl

-- no text
pub none-left : (d : ℕ) → records_of d (record { bytes = []; too_long = false }) ≡ no_records false
unfolding cut
none-left d = refl

-- a record that goes on
pub record-goes-on : (d : ℕ) (t : Mark) (x : List ℕ) → state_after d FieldStart x ≡ Some t → records_of d (record { bytes = x; too_long = true }) ≡ no_records true
unfolding but_last
record-goes-on d t x ran = rw (cut-last d FieldStart t x ran) refl
