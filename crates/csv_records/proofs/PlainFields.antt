-- The fields of a record without a double quote, CR or LF are its parts between delimiters.
use Rattle.std.proofs.Common.{◌≡◌, ◌<◌, length, arith, ℕ, ◌++◌, ◌||◌, ◌==◌, ◌⊎◌, inl, inr, Bool, true, false, Some, List, [], ◌∷◌, refl, sym, ap, ◌∙◌, append_assoc}
use Rattle.std.specs.List.{onto_first, list_any, slice_split}
use Rattle.csv.specs.Machine.{next_record, step}
use Rattle.csv.specs.Reading.{strip_bom}
use Rattle.csv.specs.declared.parser.State.{State}
use Rattle.csv.specs.declared.parser.State.TheVariants as st
use Rattle.csv.specs.declared.parser.Action.TheVariants as act
use Rattle.csv_records.specs.Table.{is_special}
use Rattle.csv_records.specs.Fields.{csv_config, fields, fields_read}
use Rattle.csv_records.proofs.Cutting.{onto_front, onto-empty, plain-state, outside-quoted}
use Rattle.csv_records.specs.Table.{ends_quoted, stops_quoted}
use Rattle.csv_records.specs.declared.mark.Mark.TheVariants.{FieldStart}

onto-append : (x : List ℕ) (c : ℕ) (parts : List (List ℕ)) → onto_front (x ++ c ∷ []) parts ≡ onto_front x (onto_first c parts)
unfolding onto_front
onto-append [] c parts = refl
onto-append (b ∷ x) c parts = ap (onto_first b) (onto-append x c parts)

-- what a byte is that is no mark
pub unmarked : (c : ℕ) → is_special c ≡ false → ((c == 34) ≡ false) × ((c == 10) ≡ false) × ((c == 13) ≡ false)
unmarked c e = by (c == 34) (c == 10) (c == 13) refl refl refl e
  where
    by : (q n r : Bool) → (c == 34) ≡ q → (c == 10) ≡ n → (c == 13) ≡ r → (q || (n || r)) ≡ false → ((c == 34) ≡ false) × ((c == 10) ≡ false) × ((c == 13) ≡ false)
    by true n r eq en er e = cc e
    by false true r eq en er e = cc e
    by false false true eq en er e = cc e
    by false false false eq en er e = (eq, en, er)

-- a state outside of quotes and inside a record
abbrev InRecord : State → Type 0
InRecord s = (s ≡ st.InField) ⊎ (s ≡ st.StartField)

step-delimiter : (d : ℕ) (s : State) (c : ℕ) → InRecord s → is_special c ≡ false → (c == d) ≡ true → step (csv_config d) s c ≡ (st.StartField, act.EndField)
step-delimiter d s c (inl e) m k = rw (e, k) refl
step-delimiter d s c (inr e) m k = rw (e, (unmarked c m).0, k) refl

step-other : (d : ℕ) (s : State) (c : ℕ) → InRecord s → is_special c ≡ false → (c == d) ≡ false → step (csv_config d) s c ≡ (st.InField, act.Copy)
step-other d s c (inl e) m k = let u = unmarked c m in rw (e, k, u.1, u.2) refl
step-other d s c (inr e) m k = let u = unmarked c m in rw (e, u.0, k, u.1, u.2) refl

-- the rest of a record
plain-rest : (d : ℕ) (s : State) (before : List (List ℕ)) (field xs : List ℕ) → InRecord s → list_any is_special xs ≡ false
    → next_record (csv_config d) s before field xs ≡ Some (before ++ onto_front field (slice_split (λ c. c == d) xs), st.StartRecord, [])
unfolding next_record onto_front
plain-rest d s before field [] (inl e) h = rw (e, onto-empty field []) refl
plain-rest d s before field [] (inr e) h = rw (e, onto-empty field []) refl
plain-rest d s before field (c ∷ xs) out h = by (is_special c) (c == d) refl refl h (λ t f x o k. plain-rest d t f x xs o k)
  where
    by : (m k : Bool) → is_special c ≡ m → (c == d) ≡ k → (m || list_any is_special xs) ≡ false
        → ((t : State) (f : List (List ℕ)) (x : List ℕ) → InRecord t → list_any is_special xs ≡ false
        → next_record (csv_config d) t f x xs ≡ Some (f ++ onto_front x (slice_split (λ b. b == d) xs), st.StartRecord, []))
        → next_record (csv_config d) s before field (c ∷ xs) ≡ Some (before ++ onto_front field (slice_split (λ b. b == d) (c ∷ xs)), st.StartRecord, [])
    by true k em ek h more = cc h
    by false true em ek h more = rw (step-delimiter d s c out em ek, ek, onto-empty field (slice_split (λ b. b == d) xs))
        (more st.StartField (before ++ (field ∷ [])) [] (inr refl) h ∙ ap (λ (r : List (List ℕ)). Some (r, st.StartRecord, [])) (append_assoc before (field ∷ []) (slice_split (λ b. b == d) xs)))
    by false false em ek h more = rw (step-other d s c out em ek, ek, sym (onto-append field c (slice_split (λ b. b == d) xs)))
        (more st.InField before (field ++ (c ∷ [])) (inl refl) h)

-- the fields of a record without a mark
pub plain-fields : (d : ℕ) (c : ℕ) (xs : List ℕ) → list_any is_special (c ∷ xs) ≡ false → fields d (c ∷ xs) ≡ slice_split (λ b. b == d) (c ∷ xs)
unfolding fields strip_bom next_record onto_front
plain-fields d c xs h = ap fields_read (by (is_special c) refl h)
  where
    by : (m : Bool) → is_special c ≡ m → (m || list_any is_special xs) ≡ false
        → next_record (csv_config d) st.StartRecord [] [] (c ∷ xs) ≡ Some (slice_split (λ b. b == d) (c ∷ xs), st.StartRecord, [])
    by true em h = cc h
    by false em h =
        let u = unmarked c em in
        let first : next_record (csv_config d) st.StartRecord [] [] (c ∷ xs) ≡ next_record (csv_config d) st.StartField [] [] (c ∷ xs) = rw (u.0, u.1, u.2) refl in
        first ∙ plain-rest d st.StartField [] [] (c ∷ xs) (inr refl) (rw em h)

pub plain-split : (d : ℕ) (bytes : List ℕ) → 0 < length bytes → list_any is_special bytes ≡ false → fields d bytes ≡ slice_split (λ c. c == d) bytes
plain-split d [] some h = absurd (omega arith)
plain-split d (c ∷ xs) some h = plain-fields d c xs h

pub plain-closed : (d : ℕ) (bytes : List ℕ) → list_any is_special bytes ≡ false → ends_quoted d bytes ≡ false
unfolding ends_quoted
plain-closed d bytes lacks =
    let run = plain-state d FieldStart bytes (inl refl) lacks in
    ap stops_quoted run.1 ∙ sym (outside-quoted run.0 run.2)
