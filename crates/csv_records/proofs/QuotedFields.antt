-- The fields of a record that may have quotes, byte by byte.
use Rattle.std.proofs.Common.{◌≡◌, ◌≢◌, ◌≤◌, ◌<◌, ℕ, ◌+◌, ◌++◌, ◌==◌, Bool, true, false, Option, Some, None, List, [], ◌∷◌, drop, length, get_or, refl, sym, ap, ◌∙◌, arith, drop-cons, add-one}
use Rattle.std.specs.Prelude.{IsSome, is_some, Result, Ok, Err, OnOk}
use Rattle.std.proofs.lemmas.List.{drop_all}
use Rattle.csv.specs.Machine.{next_record, step, is_end, fields_after, field_after}
use Rattle.csv.specs.Reading.{strip_bom}
use Rattle.csv.specs.declared.parser.State.{State}
use Rattle.csv.specs.declared.parser.State.TheVariants as st
use Rattle.std.proofs.lemmas.Bool.{eqb-true, ne_eqb}
use Rattle.csv_records.specs.Table.{after, state_after, IsDelimiter}
use Rattle.csv_records.specs.Fields.{csv_config, fields, fields_read}
use Rattle.csv_records.specs.Unquoting.{csv_state}
use Rattle.csv_records.specs.declared.mark.Mark.{Mark}
use Rattle.csv_records.specs.declared.mark.Mark.TheVariants.{FieldStart, Plain, Quoted, QuoteSeen}

-- the byte at a place, and those after it
pub at-place : (l : List ℕ) (i : ℕ) → i < length l → drop i l ≡ get_or l i 0 ∷ drop (i + 1) l
at-place l i h = drop-cons l i 0 h ∙ ap (λ n. get_or l i 0 ∷ drop n l) (sym (add-one i))

-- a byte of a record that goes on leaves it in some state
pub runs-head : (d : ℕ) (mark : Mark) (c : ℕ) (rest : List ℕ) → IsSome (state_after d mark (c ∷ rest)) → IsSome (after d mark c)
unfolding state_after
runs-head d mark c rest h = by (after d mark c) h
  where
    by : (o : Option Mark) → is_some {T = Mark} (elim o [ None ↦ None | Some t ↦ state_after d t rest ]) ≡ true → IsSome o
    by None h = h
    by (Some t) h = refl

pub runs-tail : (d : ℕ) (mark next : Mark) (c : ℕ) (rest : List ℕ) → IsSome (state_after d mark (c ∷ rest)) → after d mark c ≡ Some next → IsSome (state_after d next rest)
unfolding state_after
runs-tail d mark next c rest h e = rw (e, state_after) at h

-- csv's machine after one more byte
pub read-step : (d : ℕ) (s t : State) (f g : List (List ℕ)) (p q : List ℕ) (c : ℕ) (rest : List ℕ) → (step (csv_config d) s c).0 ≡ t → is_end (step (csv_config d) s c).1 ≡ false
    → g ≡ fields_after (step (csv_config d) s c).1 f p → q ≡ field_after (step (csv_config d) s c).1 c p
    → next_record (csv_config d) s f p (c ∷ rest) ≡ next_record (csv_config d) t g q rest
unfolding next_record
read-step d s t f g p q c rest state on fs fd = rw (on, (sym state), fs, fd) refl

-- at the end of the record
pub read-end : (d : ℕ) (mark : Mark) (f : List (List ℕ)) (p : List ℕ) → next_record (csv_config d) (csv_state mark) f p [] ≡ Some (f ++ (p ∷ []), st.StartRecord, [])
unfolding next_record
read-end d FieldStart f p = refl
read-end d Plain f p = refl
read-end d Quoted f p = refl
read-end d QuoteSeen f p = refl

feed-ends : (d : ℕ) → d ≢ 10 → after d FieldStart 10 ≡ None
feed-ends d h = let no : 10 ≢ d = λ e. h (sym e) in rw (ne_eqb 10 d no) refl

return-ends : (d : ℕ) → d ≢ 13 → after d FieldStart 13 ≡ None
return-ends d h = let no : 13 ≢ d = λ e. h (sym e) in rw (ne_eqb 13 d no) refl

no-state : (d c : ℕ) {A : Type 0} → after d FieldStart c ≡ None → IsSome (after d FieldStart c) → A
no-state d c {A} none some = by (after d FieldStart c) none some
  where
    by : (o : Option Mark) → o ≡ None → IsSome o → A
    by None e h = cc h
    by (Some t) e h = cc e

-- the first byte ends no record, so the record begins with a field
pub fields-start : (d : ℕ) (bytes : List ℕ) → IsDelimiter d → 0 < length bytes → IsSome (state_after d FieldStart bytes) → fields d bytes ≡ fields_read (next_record (csv_config d) st.StartField [] [] bytes)
unfolding fields strip_bom next_record
fields-start d [] del some h = absurd (omega arith)
fields-start d (c ∷ rest) del some h = by (c == 10) (c == 13) refl refl
  where
    runs : IsSome (after d FieldStart c)
    runs = runs-head d FieldStart c rest h

    by : (n r : Bool) → (c == 10) ≡ n → (c == 13) ≡ r → fields_read (next_record (csv_config d) st.StartRecord [] [] (c ∷ rest)) ≡ fields_read (next_record (csv_config d) st.StartField [] [] (c ∷ rest))
    by true r en er = no-state d c (ap (after d FieldStart) (eqb-true c 10 en) ∙ feed-ends d del.feed) runs
    by false true en er = no-state d c (ap (after d FieldStart) (eqb-true c 13 er) ∙ return-ends d del.return) runs
    by false false en er = rw (en, er) refl

-- the fields after the last byte
pub fields-end : (d : ℕ) (bytes : List ℕ) (i : ℕ) (mark : Mark) (f : List (List ℕ)) (p : List ℕ) → IsDelimiter d → 0 < length bytes → IsSome (state_after d FieldStart bytes) → length bytes ≤ i
    → next_record (csv_config d) st.StartField [] [] bytes ≡ next_record (csv_config d) (csv_state mark) f p (drop i bytes) → fields d bytes ≡ f ++ (p ∷ [])
fields-end d bytes i mark f p del some runs le read =
    fields-start d bytes del some runs
    ∙ ap fields_read (read ∙ ap (next_record (csv_config d) (csv_state mark) f p) (drop_all i bytes le) ∙ read-end d mark f p)

pub on-ok : {T E : Type 0} (r : Result T E) {P Q : Type 0} → (P → Q) → OnOk r P → OnOk r Q
on-ok (Ok x) more h = more h
on-ok (Err e) more h = tt
