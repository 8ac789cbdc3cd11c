-- The byte order mark at the start of a text.
use Rattle.std.proofs.Common.{◌≡◌, ◌≤◌, ◌<◌, ℕ, ◌++◌, ◌⊎◌, inl, inr, get_or, Bool, true, false, Option, Some, None, List, [], ◌∷◌, take, drop, length, refl, sym, ap, ◌∙◌, arith}
use Rattle.std.proofs.lemmas.List.{append-nil}
use Rattle.std.specs.Prelude.{if◌then◌else◌}
use Rattle.csv.specs.Reading.{strip_bom, is_bom}
use Rattle.csv_records.specs.Ahead.{Text, Same, told_text}
use Rattle.csv_records.proofs.Filling.{then-same}
use Rattle.csv_records.specs.Buffer.{IsLast}

-- it is in the first three bytes
strip-more : (xs more : List ℕ) → 3 ≤ length xs → strip_bom (xs ++ more) ≡ strip_bom xs ++ more
unfolding strip_bom
strip-more [] more h = absurd (omega arith)
strip-more (a ∷ []) more h = absurd (omega arith)
strip-more (a ∷ b ∷ []) more h = absurd (omega arith)
strip-more (a ∷ b ∷ c ∷ rest) more h = by (is_bom a b c)
  where
    by : (m : Bool) → (if m then rest ++ more else (a ∷ b ∷ c ∷ (rest ++ more))) ≡ (if m then rest else (a ∷ b ∷ c ∷ rest)) ++ more
    by true = refl
    by false = refl

pub strip-is : (xs : List ℕ) → 3 ≤ length xs → strip_bom xs ≡ (if is_bom (get_or xs 0 0) (get_or xs 1 0) (get_or xs 2 0) then drop 3 xs else xs)
unfolding strip_bom
strip-is [] h = absurd (omega arith)
strip-is (a ∷ []) h = absurd (omega arith)
strip-is (a ∷ b ∷ []) h = absurd (omega arith)
strip-is (a ∷ b ∷ c ∷ rest) h = refl

pub strip-short : (xs : List ℕ) → length xs < 3 → strip_bom xs ≡ xs
unfolding strip_bom
strip-short [] h = refl
strip-short (a ∷ []) h = refl
strip-short (a ∷ b ∷ []) h = refl
strip-short (a ∷ b ∷ c ∷ rest) h = absurd (omega arith)

-- the text after its mark was skipped
pub begun-text : (carried now : List ℕ) (allowed : ℕ) (left : Option (List ℕ)) → now ≡ strip_bom carried → IsLast allowed left ⊎ (3 ≤ length carried)
    → Same (told_text (record { begun = false; carried = carried; allowed = allowed }) left) (told_text (record { begun = true; carried = now; allowed = allowed }) left)
begun-text carried now allowed None e ready = tt
begun-text carried now allowed (Some more) e ready =
    let text : now ++ take allowed more ≡ strip_bom (carried ++ take allowed more) = sym (elim ready [
      | inl end ↦ ap (λ m. strip_bom (carried ++ m)) end ∙ ap strip_bom (append-nil carried) ∙ sym e ∙ sym (append-nil now) ∙ ap (λ m. now ++ m) (sym end)
      | inr room ↦ strip-more carried (take allowed more) room ∙ ap (λ x. x ++ take allowed more) (sym e)
    ]) in
    rw text refl

pub started : (a : Option Text) (begun begun_now : Bool) (carried now : List ℕ) (allowed allowed_now : ℕ) (left : Option (List ℕ)) → begun ≡ false → begun_now ≡ true → allowed_now ≡ allowed
    → now ≡ strip_bom carried → IsLast allowed left ⊎ (3 ≤ length carried)
    → Same a (told_text (record { begun = begun; carried = carried; allowed = allowed }) left)
    → Same a (told_text (record { begun = begun_now; carried = now; allowed = allowed_now }) left)
started a begun begun_now carried now allowed allowed_now left b n al e ready same =
    let there : Same a (told_text (record { begun = false; carried = carried; allowed = allowed }) left) = rw b at same in
    rw (n, al) (then-same a (told_text (record { begun = false; carried = carried; allowed = allowed }) left) (told_text (record { begun = true; carried = now; allowed = allowed }) left) there
    (begun-text carried now allowed left e ready))
