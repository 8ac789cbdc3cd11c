-- The outcomes of rows, one after another.
use Rattle.std.proofs.Common.{◌≡◌, ℕ, ◌+◌, ◌<◌, ◌≤◌, suc, List, [], ◌∷◌, ◌++◌, take, drop, get_or, length, refl, sym, ap, ◌∙◌, append-nil, append_assoc, arith}
use Rattle.std.specs.Prelude.{flat_map, Result, Ok, Err}
use Rattle.std.proofs.Math.Seq.{drop-cons}
use Rattle.std.proofs.lemmas.Grind.{take_at_read, flat_map-append, common_steps}
use Rattle.sql_expr.specs.declared.fault.ValueFault.{ValueFault}
use Rattle.sql_expr.specs.Arithmetic.{Meaning}
use Rattle.sql_meaning.specs.Found.{Found, Row, collected}
use Rattle.sql_meaning.specs.Groups.{behind_value}
use Rattle.plain_rows.specs.declared.answer.Answer.{Answer}
use Rattle.plain_rows.specs.Answers.{Adds, found_in}
use Rattle.plain_rows.specs.Outcomes.{put_before}

pub take-next : {A : Type 0} (xs : List A) (i : ℕ) (x : A) → i < length xs → x ≡ get_or xs i x → take (i + 1) xs ≡ take i xs ++ x ∷ []
take-next xs i x within is = (take_at_read xs i x within).1 ∙ ap (λ y. take i xs ++ y ∷ []) (sym is)

pub drop-next : {A : Type 0} (xs : List A) (i : ℕ) (x : A) → i < length xs → x ≡ get_or xs i x → drop i xs ≡ x ∷ drop (i + 1) xs
drop-next xs i x within is =
    let e : suc i ≡ i + 1 = omega arith in
    drop-cons xs i x within ∙ ap (λ k. get_or xs i x ∷ drop k xs) e ∙ ap (λ y. y ∷ drop (i + 1) xs) (sym is)

pub take-whole : {A : Type 0} (xs : List A) (i : ℕ) → length xs ≤ i → take i xs ≡ xs
take-whole xs i past = grind (arith, common_steps)

pub drop-whole : {A : Type 0} (xs : List A) (i : ℕ) → length xs ≤ i → drop i xs ≡ []
drop-whole xs i past = grind (arith, common_steps)

pub flat-next : {A B : Type 0} (f : A → List B) (xs : List A) (i : ℕ) (x : A) (old new : List B) → i < length xs → x ≡ get_or xs i x
    → old ≡ flat_map f (take i xs) → new ≡ old ++ f x → new ≡ flat_map f (take (i + 1) xs)
flat-next f xs i x old new within is before e =
    e ∙ ap (λ l. l ++ f x) before ∙ ap (λ l. flat_map f (take i xs) ++ l) (sym (append-nil (f x)))
    ∙ sym (flat_map-append f (take i xs) (x ∷ [])) ∙ ap (flat_map f) (sym (take-next xs i x within is))

-- one item more
pub collected-next : {A : Type 0} (outcome : A → Found Row) (xs : List A) (i : ℕ) (x : A) (old new : Answer) → i < length xs → x ≡ get_or xs i x
    → found_in old ≡ collected outcome (take i xs) → Adds old new (outcome x) → found_in new ≡ collected outcome (take (i + 1) xs)
collected-next outcome xs i x old new within is before adds =
    let rows = flat-next (λ x. (outcome x).rows) xs i x old.rows.items new.rows.items within is (ap (λ (f : Found Row). f.rows) before) adds.rows in
    let faults = flat-next (λ x. (outcome x).faults) xs i x old.faults.items new.faults.items within is (ap (λ (f : Found Row). f.faults) before) adds.faults in
    λ k. record { rows = rows k; faults = faults k }

-- all items
pub collected-all : {A : Type 0} (outcome : A → Found Row) (xs : List A) (i : ℕ) (f : Found Row) → length xs ≤ i
    → f ≡ collected outcome (take i xs) → f ≡ collected outcome xs
collected-all outcome xs i f past before = before ∙ ap (collected outcome) (take-whole xs i past)

-- ---- values of a row, from left to right

pub put-none : (r : Result Row ValueFault) → r ≡ put_before [] r
put-none (Err fault) = refl
put-none (Ok others) = refl

pub put-one : (made : Row) (m : Meaning) (later r : Result Row ValueFault) (v : _) → m ≡ Ok v → r ≡ put_before made (behind_value m later) → r ≡ put_before (made ++ v ∷ []) later
put-one made m later r v is e = e ∙ ap (λ n. put_before made (behind_value n later)) is ∙ go later
  where
    go : (later : Result Row ValueFault) → put_before made (behind_value (Ok v) later) ≡ put_before (made ++ v ∷ []) later
    go (Err fault) = refl
    go (Ok others) = ap Ok (sym (append_assoc made (v ∷ []) others))

pub put-fault : (made : Row) (m : Meaning) (later r : Result Row ValueFault) (fault : ValueFault) → m ≡ Err fault → r ≡ put_before made (behind_value m later) → r ≡ Err fault
put-fault made m later r fault is e = e ∙ ap (λ n. put_before made (behind_value n later)) is
