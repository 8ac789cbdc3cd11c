-- The number that digits spell, as it is read.
use Rattle.std.proofs.Common.{◌≡◌, ℕ, suc, ◌+◌, ◌-◌, ◌*◌, ◌^◌, ◌<◌, ◌≤◌, Bool, true, false, ◌&&◌, List, [], ◌∷◌, ◌++◌, length, get_or, drop, refl, ◌∙◌, ap, sym, subst, arith, Option}
use Rattle.std.specs.Option.{SomeIff}
use Rattle.std.proofs.lemmas.Bool.{false≢true}
use Rattle.ooc_decimal.specs.Digits.{ReadsOn}
use Rattle.std.proofs.lemmas.List.{at_drop_more}
use Rattle.std.proofs.Math.Nat.{le-mul_of_pos_right, pow-le-pow_right, one-le-pow, pow-suc}
use Rattle.std.specs.Str.{all_ascii_digits}
use Rattle.std.specs.Char.{is_ascii_digit}
use Rattle.std.proofs.lemmas.Bool.Decides.{nat_tests}
use Rattle.ooc_decimal.specs.Numeral.{number_after}

-- more digits make no number smaller
pub grows : (n : ℕ) (digits : List ℕ) → n ≤ number_after n digits
grows n [] = omega arith
grows n (digit ∷ digits) = omega (arith, grows (n * 10 + (digit - 48)) digits)

first_alone : (a b : Bool) → (a && b) ≡ true → (a && true) ≡ true
first_alone true b e = refl
first_alone false b e = e

stops_here : (n byte : ℕ) (bytes : List ℕ) → ((all_ascii_digits (byte ∷ []) ≡ true) × (number_after n (byte ∷ []) < 2 ^ 128) → ⊥) → all_ascii_digits (byte ∷ bytes) ≡ true → number_after n (byte ∷ bytes) < 2 ^ 128 → ⊥
stops_here n byte bytes none digits fits =
    none (first_alone _ (all_ascii_digits bytes) digits, omega (arith, grows (n * 10 + (byte - 48)) bytes, fits))

-- where the next digit can't be read, the whole can't be
pub stops : (n : ℕ) (bytes : List ℕ) (i : ℕ) → i < length bytes → ((all_ascii_digits (get_or bytes i 0 ∷ []) ≡ true) × (number_after n (get_or bytes i 0 ∷ []) < 2 ^ 128) → ⊥) → all_ascii_digits (drop i bytes) ≡ true → number_after n (drop i bytes) < 2 ^ 128 → ⊥
stops n bytes i inside none digits fits =
    let P : ℕ → Type 0 = λ k. k < 2 ^ 128 in
    stops_here n (get_or bytes i 0) (drop (i + 1) bytes) none
    (sym (at_drop_more all_ascii_digits bytes i 0 inside) ∙ digits)
    (subst P (at_drop_more (number_after n) bytes i 0 inside) fits)

-- any number with 39 zeros behind it needs more than 128 bits
pub far : (n places : ℕ) → 0 < n → 38 < places → n * 10 ^ places < 2 ^ 128 → ⊥
far n places some many fits =
    omega (arith, pow-le-pow_right {n = 10} (omega arith) {i = 39} {j = places} many, le-mul_of_pos_right {m = n} (10 ^ places) some, fits)

pub number_after-append : (n : ℕ) (front back : List ℕ) → number_after n (front ++ back) ≡ number_after (number_after n front) back
number_after-append n [] back = refl
number_after-append n (digit ∷ digits) back = number_after-append (n * 10 + (digit - 48)) digits back

pub and_true : (a b : Bool) → (a && b) ≡ true → (a ≡ true) × (b ≡ true)
and_true true b e = (refl, e)
and_true false b e = absurd (false≢true e)

pub digits_in_both : (front back : List ℕ) → all_ascii_digits (front ++ back) ≡ true → (all_ascii_digits front ≡ true) × (all_ascii_digits back ≡ true)
digits_in_both [] back e = (refl, e)
digits_in_both (digit ∷ digits) back e =
    let parts = and_true _ (all_ascii_digits (digits ++ back)) e in
    let rest = digits_in_both digits back parts.1 in
    (ap (λ b. b && all_ascii_digits digits) parts.0 ∙ rest.0, rest.1)

pub digits_behind : (front back : List ℕ) → all_ascii_digits front ≡ true → all_ascii_digits back ≡ all_ascii_digits (front ++ back)
digits_behind [] back e = refl
digits_behind (digit ∷ digits) back e =
    let parts = and_true _ (all_ascii_digits digits) e in
    digits_behind digits back parts.1 ∙ ap (λ b. b && all_ascii_digits (digits ++ back)) (sym parts.0)

-- what is known at a number, is known at an equal one
pub carried : (o : Option ℕ) (a b : Bool) (m n : ℕ) → a ≡ b → m ≡ n → SomeIff o ((a ≡ true) × (m < 2 ^ 128)) m → SomeIff o ((b ≡ true) × (n < 2 ^ 128)) n
carried o a b m n e f known =
    let P : Bool → Type 0 = λ x. SomeIff o ((x ≡ true) × (m < 2 ^ 128)) m in
    let Q : ℕ → Type 0 = λ k. SomeIff o ((b ≡ true) × (k < 2 ^ 128)) k in
    subst Q f (subst P e known)

pub pair_read : (front back : List ℕ) (value : ℕ) (o : Option ℕ) → all_ascii_digits front ≡ true → value ≡ number_after 0 front → ReadsOn value back o → ReadsOn 0 (front ++ back) o
pair_read front back value o digits e known =
    carried o (all_ascii_digits back) (all_ascii_digits (front ++ back)) (number_after value back) (number_after 0 (front ++ back))
    (digits_behind front back digits) (ap (λ n. number_after n back) e ∙ sym (number_after-append 0 front back)) known

pub no_pair : (front back : List ℕ) → ((all_ascii_digits front ≡ true) × (number_after 0 front < 2 ^ 128) → ⊥) → (all_ascii_digits (front ++ back) ≡ true) × (number_after 0 (front ++ back) < 2 ^ 128) → ⊥
no_pair front back none both =
    none ((digits_in_both front back both.0).0, omega (arith, grows (number_after 0 front) back, number_after-append 0 front back, both.1))

pub not_scaled : (digits : List ℕ) (zeros : ℕ) → ((all_ascii_digits digits ≡ true) × (number_after 0 digits < 2 ^ 128) → ⊥) → (all_ascii_digits digits ≡ true) × (number_after 0 digits * 10 ^ zeros < 2 ^ 128) → ⊥
not_scaled digits zeros none both =
    let some : 0 < 10 ^ zeros = one-le-pow zeros 10 (omega arith) in
    none (both.0, omega (arith, le-mul_of_pos_right {m = 10 ^ zeros} (number_after 0 digits) some, both.1))

pub is_digit : (byte : ℕ) → is_ascii_digit byte ≡ true → (48 ≤ byte) × (byte < 58)
is_digit byte e = (grind (arith, nat_tests), grind (arith, nat_tests))

-- one digit more, while all have at most 18
pub narrow_step : (value digit places : ℕ) → value < 10 ^ places → digit < 10 → value * 10 + digit < 10 ^ (places + 1)
narrow_step value digit places small one =
    let next : places + 1 ≡ suc places = omega arith in
    rw next (omega (arith, pow-suc 10 places))

pub narrow_pair_read : (front back : List ℕ) (value : ℕ) (o : Option ℕ) → all_ascii_digits front ≡ true → value ≡ number_after 0 front → SomeIff o (all_ascii_digits back ≡ true) (number_after value back) → SomeIff o (all_ascii_digits (front ++ back) ≡ true) (number_after 0 (front ++ back))
narrow_pair_read front back value o digits e known =
    let P : Bool → Type 0 = λ x. SomeIff o (x ≡ true) (number_after value back) in
    let Q : ℕ → Type 0 = λ k. SomeIff o (all_ascii_digits (front ++ back) ≡ true) k in
    subst Q (ap (λ n. number_after n back) e ∙ sym (number_after-append 0 front back)) (subst P (digits_behind front back digits) known)
