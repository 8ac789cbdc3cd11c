-- The last digits of a number: one more of them, and a number in two parts.
use Rattle.std.proofs.Common.{◌≡◌, ℕ, suc, ◌+◌, ◌*◌, ◌/◌, ◌%◌, ◌^◌, ◌<◌, ◌≤◌, ◌-◌, List, [], ◌∷◌, ◌++◌, length, drop, refl, ◌∙◌, ap, sym, arith, append_assoc, decimal}
use Rattle.std.proofs.lemmas.List.{drop-set, append-nil, length-append}
use Rattle.std.proofs.lemmas.Nat.{div-mul-add, mod-mul-add, mod_below, pow-add}
use Rattle.std.proofs.lemmas.Fmt.{decimal_digit, decimal_step_wide}
use Rattle.std.proofs.Math.ListN.{set}
use Rattle.std.proofs.Math.Nat.{pow-suc, pow-zero, div-one, div-div-eq-div-mul, one-le-pow, mul_comm, mod-mod_of_dvd, dvd-mul_right}
use Rattle.std.proofs.Math.Arith.{mod-mul}
use Prim.Native.Nat.{zero}
use Rattle.ooc_decimal.specs.Printed.{places}

-- one more digit stands before those that are written
pub one_more : (part : List ℕ) (at rest : ℕ) (all : List ℕ) → 0 < at → at ≤ length part → places at rest ++ drop at part ≡ all → places (at - 1) (rest / 10) ++ drop (at - 1) (set part (at - 1) (48 + rest % 10)) ≡ all
one_more part zero rest all some within known = absurd (omega arith)
one_more part (suc at) rest all some within known =
    let back : suc at - 1 ≡ at = omega arith in
    let inside : at < length part = omega arith in
    let next : at + 1 ≡ suc at = omega arith in
    rw (back, drop-set part at (48 + rest % 10) inside, next)
    (sym (append_assoc (places at (rest / 10)) ((48 + rest % 10) ∷ []) (drop (suc at) part)) ∙ known)

pow_up : (k : ℕ) → 10 ^ suc k ≡ 10 * 10 ^ k
pow_up k = pow-suc 10 k ∙ mul_comm (10 ^ k) 10

some_power : (k : ℕ) → 0 < 10 ^ k
some_power k = one-le-pow k 10 (omega arith)

-- the last digits of a number, in two parts
pub in_two : (a b n : ℕ) → places (a + b) n ≡ places a (n / 10 ^ b) ++ places b n
in_two a zero n =
    let none : a + 0 ≡ a = omega arith in
    rw (none, pow-zero 10, div-one n) (sym (append-nil (places a n)))
in_two a (suc b) n =
    let up : a + suc b ≡ suc (a + b) = omega arith in
    let down : n / 10 / 10 ^ b ≡ n / 10 ^ suc b = div-div-eq-div-mul n 10 (10 ^ b) ∙ ap (λ k. n / k) (sym (pow_up b)) in
    rw up (ap (λ ds. ds ++ (48 + n % 10) ∷ []) (in_two a b (n / 10) ∙ ap (λ m. places a m ++ places b (n / 10)) down)
    ∙ append_assoc (places a (n / 10 ^ suc b)) (places b (n / 10)) ((48 + n % 10) ∷ []))

-- higher digits don't matter
pub of_rest : (b n : ℕ) → places b (n % 10 ^ b) ≡ places b n
of_rest zero n = refl
of_rest (suc b) n =
    let split : n % 10 ^ suc b ≡ n / 10 % 10 ^ b * 10 + n % 10 = ap (λ k. n % k) (pow-suc 10 b) ∙ mod-mul n (some_power b) (omega arith) in
    let digit : n % 10 < 10 = mod_below n 10 (omega arith) in
    rw (split, div-mul-add (n / 10 % 10 ^ b) 10 (n % 10) digit, mod-mul-add (n / 10 % 10 ^ b) 10 (n % 10) digit)
    (ap (λ ds. ds ++ (48 + n % 10) ∷ []) (of_rest b (n / 10)))

-- all digits of a number of `suc count` digits
pub all_digits : (count n : ℕ) → n < 10 ^ 64 → (0 < count → 10 ^ count ≤ n) → n < 10 ^ suc count → decimal n ≡ places (suc count) n
all_digits zero n wide low high =
    let small : n < 10 = high in
    let same : n % 10 ≡ n = omega arith in
    decimal_digit n small ∙ sym (ap (λ d. (48 + d) ∷ []) same)
all_digits (suc count) n wide low high =
    let first : 10 ^ suc count ≤ n = low (omega arith) in
    let more : 10 * 10 ^ count ≤ n = omega (arith, pow_up count) in
    let some : 0 < 10 ^ count = some_power count in
    let below : n < 10 * 10 ^ suc count = omega (arith, pow_up (suc count)) in
    let wide' : n / 10 < 10 ^ 64 = omega arith in
    let low' : 10 ^ count ≤ n / 10 = omega arith in
    let high' : n / 10 < 10 ^ suc count = omega arith in
    decimal_step_wide n (omega arith) wide
    ∙ ap (λ ds. ds ++ (48 + n % 10) ∷ []) (all_digits count (n / 10) wide' (λ _. low') high')

-- the digits of a number, by the place of the first of them
pub counted : (last n : ℕ) → n ≤ 2 ^ 127 → (0 < last → 10 ^ last ≤ n) → n < 10 * 10 ^ last → decimal n ≡ places (last + 1) n
counted last n small low high =
    let next : last + 1 ≡ suc last = omega arith in
    rw next (all_digits last n (omega arith) low (omega (arith, pow_up last)))

-- the digits below place 19 alone, where no more are asked for
pub low_digits : (count n : ℕ) → count ≤ 19 → places count (n % 10 ^ 19) ≡ places count n
low_digits count n few =
    let whole : 19 ≡ count + (19 - count) = omega arith in
    let power : 10 ^ 19 ≡ 10 ^ count * 10 ^ (19 - count) = ap (λ k. 10 ^ k) whole ∙ pow-add 10 count (19 - count) in
    let same = mod-mod_of_dvd (10 ^ count) n (dvd-mul_right (10 ^ count) (10 ^ (19 - count))) in
    sym (of_rest count (n % 10 ^ 19)) ∙ ap (places count) (ap (λ k. n % k % 10 ^ count) power ∙ same) ∙ of_rest count n

-- the digits from place 19 on, and those below it
pub high_digits : (count n : ℕ) → 19 < count → places (count - 19) (n / 10 ^ 19) ++ places 19 (n % 10 ^ 19) ≡ places count n
high_digits count n many =
    let whole : count - 19 + 19 ≡ count = omega arith in
    ap (λ ds. places (count - 19) (n / 10 ^ 19) ++ ds) (of_rest 19 n) ∙ sym (in_two (count - 19) 19 n) ∙ ap (λ k. places k n) whole

pub length-places : (count n : ℕ) → length (places count n) ≡ count
length-places zero n = refl
length-places (suc count) n = length-append (places count (n / 10)) ((48 + n % 10) ∷ []) ∙ omega (arith, length-places count (n / 10))
