-- Numbers of few digits, and workers that the frames are enough for.
use Rattle.std.proofs.Common.{◌≡◌, ℕ, ◌+◌, ◌*◌, ◌^◌, ◌<◌, ◌≤◌, arith, true, List, length, get_or, sym, ◌∙◌, replicate}
use Rattle.std.proofs.Math.Nat.{pow-le-pow_right}
use Rattle.std.specs.Prelude.{sum}
use Rattle.std.proofs.lemmas.Bool.{and_parts, leb-true, true_from_ne_false, false≢true}
use Rattle.std.proofs.lemmas.List.Folds.{list_all_at, sum_by-replicate}
use Rattle.std.proofs.lemmas.List.Sums.{sum-map}
use Rattle.mem_division.specs.Division.{least_of, Want}
use Rattle.run_settings.specs.Numbers.{is_numeral, is_digit}

-- twenty digits at most, of which i were read
pub times_ten : (n i : ℕ) → i < 20 → n < 10 ^ i → n * 10 + 9 < 2 ^ 128
times_ten n i few small =
    let most : 10 ^ i ≤ 10 ^ 19 = pow-le-pow_right {n = 10} (omega arith) {i = i} {j = 19} (omega arith) in
    omega arith

pub number_short : (text : List ℕ) → is_numeral text ≡ true → length text ≤ 20
number_short text h = leb-true (length text) 20 (and_parts _ _ (and_parts _ _ h).0).1

pub digit_small : (text : List ℕ) (i : ℕ) → is_numeral text ≡ true → i < length text → get_or text i 0 ≤ 57
digit_small text i h within =
    let all = (and_parts _ _ h).1 in
    let digit : is_digit (get_or text i 0) ≡ true = true_from_ne_false _ (λ no. false≢true (sym (list_all_at is_digit text i 0 within no) ∙ all)) in
    leb-true _ 57 (and_parts _ _ digit).1

-- each of so many places wants 24 frames at least
pub least_sum : (count least most : ℕ) → sum (least_of (replicate count (least, most))) ≡ count * least
least_sum count least most =
    sum-map (λ (want : Want). want.0) (replicate count (least, most)) ∙ sum_by-replicate (λ (want : Want). want.0) count (least, most)
