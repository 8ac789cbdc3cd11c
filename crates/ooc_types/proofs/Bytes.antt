-- Numbers of as many bytes, lowest first, are told apart by their bytes.
use Rattle.std.proofs.Common.{◌≡◌, ℕ, suc, ◌+◌, ◌*◌, ◌/◌, ◌%◌, ◌^◌, ◌<◌, ℤ, List, [], ◌∷◌, ◌++◌, length, get_or, refl, sym, ap, ◌∙◌, arith, SFits}
use mir.Val.{bits}
use Rattle.std.specs.Int.{w32, w128, Width, byte_at, byte_len, bytes_low_first, to_le_bytes, cast_unsigned, cast_signed}
use Rattle.std.proofs.Math.Nat.{pow-suc, div-one, div-div-eq-div-mul, mod-eq_of_lt}
use Rattle.std.proofs.Math.Facts.{Fits-of_z}
use Rattle.std.proofs.lemmas.Int.{to_z-of_z}
use Prim.Native.Nat.{zero}
use Rattle.ooc_types.specs.Canonical.{digits_bytes, day_bytes, length_bytes}

byte_is : (i n : ℕ) → byte_at i n ≡ n / 256 ^ i % 256
byte_is zero n = ap (λ k. k % 256) (sym (div-one n))
byte_is (suc i) n = refl

next_is : (i n : ℕ) → n / 256 ^ suc i ≡ n / 256 ^ i / 256
next_is i n = ap (λ k. n / k) (pow-suc 256 i) ∙ sym (div-div-eq-div-mul n (256 ^ i) 256)

bytes_same : (i k m n : ℕ) → m / 256 ^ i < 256 ^ k → n / 256 ^ i < 256 ^ k → bytes_low_first i k m ≡ bytes_low_first i k n → m / 256 ^ i ≡ n / 256 ^ i
bytes_same i zero m n p q e = omega arith
bytes_same i (suc k) m n p q e =
    let power = pow-suc 256 k in
    let head : byte_at i m ≡ byte_at i n = ap (λ l. get_or l 0 0) e in
    let m_next = next_is i m in
    let n_next = next_is i n in
    let tail : m / 256 ^ suc i ≡ n / 256 ^ suc i = bytes_same (suc i) k m n (omega arith) (omega arith) (ap (λ l. tail_of l) e) in
    omega (arith, byte_is i m, byte_is i n)
  where
    tail_of : List ℕ → List ℕ
    tail_of [] = []
    tail_of (x ∷ xs) = xs

naturals_same : (k m n : ℕ) → m < 256 ^ k → n < 256 ^ k → bytes_low_first 0 k m ≡ bytes_low_first 0 k n → m ≡ n
naturals_same k m n p q e = omega (arith, bytes_same 0 k m n (omega (arith, div-one m)) (omega (arith, div-one n)) e, div-one m, div-one n)

integers_same : (w : Width) (d e : ℤ) → SFits w d → SFits w e → 2 ^ bits w ≡ 256 ^ byte_len w → to_le_bytes w (cast_unsigned w d) ≡ to_le_bytes w (cast_unsigned w e) → d ≡ e
integers_same w d e p q power same =
    let m = Fits-of_z {w = w} {z = d} p in
    let n = Fits-of_z {w = w} {z = e} q in
    sym (to_z-of_z w d p) ∙ ap (cast_signed w) (naturals_same (byte_len w) (cast_unsigned w d) (cast_unsigned w e) (omega (arith, m.fits, power)) (omega (arith, n.fits, power)) same) ∙ to_z-of_z w e q

pub digits_same : (d e : ℤ) → SFits w128 d → SFits w128 e → digits_bytes d ≡ digits_bytes e → d ≡ e
unfolding digits_bytes
digits_same d e p q same = integers_same w128 d e p q refl same

pub days_same : (d e : ℤ) → SFits w32 d → SFits w32 e → day_bytes d ≡ day_bytes e → d ≡ e
unfolding day_bytes
days_same d e p q same = integers_same w32 d e p q refl same

pub lengths_same : (m n : ℕ) → m < 2 ^ 32 → n < 2 ^ 32 → length_bytes m ≡ length_bytes n → m ≡ n
unfolding length_bytes
lengths_same m n p q same = sym (mod-eq_of_lt p) ∙ naturals_same 4 (m % 2 ^ 32) (n % 2 ^ 32) (omega arith) (omega arith) same ∙ mod-eq_of_lt q

pub length-digits_bytes : (d : ℤ) → length (digits_bytes d) ≡ 16
unfolding digits_bytes
length-digits_bytes d = refl

pub length-day_bytes : (d : ℤ) → length (day_bytes d) ≡ 4
unfolding day_bytes
length-day_bytes d = refl

pub length-length_bytes : (n : ℕ) → length (length_bytes n) ≡ 4
unfolding length_bytes
length-length_bytes n = refl

-- two lists with fronts of one length
pub fronts_same : (a b s t : List ℕ) → length a ≡ length b → a ++ s ≡ b ++ t → (a ≡ b) × (s ≡ t)
fronts_same [] [] s t h e = (refl, e)
fronts_same [] (y ∷ b) s t h e = absurd (omega arith)
fronts_same (x ∷ a) [] s t h e = absurd (omega arith)
fronts_same (x ∷ a) (y ∷ b) s t h e =
    let rest : a ++ s ≡ b ++ t = cc in
    let parts = fronts_same a b s t (omega arith) rest in
    let front : a ≡ b = parts.0 in
    (cc, parts.1)
