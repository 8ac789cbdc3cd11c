-- That a number is the length of a page is a fact with one proof, so that a ghost field can say it.
use Rattle.std.proofs.Common.{◌≡◌, ℕ, ◌^◌, ◌≤◌, sym, ◌∙◌, arith}
use Rattle.std.proofs.lemmas.Nat.{pow_below}
use Rattle.std.proofs.Math.Decide.{dec_le}
use Rattle.std.proofs.Math.Nat.{lt_of_not-le}
use Rattle.std.proofs.Math.Bridge.{le_prop}
use Rattle.std.proofs.Props.{props}
use mathlib.Core.Logic.{dite}
use mathlib.Core.Path.{Σ_path, to_path_p}
use Rattle.row_image.specs.Bytes.{IsPage}

power_most : (i j : ℕ) → 2 ^ i ≡ 2 ^ j → j ≤ i
power_most i j e = dite (dec_le j i) (λ h. h) (λ n. let less = pow_below i j (lt_of_not-le n) in absurd (omega (arith, less, e)))

same_power : (i j : ℕ) → 2 ^ i ≡ 2 ^ j → i ≡ j
same_power i j e = omega (arith, power_most i j e, power_most j i (sym e))

power_prop : (page : ℕ) → IsProp ((k : ℕ) × (page ≡ 2 ^ k))
power_prop page x y =
    let there : IsProp (page ≡ 2 ^ y.0) = hlevel props in
    Σ_path (same_power x.0 y.0 (sym x.1 ∙ y.1)) (to_path_p (λ i. page ≡ 2 ^ (same_power x.0 y.0 (sym x.1 ∙ y.1) i)) (there _ _))

pub IsPage-prop : (page : ℕ) → IsProp (IsPage page)
IsPage-prop page a b = λ i. record {
  least = le_prop a.least b.least i;
  most = le_prop a.most b.most i;
  power = power_prop page a.power b.power i;
}
