use Rattle.std.proofs.Common.{◌≡◌, ℕ, ◌*◌, ◌%◌, ◌-◌, ◌^◌, ◌<◌, ◌≤◌, bit_and, ap, ◌∙◌, arith}
use Rattle.std.proofs.Math.Nat.{pow-le-pow_right, mod-eq_of_lt}
use Rattle.std.proofs.lemmas.Nat.{and_mask}
use Rattle.row_hash.proofs.parts.radix.Goals as goal

-- a shifted one is a power of two
one_shifted : (k : ℕ) → k ≤ 24 → 1 * 2 ^ k % 18446744073709551616 ≡ 2 ^ k
one_shifted k h =
    let small : 2 ^ k ≤ 2 ^ 24 = pow-le-pow_right {n = 2} (omega arith) h in
    ap (λ x. x % 18446744073709551616) (omega arith) ∙ mod-eq_of_lt (omega arith)

pub returns : goal.returns
returns c = ap (λ x. bit_and c.args.hash (x - 1)) (one_shifted c.args.bits c.requires) ∙ and_mask c.args.hash c.args.bits
