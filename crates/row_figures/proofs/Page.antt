-- The page of which all pools here are made.
use Rattle.std.proofs.Common.{◌≡◌, ℕ, subst, sym, refl, arith}
use Rattle.row_image.specs.Bytes.{IsPage}

pub page_262144 : (page : ℕ) → page ≡ 262144 → IsPage page
page_262144 page e = let P : ℕ → Type 0 = λ n. IsPage n in subst P (sym e) (record { least = omega arith; most = omega arith; power = (18, refl) })
