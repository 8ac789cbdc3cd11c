-- The least page, and rows of one text on it.
use Rattle.std.proofs.Common.{◌≡◌, ℕ, zero, suc, ◌+◌, ◌<◌, ◌≤◌, [], ◌∷◌, Some, get_or, subst, sym, refl, arith}
use Rattle.row_image.specs.declared.layout.CellKind.TheVariants.{Bit, Text}
use Rattle.row_image.specs.declared.cell.CellIn.TheVariants.{Null, Long}
use Rattle.row_image.specs.Cells.{Takes, given_cell}
use Rattle.row_image.specs.Parts.{LiesOn}
use Rattle.row_image.specs.Rules.{text_limit}
use Rattle.row_image.specs.Bytes.{IsPage}

pub page_4096 : (page : ℕ) → page ≡ 4096 → IsPage page
page_4096 page e = let P : ℕ → Type 0 = λ n. IsPage n in subst P (sym e) (record { least = omega arith; most = omega arith; power = (12, refl) })

pub one_long : (limit base column : ℕ) → 13 ≤ limit → column < 1 → Takes (get_or (Text ∷ []) column Bit) limit (given_cell (get_or (Long (97 ∷ 98 ∷ 99 ∷ 100 ∷ []) 13 (base + 64) ∷ []) column Null))
one_long limit base zero most inside = (omega arith, most)
one_long limit base (suc column) most inside = absurd (omega arith)

pub one_lies : (page number base column : ℕ) → 4096 ≤ page → column < 1 → LiesOn page (Some (number, base)) (given_cell (get_or (Long (97 ∷ 98 ∷ 99 ∷ 100 ∷ []) 13 (base + 64) ∷ []) column Null))
one_lies page number base zero long inside = (omega arith, omega arith)
one_lies page number base (suc column) long inside = absurd (omega arith)

pub limit_4096 : (page : ℕ) → page ≡ 4096 → 13 ≤ text_limit page
unfolding text_limit
limit_4096 page e = omega (arith, e)
