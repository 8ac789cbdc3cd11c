-- What fits a page.
use Rattle.std.proofs.Common.{ℕ, ◌+◌, ◌*◌, ◌-◌, ◌/◌, ◌≤◌, List, length, arith}
use Rattle.row_image.specs.declared.layout.CellKind.{CellKind}
use Rattle.row_image.specs.Bytes.{IsPage}
use Rattle.row_image.specs.Layout.{width_of, rows_that_fit}
use Rattle.row_image.specs.Rules.{text_limit}
use Rattle.row_image.proofs.LayoutLemmas.{width_of_most, width_of_least}

at_least_one : (room width : ℕ) → 1 ≤ width → width ≤ room → 1 ≤ room / width
at_least_one room width some fits = grind arith

-- a row fits a page
pub row_fits_page : (kinds : List CellKind) (page : ℕ) → IsPage page → length kinds ≤ 65 → 1 ≤ rows_that_fit kinds page
unfolding rows_that_fit
row_fits_page kinds page is few =
    let most = width_of_most kinds few in
    let least = width_of_least kinds in
    let long = is.least in
    at_least_one (page - 128) (width_of kinds) (omega (arith, least)) (omega (arith, most, long))

-- 64 texts of the limit fit a heap page
pub texts_fit_page : (page : ℕ) → IsPage page → 64 + 64 * text_limit page ≤ page
unfolding text_limit
texts_fit_page page is = let long = is.least in omega (arith, long)
