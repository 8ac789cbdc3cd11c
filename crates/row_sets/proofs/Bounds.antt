-- Rows and pages of a set, counted.
use Rattle.std.proofs.Common.{◌≡◌, ℕ, ◌+◌, ◌-◌, ◌*◌, ◌/◌, ◌≤◌, List, [], ◌∷◌, ◌++◌, length, Option, Some, None, ap, ◌∙◌, arith, length-append}
use Rattle.row_image.specs.declared.layout.CellKind.{CellKind}
use Rattle.row_image.specs.Layout.{width_of, rows_that_fit}
use Rattle.page_body.specs.View.{PoolTerms}
use Rattle.rebase_pins.specs.Rows.{rows_of_page}
use Rattle.row_sets.specs.Sets.{with_heap, pages_in, row_pages_in, lists_in, joined, AllSetPages}
use Rattle.row_sets.specs.declared.row_set.SetPage.{SetPage}

heap_more : {H : Type 0} (o : Option H) (ps : List H) → length ps ≤ length (with_heap o ps)
heap_more None ps = omega arith
heap_more (Some h) ps = omega arith

pub row_pages_among : {H : Type 0} (ps : List (SetPage H)) → length (row_pages_in ps) ≤ length (pages_in ps)
row_pages_among [] = omega arith
row_pages_among (p ∷ ps) =
    let i = row_pages_among ps in
    let h = p.page in
    let d = heap_more h.heap3 (pages_in ps) in
    let c = heap_more h.heap2 (with_heap h.heap3 (pages_in ps)) in
    let b = heap_more h.heap1 (with_heap h.heap2 (with_heap h.heap3 (pages_in ps))) in
    let a = heap_more h.heap0 (with_heap h.heap1 (with_heap h.heap2 (with_heap h.heap3 (pages_in ps)))) in
    omega (arith, i, a, b, c, d)

-- so many rows fit, and a page's rows are at most its bytes
fit_bytes : (page w : ℕ) → (page - 128) / w * w ≤ page
fit_bytes page w = grind arith

product_more : (a b w : ℕ) → a ≤ b → a * w ≤ b * w
product_more a b w more = grind arith

sum_times : (a b w : ℕ) → (a + b) * w ≡ a * w + b * w
sum_times a b w = grind arith

pub rows_within : {Page Pin : Type 0} (t : PoolTerms Page Pin) (kinds : List CellKind) (page : ℕ) (ps : List (SetPage Page)) → AllSetPages t kinds page ps → length (joined (lists_in t kinds ps)) * width_of kinds ≤ length (row_pages_in ps) * page
unfolding rows_that_fit
rows_within t kinds page [] all = grind arith
rows_within t kinds page (p ∷ ps) all =
    let w = width_of kinds in
    let i = rows_within t kinds page ps all.1 in
    let n = length (rows_of_page t kinds p.page) in
    let m = length (joined (lists_in t kinds ps)) in
    let f = all.0.few in
    let q = all.0.counted in
    let fits : n ≤ (page - 128) / w = omega (arith, f, q) in
    let one = product_more n ((page - 128) / w) w fits in
    let two = fit_bytes page w in
    let e = length-append (rows_of_page t kinds p.page) (joined (lists_in t kinds ps)) in
    let whole : length (rows_of_page t kinds p.page ++ joined (lists_in t kinds ps)) * w ≡ n * w + m * w = ap (λ z. z * w) e ∙ sum_times n m w in
    let pages = sum_times (length (row_pages_in ps)) 1 page in
    omega (arith, whole, one, two, i, pages)
