-- A SELECT over sources that give the same bags.
use Rattle.std.proofs.Common.{◌≡◌, Bool, true, false, List, [], ◌∷◌, drop, refl, sym, ap, ◌∙◌, subst, Option, Some, None}
use Rattle.std.specs.Prelude.{flat_map}
use Rattle.std.specs.Ordering.{is_lt}
use Rattle.std.specs.List.Sorted.{IsSortedBy}
use Rattle.ooc_bags.specs.Bags.{SameBag}
use Rattle.ooc_bags.specs.Rows.{row_eq}
use Rattle.ooc_bags.proofs.RowTests.{row_eq-Decides}
use Rattle.sql_expr.specs.declared.fault.ValueFault.{ValueFault}
use Rattle.sql_meaning.specs.Found.{Found, Row, IsSame, clean, and_then, unless_faulted, if_clean}
use Rattle.sql_meaning.specs.Judged.{Condition, RowValue, kept}
use Rattle.sql_meaning.specs.From.{Source, from_rows}
use Rattle.sql_meaning.specs.Groups.{values, Grouping}
use Rattle.sql_meaning.specs.Ordered.{row_cmp, sorted, limited, SortKey}
use Rattle.sql_meaning.specs.Select.{perhaps_grouped, item_found, projected, perhaps_distinct, perhaps_cut, below_having, above_groups, inner_faults, selected, cut_found, Core, Cut}
use Rattle.sql_meaning.specs.Same.{AreSameSources, IsSameCore, Agrees}
use Rattle.ooc_bags.proofs.Bags.{bag-refl, bag-sym, bag-from, bag-append}
use Rattle.ooc_bags.proofs.Rearranged.{rearranged}
use Rattle.sql_meaning.proofs.Orders.{rows_total, rows_tie}
use Rattle.sql_meaning.proofs.Sorting.{sorted-rearranged, sorted_of_sorted}
use Rattle.ooc_bags.proofs.Firsts.{firsts-SameBag}
use Rattle.sql_meaning.proofs.Stages.{same-refl, some-none, same-clean, same-collected, same-and_then, same-unless_faulted, same-if_clean, same-kept, same-from}
use Rattle.sql_meaning.proofs.GroupLemmas.{same-grouped}

pub sorted-SameBag : (keys : List SortKey) (xs ys : List Row) → SameBag xs ys → sorted (row_cmp keys) xs ≡ sorted (row_cmp keys) ys
sorted-SameBag keys xs ys same =
    sorted-rearranged (rows_total keys) (rows_tie keys) xs ys (rearranged row_eq row_eq-Decides xs ys same)

pub same-projected : (items : List RowValue) (xs ys : List Row) → SameBag xs ys → IsSame (projected items xs) (projected items ys)
same-projected items xs ys same =
    let f : Row → Found Row = λ row. item_found (values items row) in
    same-collected f f xs ys same (λ row. same-refl (f row))

pub same-perhaps_grouped : (grouping : Option Grouping) (xs ys : List Row) → SameBag xs ys → IsSame (perhaps_grouped grouping xs) (perhaps_grouped grouping ys)
same-perhaps_grouped None xs ys same = same-clean xs ys same
same-perhaps_grouped (Some grouping) xs ys same = same-grouped grouping xs ys same

pub same-perhaps_distinct : (distinct : Bool) (xs ys : List Row) → SameBag xs ys → SameBag (perhaps_distinct distinct xs) (perhaps_distinct distinct ys)
same-perhaps_distinct false xs ys same = same
same-perhaps_distinct true xs ys same = firsts-SameBag xs ys same

same-faults : (ss ts : List Source) → AreSameSources ss ts → SameBag (flat_map (λ source. source.found.faults) ss) (flat_map (λ source. source.found.faults) ts)
same-faults [] [] same = bag-refl []
same-faults [] (t ∷ ts) same = absurd same
same-faults (s ∷ ss) [] same = absurd same
same-faults (s ∷ ss) (t ∷ ts) same =
    bag-append s.found.faults t.found.faults (flat_map (λ source. source.found.faults) ss) (flat_map (λ source. source.found.faults) ts) same.0.found.faults (same-faults ss ts same.1)

pub same-below_having : (c d : Core) (ss ts : List Source) → c.conjuncts ≡ d.conjuncts → c.grouping ≡ d.grouping → AreSameSources ss ts
    → IsSame (below_having c ss) (below_having d ts)
same-below_having c d ss ts conjuncts grouping same =
    subst (λ (g : Option Grouping). IsSame (below_having c ss) (and_then (and_then (from_rows ts) (kept d.conjuncts)) (perhaps_grouped g))) grouping
    (subst (λ (w : List Condition). IsSame (below_having c ss) (and_then (and_then (from_rows ts) (kept w)) (perhaps_grouped c.grouping))) conjuncts
    (same-and_then (and_then (from_rows ss) (kept c.conjuncts)) (and_then (from_rows ts) (kept c.conjuncts)) (perhaps_grouped c.grouping) (perhaps_grouped c.grouping)
    (same-and_then (from_rows ss) (from_rows ts) (kept c.conjuncts) (kept c.conjuncts) (same-from ss ts same ([] ∷ []) ([] ∷ []) (bag-refl ([] ∷ []))) (same-kept c.conjuncts))
    (same-perhaps_grouped c.grouping)))

pub same-above_groups : (core : Core) (xs ys : List Row) → SameBag xs ys → IsSame (above_groups core xs) (above_groups core ys)
same-above_groups core xs ys same =
    same-if_clean (kept core.having xs) (kept core.having ys) (projected core.items) (projected core.items) (same-kept core.having xs ys same) (same-projected core.items)

above-of : (c d : Core) → c.having ≡ d.having → c.items ≡ d.items → (rows : List Row) → above_groups c rows ≡ above_groups d rows
above-of c d having items rows = λ i. if_clean (kept (having i) rows) (projected (items i))

pub agrees-faulted : (cut : Option Cut) (xs ys : List ValueFault) (f g : Found Row) → SameBag xs ys → Agrees cut f g → Agrees cut (unless_faulted xs f) (unless_faulted ys g)
agrees-faulted None xs ys f g bag same = same-unless_faulted xs ys f g bag same
agrees-faulted (Some cut) xs ys f g bag same = (same-unless_faulted xs ys f g bag same.0, rows xs ys bag same.1)
  where
    rows : (xs ys : List ValueFault) → SameBag xs ys → f.rows ≡ g.rows → (unless_faulted xs f).rows ≡ (unless_faulted ys g).rows
    rows [] [] bag e = e
    rows (x ∷ xs) (y ∷ ys) bag e = refl
    rows [] (y ∷ ys) bag e = absurd (some-none y ys (bag-sym [] (y ∷ ys) bag))
    rows (x ∷ xs) [] bag e = absurd (some-none x xs bag)

pub agrees-cut : (cut : Option Cut) (xs ys : List Row) → SameBag xs ys → Agrees cut (clean (perhaps_cut cut xs)) (clean (perhaps_cut cut ys))
agrees-cut None xs ys same = same-clean xs ys same
agrees-cut (Some cut) xs ys same =
    let e : perhaps_cut (Some cut) xs ≡ perhaps_cut (Some cut) ys = ap (λ rows. limited cut.limit (drop cut.offset rows)) (sorted-SameBag cut.keys xs ys same) in
    (same-clean (perhaps_cut (Some cut) xs) (perhaps_cut (Some cut) ys) (bag-from (perhaps_cut (Some cut) xs) (perhaps_cut (Some cut) ys) e), e)

-- order gives of the same bag the same list, which limit cuts
pub cut-same : (cut : Option Cut) (f g : Found Row) → IsSame f g → Agrees cut (cut_found cut f) (cut_found cut g)
cut-same cut f g same =
    agrees-faulted cut f.faults g.faults (clean (perhaps_cut cut f.rows)) (clean (perhaps_cut cut g.rows)) same.faults (agrees-cut cut f.rows g.rows same.rows)

-- The first of the two facts on which a planner rests: each stage gives over a permuted list a permuted list and the
-- same fault kinds.
pub selected-same : (c d : Core) (ss ts : List Source) → IsSameCore c d → AreSameSources ss ts → IsSame (selected c ss) (selected d ts)
selected-same c d ss ts cores same =
    let here = if_clean (below_having c ss) (above_groups c) in
    let there = if_clean (below_having d ts) (above_groups d) in
    let above = same-if_clean (below_having c ss) (below_having d ts) (above_groups c) (above_groups d) (same-below_having c d ss ts cores.conjuncts cores.grouping same)
    (λ xs ys bag. subst (λ found. IsSame (above_groups c xs) found) (above-of c d cores.having cores.items ys) (same-above_groups c xs ys bag)) in
    let once : SameBag (perhaps_distinct c.distinct here.rows) (perhaps_distinct d.distinct there.rows) =
    subst (λ b. SameBag (perhaps_distinct c.distinct here.rows) (perhaps_distinct b there.rows)) cores.distinct (same-perhaps_distinct c.distinct here.rows there.rows above.rows) in
    same-unless_faulted (inner_faults c ss) (inner_faults d ts)
    (if_clean here (λ rows. clean (perhaps_distinct c.distinct rows))) (if_clean there (λ rows. clean (perhaps_distinct d.distinct rows)))
    (bag-append (flat_map (λ source. source.found.faults) ss) (flat_map (λ source. source.found.faults) ts) c.inner d.inner (same-faults ss ts same) cores.inner)
    (same-unless_faulted here.faults there.faults (clean (perhaps_distinct c.distinct here.rows)) (clean (perhaps_distinct d.distinct there.rows)) above.faults
    (same-clean (perhaps_distinct c.distinct here.rows) (perhaps_distinct d.distinct there.rows) once))

-- a list in order that has the rows of another is that one's sorted list
pub sorted-is : (keys : List SortKey) (xs ys : List Row) → SameBag xs ys → IsSortedBy (λ x y. is_lt (row_cmp keys x y)) ys → ys ≡ sorted (row_cmp keys) xs
sorted-is keys xs ys same up = sym (sorted_of_sorted (rows_total keys) (rows_tie keys) ys up) ∙ sym (sorted-SameBag keys xs ys same)
