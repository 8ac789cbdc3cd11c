-- Rows that were sorted are the one list in order.
use Rattle.std.proofs.Common.{◌≡◌, cond, List, Ordering, sym, ap}
use denote.Param.Members.{Mut}
use denote.Ref.{Bor}
use Rattle.std.specs.Prelude.{Bool}
use Rattle.std.specs.Ordering.{is_lt}
use Rattle.std.specs.Cmp.{IsStrictWeakOrder}
use Rattle.std.specs.Fn.{Called, ComparesAs}
use Rattle.std.specs.List.Sorted.{IsPermutation, IsSortedBy}
use Rattle.std.proofs.lemmas.Fn.{always_returns_same}
use Rattle.std.proofs.lemmas.List.Sorted.{ranks_by, sum_by-IsPermutation}
use Rattle.ooc_bags.specs.Bags.{SameBag}
use Rattle.sql_meaning.specs.Found.{Row}
use Rattle.sql_meaning.specs.Ordered.{SortKey, row_cmp, sorted}
use Rattle.sql_meaning.proofs.Orders.{rows_total}
use Rattle.sql_meaning.proofs.Selecting.{sorted-is}

bag-of-moved : (xs ys : List Row) → IsPermutation xs ys → SameBag xs ys
bag-of-moved xs ys moved = λ test. sym (sum_by-IsPermutation (λ x. cond (test x) 1 0) xs ys moved)

-- from the clauses of a sort, where each call compares two rows by the keys
pub sorted-by_calls : (keys : List SortKey) {F : Type 0} {g : Mut F (Bor Row × (Bor Row × Unit {0})) Ordering} {f : F} (xs ys : List Row) → IsPermutation xs ys
    → ((lt : Row → Row → Bool) → IsStrictWeakOrder lt → ComparesAs g lt f → IsSortedBy lt ys)
    → ((a : Bor Row × (Bor Row × Unit {0})) (r : Ordering) (f' : F) → Called g f a r f' → (r ≡ row_cmp keys a.0.now a.1.0.now) × (f' ≡ f)) → ys ≡ sorted (row_cmp keys) xs
sorted-by_calls keys {g = g} {f = f} xs ys moved up calls =
    let answers = always_returns_same g (λ a r. is_lt r ≡ is_lt (row_cmp keys a.0.now a.1.0.now)) f (λ a r f' k. (ap is_lt (calls a r f' k).0, (calls a r f' k).1)) in
    sorted-is keys xs ys (bag-of-moved xs ys moved) (up (λ x y. is_lt (row_cmp keys x y)) (ranks_by (rows_total keys) (λ row. row)) answers)
