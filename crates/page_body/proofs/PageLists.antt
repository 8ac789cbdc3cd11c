-- Lists of live pages that differ.
use Rattle.std.proofs.Common.{◌≡◌, ◌≢◌, ℕ, ◌+◌, ◌≤◌, IsTrue, List, [], ◌∷◌, ◌++◌, map, refl, sym, ap, subst, arith}
use mathlib.Core.Logic.{dite}
use native.Mathlib.Decide.{ℕ_discrete}
use Rattle.number_bags.specs.Bags.{one_of, times}
use Rattle.number_bags.proofs.Bags.{one_same, one_other, one_most}
use Rattle.page_body.specs.View.{PoolTerms, PoolView}
use Rattle.page_body.specs.Keeps.{LiveOn}
use Rattle.page_body.specs.Shows.{IsNew}
use Rattle.page_body.specs.PageLists.{ids_of, Differ, AllLive}

module _ {Page Pin : Type 0} (t : PoolTerms Page Pin) where
  -- of lists put together the bags are summed
  pub ids_append : (xs ys : List Page) (y : ℕ) → ids_of t (xs ++ ys) y ≡ ids_of t xs y + ids_of t ys y
  ids_append [] ys y = omega arith
  ids_append (x ∷ xs) ys y = omega (arith, ids_append xs ys y)

  -- it is the bag of the list of numbers
  pub ids_times : (xs : List Page) (y : ℕ) → ids_of t xs y ≡ times (map t.id xs) y
  ids_times [] y = refl
  ids_times (x ∷ xs) y = omega (arith, ids_times xs y)

  -- the number of a new page is none of those of live pages
  pub none_new : (a b : PoolView Page Pin) (x : Page) → IsNew t a b x → IsTrue t.ends_lives → (xs : List Page) → AllLive a xs → ids_of t xs (t.id x) ≡ 0
  none_new a b x new ends [] live = refl
  none_new a b x new ends (p ∷ ps) live =
      let rest = none_new a b x new ends ps live.1 in
      let other = one_other (t.id p) (t.id x) (λ e. new.differs ends p live.0 (sym e)) in
      omega (arith, rest, other)

  -- a new page differs from those that were live
  pub differ_push : (a b : PoolView Page Pin) (xs : List Page) (x : Page) → AllLive a xs → IsNew t a b x → Differ t (ids_of t xs) → Differ t (ids_of t (xs ++ x ∷ []))
  differ_push a b xs x live new differ ends y =
      let both = ids_append xs (x ∷ []) y in
      dite (ℕ_discrete y (t.id x))
      (λ e. let none = subst (λ z. ids_of t xs z ≡ 0) (sym e) (none_new a b x new ends xs live) in omega (arith, none, both, one_most (t.id x) y))
      (λ n. let most = differ ends y in omega (arith, most, both, one_other (t.id x) y n))

module _ {Page Pin : Type 0} where
  pub live_on : (a b : PoolView Page Pin) (xs : List Page) → LiveOn a b → AllLive a xs → AllLive b xs
  live_on a b [] lives live = tt
  live_on a b (x ∷ xs) lives live = (lives x live.0, live_on a b xs lives live.1)

  pub live_append : (a : PoolView Page Pin) (xs ys : List Page) → AllLive a xs → AllLive a ys → AllLive a (xs ++ ys)
  live_append a [] ys live others = others
  live_append a (x ∷ xs) ys live others = (live.0, live_append a xs ys live.1 others)
