-- The pages of tables, with one changed, added or taken away.
use Rattle.std.proofs.Common.{◌≡◌, ℕ, suc, zero, ◌+◌, ◌<◌, ◌≤◌, List, [], ◌∷◌, ◌++◌, length, get_or, set, sym, ap, ◌∙◌, subst, arith, append_assoc, append-nil}
use Rattle.std.specs.List.{remove}
use Rattle.page_body.specs.View.{PoolTerms, PoolView}
use Rattle.page_body.specs.PageLists.{ids_of, AllLive}
use Rattle.row_sets.specs.Holds.{Unpinned}
use Rattle.row_sets.specs.Sets.{set_ids, set_pages}
use Rattle.row_sets.specs.declared.row_set.RowSet.{RowSet}
use Rattle.row_sets.proofs.Retired.{ids_append, live_left, live_right}
use Rattle.paged_catalog.specs.declared.catalog.TableRows.{TableRows}
use Rattle.paged_catalog.specs.Meaning.{sets_pages, rows_pages}

-- the last set and the last table of a list
pub sets_push : {Page : Type 0} (ss : List (RowSet Page)) (s : RowSet Page) → sets_pages (ss ++ s ∷ []) ≡ sets_pages ss ++ set_pages s
sets_push [] s = append-nil (set_pages s)
sets_push (x ∷ xs) s = ap (λ z. set_pages x ++ z) (sets_push xs s) ∙ sym (append_assoc (set_pages x) (sets_pages xs) (set_pages s))

pub rows_push : {Page : Type 0} (rs : List (TableRows Page)) (r : TableRows Page) → rows_pages (rs ++ r ∷ []) ≡ rows_pages rs ++ sets_pages r.sets.items
rows_push [] r = append-nil (sets_pages r.sets.items)
rows_push (x ∷ xs) r = ap (λ z. sets_pages x.sets.items ++ z) (rows_push xs r) ∙ sym (append_assoc (sets_pages x.sets.items) (rows_pages xs) (sets_pages r.sets.items))

-- a table of no pages more
pub no_more : {Page : Type 0} (rs : List (TableRows Page)) (r : TableRows Page) → r.sets.items ≡ [] → rows_pages (rs ++ r ∷ []) ≡ rows_pages rs
no_more rs r none = rows_push rs r ∙ ap (λ ss. rows_pages rs ++ sets_pages ss) none ∙ append-nil (rows_pages rs)

module _ {Page Pin : Type 0} (t : PoolTerms Page Pin) where
  pub ids_set : (rs : List (TableRows Page)) (i : ℕ) (r v : TableRows Page) (y : ℕ) → i < length rs → r ≡ get_or rs i r
      → ids_of t (rows_pages (set rs i v)) y + ids_of t (sets_pages r.sets.items) y ≡ ids_of t (rows_pages rs) y + ids_of t (sets_pages v.sets.items) y
  ids_set [] i r v y h is = absurd (omega (arith, h))
  ids_set (x ∷ xs) zero r v y h is =
      let e = ids_append t (sets_pages v.sets.items) (rows_pages xs) y in
      let f = ids_append t (sets_pages x.sets.items) (rows_pages xs) y in
      let g : ids_of t (sets_pages r.sets.items) y ≡ ids_of t (sets_pages x.sets.items) y = ap (λ (k : TableRows Page). ids_of t (sets_pages k.sets.items) y) is in
      omega (arith, e, f, g)
  ids_set (x ∷ xs) (suc i) r v y h is =
      let k = ids_set xs i r v y (omega (arith, h)) is in
      let e = ids_append t (sets_pages x.sets.items) (rows_pages (set xs i v)) y in
      let f = ids_append t (sets_pages x.sets.items) (rows_pages xs) y in
      omega (arith, k, e, f)

  pub ids_removed : (rs : List (TableRows Page)) (i : ℕ) (r : TableRows Page) (y : ℕ) → i < length rs → r ≡ get_or rs i r
      → ids_of t (rows_pages (remove rs i)) y + ids_of t (sets_pages r.sets.items) y ≡ ids_of t (rows_pages rs) y
  ids_removed [] i r y h is = absurd (omega (arith, h))
  ids_removed (x ∷ xs) zero r y h is =
      let f = ids_append t (sets_pages x.sets.items) (rows_pages xs) y in
      let g : ids_of t (sets_pages r.sets.items) y ≡ ids_of t (sets_pages x.sets.items) y = ap (λ (k : TableRows Page). ids_of t (sets_pages k.sets.items) y) is in
      omega (arith, f, g)
  ids_removed (x ∷ xs) (suc i) r y h is =
      let k = ids_removed xs i r y (omega (arith, h)) is in
      let e = ids_append t (sets_pages x.sets.items) (rows_pages (remove xs i)) y in
      let f = ids_append t (sets_pages x.sets.items) (rows_pages xs) y in
      omega (arith, k, e, f)

  pub ids_push : (ss : List (RowSet Page)) (s : RowSet Page) (y : ℕ) → ids_of t (sets_pages (ss ++ s ∷ [])) y ≡ ids_of t (sets_pages ss) y + set_ids t s y
  ids_push ss s y = ap (λ ps. ids_of t ps y) (sets_push ss s) ∙ ids_append t (sets_pages ss) (set_pages s) y

  -- a worker that holds nothing has no pins
  pub idle_unpinned : (a : PoolView Page Pin) (bag : ℕ → ℕ) → ((x y : ℕ) → a.pins x + a.opens y ≤ a.held) → a.held ≡ 0 → Unpinned t a bag
  idle_unpinned a bag among idle ends y some = let m = among y y in omega (arith, m, idle)

  -- ---- live pages

  pub live_append : (a : PoolView Page Pin) (ps qs : List Page) → AllLive a ps → AllLive a qs → AllLive a (ps ++ qs)
  live_append a [] qs h k = k
  live_append a (p ∷ ps) qs h k = (h.0, live_append a ps qs h.1 k)

  pub live_among : (a : PoolView Page Pin) (rs : List (TableRows Page)) (i : ℕ) (r : TableRows Page) → i < length rs → r ≡ get_or rs i r → AllLive a (rows_pages rs) → AllLive a (sets_pages r.sets.items)
  live_among a [] i r h is all = absurd (omega (arith, h))
  live_among a (x ∷ xs) zero r h is all = subst (λ (k : TableRows Page). AllLive a (sets_pages k.sets.items)) (sym is) (live_left t a (sets_pages x.sets.items) (rows_pages xs) all)
  live_among a (x ∷ xs) (suc i) r h is all = live_among a xs i r (omega (arith, h)) is (live_right t a (sets_pages x.sets.items) (rows_pages xs) all)

  pub live_set : (a : PoolView Page Pin) (rs : List (TableRows Page)) (i : ℕ) (v : TableRows Page) → AllLive a (rows_pages rs) → AllLive a (sets_pages v.sets.items) → AllLive a (rows_pages (set rs i v))
  live_set a [] i v all here = all
  live_set a (x ∷ xs) zero v all here = live_append a (sets_pages v.sets.items) (rows_pages xs) here (live_right t a (sets_pages x.sets.items) (rows_pages xs) all)
  live_set a (x ∷ xs) (suc i) v all here =
      live_append a (sets_pages x.sets.items) (rows_pages (set xs i v)) (live_left t a (sets_pages x.sets.items) (rows_pages xs) all)
      (live_set a xs i v (live_right t a (sets_pages x.sets.items) (rows_pages xs) all) here)

  pub live_removed : (a : PoolView Page Pin) (rs : List (TableRows Page)) (i : ℕ) → AllLive a (rows_pages rs) → AllLive a (rows_pages (remove rs i))
  live_removed a [] zero all = all
  live_removed a [] (suc i) all = all
  live_removed a (x ∷ xs) zero all = live_right t a (sets_pages x.sets.items) (rows_pages xs) all
  live_removed a (x ∷ xs) (suc i) all =
      live_append a (sets_pages x.sets.items) (rows_pages (remove xs i)) (live_left t a (sets_pages x.sets.items) (rows_pages xs) all)
      (live_removed a xs i (live_right t a (sets_pages x.sets.items) (rows_pages xs) all))

  pub live_push : (a : PoolView Page Pin) (ss : List (RowSet Page)) (s : RowSet Page) → AllLive a (sets_pages ss) → AllLive a (set_pages s) → AllLive a (sets_pages (ss ++ s ∷ []))
  live_push a ss s all here = subst (AllLive a) (sym (sets_push ss s)) (live_append a (sets_pages ss) (set_pages s) all here)
