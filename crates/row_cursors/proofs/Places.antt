-- Places among the rows of a set's pages.
use Rattle.std.proofs.Common.{◌≡◌, ℕ, zero, suc, ◌+◌, ◌-◌, ◌<◌, ◌≤◌, List, [], ◌∷◌, ◌++◌, length, get_or, take, drop, refl, sym, ap, ◌∙◌, arith}
use Rattle.std.proofs.lemmas.List.{append-nil, drop_more, drop_all, take_all}
use Rattle.row_image.specs.declared.layout.CellKind.{CellKind}
use Rattle.row_image.specs.Texts.{ValueRow}
use Rattle.page_body.specs.View.{PoolTerms}
use Rattle.rebase_pins.specs.Rows.{rows_of_page}
use Rattle.row_sets.specs.Sets.{lists_in, joined, set_lists, set_cells, AllSetPages, Formed}
use Rattle.row_sets.specs.declared.row_set.SetPage.{SetPage}
use Rattle.row_sets.specs.declared.row_set.RowSet.{RowSet}
use Rattle.row_sets.proofs.PageAt.{lists_drop, page_at}
use Rattle.row_cursors.specs.RowCursors.{rows_behind}

module _ {X : Type 0} where
  pub all_behind : (xss : List (List X)) → rows_behind 0 xss ≡ joined xss
  all_behind [] = refl
  all_behind (xs ∷ xss) = refl

  -- one page alone
  pub one_behind : (xss : List (List X)) (n : ℕ) → n < length xss → rows_behind 0 (take (n + 1 - n) (drop n xss)) ≡ get_or xss n []
  one_behind xss n inside =
      ap (λ k. rows_behind 0 (take k (drop n xss))) (let e : n + 1 - n ≡ suc zero = omega arith in e)
      ∙ ap (λ l. rows_behind 0 (take (suc zero) l)) (drop_more xss n [] inside)
      ∙ append-nil (get_or xss n [])

  -- a page without a row at the place is left for the next one
  pub behind_page : (xss : List (List X)) (n end row : ℕ) → n < length xss → n < end → length (get_or xss n []) ≤ row → rows_behind 0 (take (end - (n + 1)) (drop (n + 1) xss)) ≡ rows_behind row (take (end - n) (drop n xss))
  behind_page xss n end row inside before past =
      let k = end - (n + 1) in
      let count : end - n ≡ suc k = omega (arith, before) in
      let here = get_or xss n [] in
      let rest = take k (drop (n + 1) xss) in
      all_behind rest
      ∙ sym (
      ap (λ c. rows_behind row (take c (drop n xss))) count
      ∙ ap (λ l. rows_behind row (take (suc k) l)) (drop_more xss n [] inside)
      ∙ ap (λ l. l ++ joined rest) (drop_all row here past)
      )

  -- the row at the place is the first
  pub first_behind : (xss : List (List X)) (n end row : ℕ) (d : X) → n < length xss → n < end → row < length (get_or xss n []) → rows_behind row (take (end - n) (drop n xss)) ≡ get_or (get_or xss n []) row d ∷ rows_behind (row + 1) (take (end - n) (drop n xss))
  first_behind xss n end row d inside before there =
      let k = end - (n + 1) in
      let count : end - n ≡ suc k = omega (arith, before) in
      let here = get_or xss n [] in
      let rest = joined (take k (drop (n + 1) xss)) in
      let opened : (r : ℕ) → rows_behind r (take (end - n) (drop n xss)) ≡ drop r here ++ rest = λ r.
      ap (λ c. rows_behind r (take c (drop n xss))) count ∙ ap (λ l. rows_behind r (take (suc k) l)) (drop_more xss n [] inside) in
      opened row ∙ ap (λ l. l ++ rest) (drop_more here row d there) ∙ ap (λ l. get_or here row d ∷ l) (sym (opened (row + 1)))

  -- at the end nothing is left
  pub none_behind : (xss : List (List X)) (n end row : ℕ) → end ≤ n → rows_behind row (take (end - n) (drop n xss)) ≡ []
  none_behind xss n end row past = ap (λ c. rows_behind row (take c (drop n xss))) (let e : end - n ≡ zero = omega (arith, past) in e)

  pub none_left : (xss : List (List X)) (n end row : ℕ) → length xss ≤ n → rows_behind row (take (end - n) (drop n xss)) ≡ []
  none_left xss n end row past = ap (λ l. rows_behind row (take (end - n) l)) (drop_all n xss past) ∙ take_none (end - n)
    where
      take_none : (c : ℕ) → rows_behind row (take {A = List X} c []) ≡ []
      take_none zero = refl
      take_none (suc c) = refl

module _ {Page Pin : Type 0} (t : PoolTerms Page Pin) where
  pub lists_long : (kinds : List CellKind) (ps : List (SetPage Page)) → length (lists_in t kinds ps) ≡ length ps
  lists_long kinds [] = refl
  lists_long kinds (p ∷ ps) = let r = lists_long kinds ps in omega (arith, r)

  pub list_at : (kinds : List CellKind) (ps : List (SetPage Page)) (n : ℕ) (p : SetPage Page) → n < length ps → drop n ps ≡ p ∷ drop (n + 1) ps → get_or (lists_in t kinds ps) n [] ≡ rows_of_page t kinds p.page
  list_at kinds ps n p inside e =
      let long = lists_long kinds ps in
      let here = drop_more (lists_in t kinds ps) n [] (omega (arith, long, inside)) in
      let there = lists_drop t kinds ps n ∙ ap (lists_in t kinds) e in
      first_same (sym here ∙ there)
    where
      first_same : {x y : List ValueRow} {xs ys : List (List ValueRow)} → x ∷ xs ≡ y ∷ ys → x ≡ y
      first_same same = ap (λ l. get_or l 0 []) same

  -- all rows of a set
  pub all_rest : (set : RowSet Page) → rows_behind 0 (take (length set.pages.items - 0) (drop 0 (set_lists t set))) ≡ set_cells t set
  all_rest set =
      let long = lists_long set.layout set.pages.items in
      ap (rows_behind 0) (take_all (length set.pages.items - 0) (set_lists t set) (omega (arith, long))) ∙ all_behind (set_lists t set)

  -- how many rows a page has
  pub counted_at : (set : RowSet Page) (n : ℕ) (p : SetPage Page) → n < length set.pages.items → drop n set.pages.items ≡ p ∷ drop (n + 1) set.pages.items → Formed t set → (p.rows ≡ length (get_or (set_lists t set) n [])) × (1 ≤ p.rows)
  counted_at set n p inside e formed =
      let is = page_at t set.layout set.page_bytes set.pages.items n p (drop (n + 1) set.pages.items) e formed.pages in (
        is.counted ∙ ap length (sym (list_at set.layout set.pages.items n p inside e)),
        is.some,
      )

  pub each_has_rows : (set : RowSet Page) (n : ℕ) → n < length set.pages.items → Formed t set → 1 ≤ length (get_or (set_lists t set) n [])
  each_has_rows set n inside formed = some_at set.pages.items n inside formed.pages
    where
      some_at : (ps : List (SetPage Page)) (n : ℕ) → n < length ps → AllSetPages t set.layout set.page_bytes ps → 1 ≤ length (get_or (lists_in t set.layout ps) n [])
      some_at [] n inside all = absurd (omega (arith, inside))
      some_at (p ∷ ps) zero inside all = let some = all.0.some in let counted = all.0.counted in omega (arith, some, counted)
      some_at (p ∷ ps) (suc n) inside all = some_at ps n (omega (arith, inside)) all.1
