-- Conjuncts put one by one are the conjuncts in three.
use Rattle.std.proofs.Common.{◌≡◌, ℕ, ◌+◌, ◌<◌, ◌≤◌, Bool, true, false, cond, List, [], ◌∷◌, ◌++◌, map, refl, sym, ap, ◌∙◌, get_or, drop, length, Option, Some, None, append_assoc}
use Rattle.std.specs.Prelude.{filter, not, ◌&&◌, is_some}
use Rattle.std.specs.List.{filter_map, cons_option}
use Rattle.sql_expr.specs.declared.tree.Expr.{Expr}
use Rattle.sql_meaning.specs.Moved.{moved}
use Rattle.sql_meaning.specs.Stage.{KeyPair}
use Rattle.plan_tree.specs.Planned.{key_columns}
use Rattle.plan_tree.specs.Split.{own_places, own_conjuncts, key_conjuncts, rest_conjuncts, is_own, key_of, split}
use Rattle.sql_plan.specs.declared.places.Places.{Places}
use Rattle.sql_plan.specs.declared.places.Places.TheVariants.{Moved}
use Rattle.sql_plan.specs.declared.split.Parts.{Parts}
use Rattle.sql_plan.specs.Conjuncts.{parts_of, with_key, with_plain, all_parts}
use Rattle.std.proofs.lemmas.List.{drop_all}
use Rattle.sql_plan.proofs.Lists.{append_nil, drop_is}

abbrev joined : Parts → Parts → Parts
joined a b = record { filters = a.filters ++ b.filters; keys = a.keys ++ b.keys; rest = a.rest ++ b.rest }

same_parts : (a b : Parts) → a.filters ≡ b.filters → a.keys ≡ b.keys → a.rest ≡ b.rest → a ≡ b
same_parts a b filters keys rest = λ i. record { filters = filters i; keys = keys i; rest = rest i }

module _ (at width : ℕ) where
  abbrev three : List Expr → Parts
  three es = parts_of (split at width es [])

  abbrev own : Places
  own = Moved (own_places at width)

  -- the parts behind the first conjunct, by what it is
  one_more : (parts : Parts) (e : Expr) (es : List Expr) (b : Bool) (key : Option KeyPair) → is_own at e ≡ b → key_of at e ≡ key
      → joined (cond b (record { filters = parts.filters ++ moved (own_places at width) e ∷ []; keys = parts.keys; rest = parts.rest }) (with_key key parts e)) (three es) ≡ joined parts (three (e ∷ es))
  one_more parts e es true key is_own_is key_is =
      let filters : own_conjuncts at (e ∷ es) ≡ e ∷ own_conjuncts at es = ap (λ b. cond b (e ∷ own_conjuncts at es) (own_conjuncts at es)) is_own_is in
      let keys : key_conjuncts at (e ∷ es) ≡ key_conjuncts at es = ap (λ b. cond (not b && is_some (key_of at e)) (e ∷ key_conjuncts at es) (key_conjuncts at es)) is_own_is in
      let rest : rest_conjuncts at (e ∷ es) ≡ rest_conjuncts at es = ap (λ b. cond (not b && not (is_some (key_of at e))) (e ∷ rest_conjuncts at es) (rest_conjuncts at es)) is_own_is in
      same_parts (joined (record { filters = parts.filters ++ moved (own_places at width) e ∷ []; keys = parts.keys; rest = parts.rest }) (three es)) (joined parts (three (e ∷ es)))
      (append_assoc parts.filters (moved (own_places at width) e ∷ []) (map (moved (own_places at width)) (own_conjuncts at es)) ∙ ap (λ xs. parts.filters ++ map (moved (own_places at width)) xs) (sym filters))
      (ap (λ xs. parts.keys ++ map key_columns (filter_map (key_of at) xs)) (sym keys))
      (ap (λ xs. parts.rest ++ (xs ++ [])) (sym rest))
  one_more parts e es false None is_own_is key_is =
      let filters : own_conjuncts at (e ∷ es) ≡ own_conjuncts at es = ap (λ b. cond b (e ∷ own_conjuncts at es) (own_conjuncts at es)) is_own_is in
      let keys : key_conjuncts at (e ∷ es) ≡ key_conjuncts at es = λ i. cond (not (is_own_is i) && is_some (key_is i)) (e ∷ key_conjuncts at es) (key_conjuncts at es) in
      let rest : rest_conjuncts at (e ∷ es) ≡ e ∷ rest_conjuncts at es = λ i. cond (not (is_own_is i) && not (is_some (key_is i))) (e ∷ rest_conjuncts at es) (rest_conjuncts at es) in
      same_parts (joined (with_key None parts e) (three es)) (joined parts (three (e ∷ es)))
      (ap (λ xs. parts.filters ++ map (moved (own_places at width)) xs) (sym filters))
      (ap (λ xs. parts.keys ++ map key_columns (filter_map (key_of at) xs)) (sym keys))
      (append_assoc parts.rest (e ∷ []) (rest_conjuncts at es ++ []) ∙ ap (λ xs. parts.rest ++ (xs ++ [])) (sym rest))
  one_more parts e es false (Some key) is_own_is key_is =
      let filters : own_conjuncts at (e ∷ es) ≡ own_conjuncts at es = ap (λ b. cond b (e ∷ own_conjuncts at es) (own_conjuncts at es)) is_own_is in
      let keys : key_conjuncts at (e ∷ es) ≡ e ∷ key_conjuncts at es = λ i. cond (not (is_own_is i) && is_some (key_is i)) (e ∷ key_conjuncts at es) (key_conjuncts at es) in
      let first : filter_map (key_of at) (e ∷ key_conjuncts at es) ≡ key ∷ filter_map (key_of at) (key_conjuncts at es) = ap (λ o. cons_option o (filter_map (key_of at) (key_conjuncts at es))) key_is in
      let rest : rest_conjuncts at (e ∷ es) ≡ rest_conjuncts at es = λ i. cond (not (is_own_is i) && not (is_some (key_is i))) (e ∷ rest_conjuncts at es) (rest_conjuncts at es) in
      same_parts (joined (with_key (Some key) parts e) (three es)) (joined parts (three (e ∷ es)))
      (ap (λ xs. parts.filters ++ map (moved (own_places at width)) xs) (sym filters))
      (append_assoc parts.keys (key_columns key ∷ []) (map key_columns (filter_map (key_of at) (key_conjuncts at es))) ∙ ap (λ xs. parts.keys ++ map key_columns xs) (sym (ap (filter_map (key_of at)) keys ∙ first)))
      (ap (λ xs. parts.rest ++ (xs ++ [])) (sym rest))

  all-three : (parts : Parts) (es : List Expr) → all_parts own at parts es ≡ joined parts (three es)
  all-three parts [] = same_parts parts (joined parts (three [])) (sym (append_nil parts.filters)) (sym (append_nil parts.keys)) (sym (append_nil parts.rest))
  all-three parts (e ∷ es) = all-three (with_plain own at parts e) es ∙ one_more parts e es (is_own at e) (key_of at e) refl refl

  pub parts-are : (parts : Parts) (es : List Expr) → parts ≡ parts_of (split 0 0 [] []) → all_parts own at parts es ≡ three es
  parts-are parts es none = all-three parts es ∙ ap (λ p. joined p (three es)) none

-- the conjuncts that pass a test, from a place on
pub filter-next : (p : Expr → Bool) (list : List Expr) (i : ℕ) (x : Expr) → i < length list → x ≡ get_or list i x → filter p (drop i list) ≡ cond (p x) (x ∷ filter p (drop (i + 1) list)) (filter p (drop (i + 1) list))
filter-next p list i x h is = ap (filter p) (drop_is list i x h is)

pub taken-next : (own : Places) (at : ℕ) (parts new : Parts) (p : Expr → Bool) (list : List Expr) (i : ℕ) (x : Expr) → i < length list → x ≡ get_or list i x → p x ≡ true
    → new ≡ with_plain own at parts x → all_parts own at new (filter p (drop (i + 1) list)) ≡ all_parts own at parts (filter p (drop i list))
taken-next own at parts new p list i x h is passes put =
    ap (λ n. all_parts own at n (filter p (drop (i + 1) list))) put
    ∙ sym (ap (all_parts own at parts) (filter-next p list i x h is ∙ ap (λ b. cond b (x ∷ filter p (drop (i + 1) list)) (filter p (drop (i + 1) list))) passes))

pub left-next : (own : Places) (at : ℕ) (parts : Parts) (p : Expr → Bool) (list : List Expr) (i : ℕ) (x : Expr) → i < length list → x ≡ get_or list i x → p x ≡ false
    → all_parts own at parts (filter p (drop (i + 1) list)) ≡ all_parts own at parts (filter p (drop i list))
left-next own at parts p list i x h is passes =
    sym (ap (all_parts own at parts) (filter-next p list i x h is ∙ ap (λ b. cond b (x ∷ filter p (drop (i + 1) list)) (filter p (drop (i + 1) list))) passes))

-- where all were gone through, the parts are the conjuncts in three
pub parts_done : (own : Places) (at width : ℕ) (parts none : Parts) (p : Expr → Bool) (list : List Expr) (i : ℕ) → length list ≤ i → own ≡ Moved (own_places at width)
    → none ≡ parts_of (split 0 0 [] []) → all_parts own at parts (filter p (drop i list)) ≡ all_parts own at none (filter p list) → parts ≡ parts_of (split at width (filter p list) [])
parts_done own at width parts none p list i h is empty so_far =
    sym (ap (λ l. all_parts own at parts (filter p l)) (drop_all i list h))
    ∙ so_far
    ∙ ap (λ o. all_parts o at none (filter p list)) is
    ∙ parts-are at width none (filter p list) empty
