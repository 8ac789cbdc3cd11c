-- What stands under a name, column by column.
use Rattle.std.proofs.Common.{◌≡◌, ℕ, zero, suc, ◌+◌, ◌<◌, ◌≤◌, Bool, true, false, cond, List, [], ◌∷◌, refl, sym, ap, ◌∙◌, get_or, map, take, ◌++◌, drop, length, arith}
use Rattle.ooc_types.specs.declared.schema.SqlType.{SqlType}
use Rattle.sql_scope.specs.declared.scope.ScopeColumn.{ScopeColumn}
use Rattle.sql_scope.specs.declared.names.Found.{Found}
use Rattle.sql_scope.specs.declared.names.Found.TheVariants.{Nothing, Several}
use Rattle.sql_scope.specs.Literals.{limited}
use Rattle.sql_scope.specs.Scopes.{Spot, spots, found, after, counted, only, in_source, is_named, is_of, is_in}

pub item_behind : {A : Type 0} → (list : List A) (i : ℕ) (e : A) → i < length list → e ≡ get_or list i e → drop i list ≡ e ∷ drop (i + 1) list
item_behind [] i e h is = absurd (omega arith)
item_behind (x ∷ list) zero e h is = ap (λ y. y ∷ list) (sym is)
item_behind (x ∷ list) (suc i) e h is =
    let next : suc (i + 1) ≡ suc i + 1 = omega arith in
    item_behind list i e (omega arith) is ∙ ap (λ n. e ∷ drop n (x ∷ list)) next

pub item_at : {A : Type 0} → (list : List A) (i : ℕ) (d : A) → i < length list → drop i list ≡ get_or list i d ∷ drop (i + 1) list
item_at [] i d h = absurd (omega arith)
item_at (x ∷ list) zero d h = refl
item_at (x ∷ list) (suc i) d h =
    let next : suc (i + 1) ≡ suc i + 1 = omega arith in
    item_at list i d (omega arith) ∙ ap (λ n. get_or list i d ∷ drop n (x ∷ list)) next

pub nothing_behind : {A : Type 0} → (list : List A) (i : ℕ) → length list ≤ i → drop i list ≡ []
nothing_behind [] zero h = refl
nothing_behind [] (suc i) h = refl
nothing_behind (x ∷ list) zero h = absurd (omega arith)
nothing_behind (x ∷ list) (suc i) h = nothing_behind list i (omega arith)

several : (list : List Spot) → after Several list ≡ Several
several [] = refl
several (spot ∷ list) = several list

pub found_is : (list : List Spot) → after Nothing list ≡ found list
found_is [] = refl
found_is (spot ∷ []) = refl
found_is (spot ∷ more ∷ list) = several list

counted_after : (holds : Bool) (seen : Found) (place : ℕ) (kind : SqlType) (list : List Spot)
    → after seen (cond holds (record { place = place; kind = kind } ∷ list) list) ≡ after (counted holds seen place kind) list
counted_after true seen place kind list = refl
counted_after false seen place kind list = refl

pub next_column : (test : ScopeColumn → Bool) (seen : Found) (i : ℕ) (columns : List ScopeColumn) (column : ScopeColumn)
    → i < length columns → column ≡ get_or columns i column
    → after seen (spots test i (drop i columns)) ≡ after (counted (test column) seen i column.kind) (spots test (i + 1) (drop (i + 1) columns))
next_column test seen i columns column h is =
    ap (λ cs. after seen (spots test i cs)) (item_behind columns i column h is)
    ∙ counted_after (test column) seen i column.kind (spots test (i + 1) (drop (i + 1) columns))

pub last_column : (test : ScopeColumn → Bool) (seen : Found) (i : ℕ) (columns : List ScopeColumn) → length columns ≤ i
    → after seen (spots test i (drop i columns)) ≡ seen
last_column test seen i columns h = ap (λ cs. after seen (spots test i cs)) (nothing_behind columns i h)

taken : (xs : List ℕ) → take (length xs) (xs ++ []) ≡ xs
taken [] = refl
taken (x ∷ xs) = ap (λ y. x ∷ y) (taken xs)

length_map : (f : ℕ → ℕ) (xs : List ℕ) → length (map f xs) ≡ length xs
length_map f [] = refl
length_map f (x ∷ xs) = ap suc (length_map f xs)

-- all of a list is written anew
pub rewritten : (f : ℕ → ℕ) (n : ℕ) (xs ys : List ℕ) → n ≡ length xs → ys ≡ map f xs → take n (ys ++ drop (length ys) xs) ≡ map f xs
rewritten f n xs ys size is =
    let same : length ys ≡ length xs = ap length is ∙ length_map f xs in
    let none : drop (length ys) xs ≡ [] = nothing_behind xs (length ys) (omega arith) in
    let e : n ≡ length ys = size ∙ sym same in
    ap (λ m. take m (ys ++ drop (length ys) xs)) e ∙ ap (λ r. take (length ys) (ys ++ r)) none ∙ taken ys ∙ is

pub one_name : (place : ℕ) (f : Found) (name text : List ℕ) (columns seen : List ScopeColumn)
    → f ≡ found (spots (is_named name) 0 columns) → name ≡ text → columns ≡ seen → only place f ≡ only place (found (spots (is_named text) 0 seen))
one_name place f name text columns seen is same all =
    ap (only place) (is ∙ ap (λ n. found (spots (is_named n) 0 columns)) same ∙ ap (λ c. found (spots (is_named text) 0 c)) all)

pub two_names : (place : ℕ) (f g : Found) (source name of text : List ℕ) (columns others seen : List ScopeColumn)
    → f ≡ found (spots (is_of source) 0 columns) → g ≡ found (spots (is_in source name) 0 others) → source ≡ of → name ≡ text → columns ≡ seen → others ≡ seen
    → in_source place f g ≡ in_source place (found (spots (is_of of) 0 seen)) (found (spots (is_in of text) 0 seen))
two_names place f g source name of text columns others seen is at same to all more =
    ap (λ x. in_source place x g) (is ∙ ap (λ n. found (spots (is_of n) 0 columns)) same ∙ ap (λ c. found (spots (is_of of) 0 c)) all)
    ∙ ap (in_source place (found (spots (is_of of) 0 seen)))
    (at ∙ ap (λ n. found (spots (is_in n name) 0 others)) same ∙ ap (λ n. found (spots (is_in of n) 0 others)) to ∙ ap (λ c. found (spots (is_in of text) 0 c)) more)

pub one_text : (limit most place : ℕ) (text bytes : List ℕ) → limit ≡ most → text ≡ bytes → limited limit place text ≡ limited most place bytes
one_text limit most place text bytes is same = ap (λ n. limited n place text) is ∙ ap (limited most place) same
