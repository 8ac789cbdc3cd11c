-- The columns of a row that are put back, by their places.
use Rattle.std.proofs.Common.{◌≡◌, ℕ, zero, suc, ◌+◌, List, [], ◌∷◌, ◌++◌, map, take, drop, length, get_or, refl, sym, ap, ap₂, ◌∙◌, arith, append_assoc, length-append}
use Rattle.std.specs.List.{range_with_len, take-map, drop-map}
use Rattle.ooc_types.specs.declared.value.Value.{Value}
use Rattle.ooc_types.specs.declared.value.Value.TheVariants.{Null}
use Rattle.sql_meaning.specs.Found.{Row}
use Rattle.sql_meaning.specs.Ordered.{value_at}
use Rattle.ooc_bags.specs.Rearranged.{IsRearranged}
use Rattle.sql_meaning.specs.Free.{Table, width_of, reordered, places_of}

map-over : {B C : Type 0} (f : B → C) (xs ys : List B) → map f (xs ++ ys) ≡ map f xs ++ map f ys
map-over f [] ys = refl
map-over f (x ∷ xs) ys = ap (λ l. f x ∷ l) (map-over f xs ys)

-- putting columns back doesn't look at them
reordered-map : {A B : Type 0} (f : A → B) (xs ys : List Table) (is : IsRearranged xs ys) (row : List A) → map f (reordered xs ys is row) ≡ reordered xs ys is (map f row)
reordered-map f [] ys is row = refl
reordered-map {A} {B} f (x ∷ xs) ys is row =
    let n = width_of is.0 in
    let rest : List A → List A = λ cells. reordered xs (is.0 ++ is.1) is.3 cells in
    let others : List B → List B = λ cells. reordered xs (is.0 ++ is.1) is.3 cells in
    let behind : map f (rest (drop x.width row)) ≡ others (drop x.width (map f row)) =
    reordered-map f xs (is.0 ++ is.1) is.3 (drop x.width row) ∙ ap others (sym (drop-map f x.width row)) in
    map-over f (take n (rest (drop x.width row))) (take x.width row ++ drop n (rest (drop x.width row)))
    ∙ ap₂ ◌++◌ (sym (take-map f n (rest (drop x.width row))) ∙ ap (take n) behind)
    (map-over f (take x.width row) (drop n (rest (drop x.width row)))
    ∙ ap₂ ◌++◌ (sym (take-map f x.width row)) (sym (drop-map f n (rest (drop x.width row))) ∙ ap (drop n) behind))

at_end : (front : Row) (v : Value) (row : Row) (at : ℕ) → length front ≡ at → value_at at (front ++ v ∷ row) ≡ v
at_end [] v row at e = ap (λ n. get_or (v ∷ row) n Null) (sym e)
at_end (w ∷ front) v row zero e = absurd (omega arith)
at_end (w ∷ front) v row (suc at) e = at_end front v row at (omega arith)

cells : (row : Row) (front : Row) (at : ℕ) → length front ≡ at → map (λ place. value_at place (front ++ row)) (range_with_len at (length row)) ≡ row
cells [] front at e = refl
cells (v ∷ row) front at e =
    let again : (front ++ v ∷ []) ++ row ≡ front ++ v ∷ row = append_assoc front (v ∷ []) row in
    let long = length-append front (v ∷ []) in
    ap₂ ◌∷◌ (at_end front v row at e)
    (ap (λ whole. map (λ place. value_at place whole) (range_with_len (at + 1) (length row))) (sym again) ∙ cells row (front ++ v ∷ []) (at + 1) (omega arith))

pub places-put-back : (xs ys : List Table) (is : IsRearranged xs ys) (row : Row) → length row ≡ width_of xs → map (λ place. value_at place row) (places_of xs ys is) ≡ reordered xs ys is row
places-put-back xs ys is row e =
    reordered-map (λ place. value_at place row) xs ys is (range_with_len 0 (width_of xs))
    ∙ ap (reordered xs ys is) (ap (λ n. map (λ place. value_at place row) (range_with_len 0 n)) (sym e) ∙ cells row [] 0 refl)
