-- The values of a row, one by one, and their long texts.
use Rattle.std.proofs.Common.{◌≡◌, ◌≢◌, ℕ, zero, suc, ◌+◌, ◌<◌, ◌≤◌, List, [], ◌∷◌, length, get_or, take, map, set, refl, sym, ap, subst, inl, inr, ◌∙◌, arith}
use Rattle.std.proofs.lemmas.Bool.{cases_lt}
use Rattle.std.proofs.lemmas.List.{get_or-set_same, get_or-set_other}
use Rattle.row_image.specs.Cells.{StoredCell}
use Rattle.row_image.specs.Texts.{CellValue, NullValue}
use Rattle.row_sets.specs.Cells.{long_of, long_in, cell_of, cells_of}

pub long_next : (vs : List CellValue) (k : ℕ) → k < length vs → long_in (take (k + 1) vs) ≡ long_in (take k vs) + long_of (get_or vs k NullValue)
long_next [] k below = absurd (omega (arith, below))
long_next (v ∷ vs) zero below = omega arith
long_next (v ∷ vs) (suc k) below = let r = long_next vs k (omega (arith, below)) in let e : suc k + 1 ≡ suc (k + 1) = omega arith in ap (λ n. long_in (take n (v ∷ vs))) e ∙ omega (arith, r)

pub long_part : (vs : List CellValue) (k : ℕ) → k < length vs → long_in (take k vs) + long_of (get_or vs k NullValue) ≤ long_in vs
long_part [] k below = absurd (omega (arith, below))
long_part (v ∷ vs) zero below = omega arith
long_part (v ∷ vs) (suc k) below = let r = long_part vs k (omega (arith, below)) in omega (arith, r)

pub cells_long : (vs : List CellValue) (at : ℕ) → length (cells_of vs at) ≡ length vs
cells_long [] at = refl
cells_long (v ∷ vs) at = let r = cells_long vs (at + long_of v) in omega (arith, r)

pub cells_at : (vs : List CellValue) (at k : ℕ) (d : StoredCell) → k < length vs → get_or (cells_of vs at) k d ≡ cell_of (get_or vs k NullValue) (at + long_in (take k vs))
cells_at [] at k d below = absurd (omega (arith, below))
cells_at (v ∷ vs) at zero d below = ap (cell_of v) (omega arith)
cells_at (v ∷ vs) at (suc k) d below = cells_at vs (at + long_of v) k d (omega (arith, below)) ∙ ap (cell_of (get_or vs k NullValue)) (omega arith)

-- a list whose elements are those of another, each changed
pub map_by : {X Y : Type 0} (f : X → Y) (xs : List X) (ys : List Y) (d : X) (e : Y) → length ys ≡ length xs → ((k : ℕ) → k < length xs → get_or ys k e ≡ f (get_or xs k d)) → ys ≡ map f xs
map_by f [] [] d e long each = refl
map_by f [] (y ∷ ys) d e long each = absurd (omega (arith, long))
map_by f (x ∷ xs) [] d e long each = absurd (omega (arith, long))
map_by f (x ∷ xs) (y ∷ ys) d e long each = let head = each 0 (omega arith) in let tail = map_by f xs ys d e (omega (arith, long)) (λ k less. each (suc k) (omega (arith, less))) in λ i. head i ∷ tail i

-- two lists that are read alike
pub read_alike : {X Z : Type 0} (f : X → Z) (xs : List X) (zs : List Z) (d : X) (e : Z) → length xs ≡ length zs → ((k : ℕ) → k < length xs → f (get_or xs k d) ≡ get_or zs k e) → map f xs ≡ zs
read_alike f [] [] d e long each = refl
read_alike f [] (z ∷ zs) d e long each = absurd (omega (arith, long))
read_alike f (x ∷ xs) [] d e long each = absurd (omega (arith, long))
read_alike f (x ∷ xs) (z ∷ zs) d e long each = let head = each 0 (omega arith) in let tail = read_alike f xs zs d e (omega (arith, long)) (λ k less. each (suc k) (omega (arith, less))) in λ i. head i ∷ tail i

-- one place more of a list that is filled
pub fill_next : {X : Type 0} (P : ℕ → X → Type 0) (xs : List X) (n : ℕ) (v d : X) → n < length xs → ((k : ℕ) → k < n → P k (get_or xs k d)) → P n v → (k : ℕ) → k < n + 1 → P k (get_or (set xs n v) k d)
fill_next P xs n v d within before here k less = elim (cases_lt k n) [
  | inl low ↦ subst (P k) (sym (get_or-set_other xs n k v d (let ne : k ≢ n = omega (arith, low) in ne))) (before k low)
  | inr high ↦
      let e : n ≡ k = omega (arith, high, less) in
      subst (λ j. P j (get_or (set xs n v) j d)) e (subst (P n) (sym (get_or-set_same xs n v d within)) here)
]
