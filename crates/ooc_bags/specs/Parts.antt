-- Lists taken apart by a number of each item.
use Rattle.std.specs.Prelude.{◌≡◌, ℕ, ◌==◌, List, filter, count_by}

-- the items of part k
abbrev pub part : {A : Type 0} → (A → ℕ) → ℕ → List A → List A
part number k items = filter (λ item. number item == k) items

-- each item's part is among these, once
abbrev pub AreParts : {A : Type 0} → (A → ℕ) → List ℕ → Type 0
AreParts {A} number ks = (item : A) → count_by (λ k. number item == k) ks ≡ 1
