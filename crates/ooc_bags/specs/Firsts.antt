-- The items of a list, each once.
use Rattle.std.specs.Prelude.{Bool, not, List, [], ◌∷◌, filter}
use Rattle.ooc_types.specs.declared.value.Value.{Value}
use Rattle.ooc_bags.specs.Rows.{row_eq}

-- the first of equal items
abbrev pub firsts_by : {A : Type 0} → (A → A → Bool) → List A → List A
firsts_by eq [] = []
firsts_by eq (item ∷ items) = item ∷ filter (λ other. not (eq item other)) (firsts_by eq items)

-- the first of equal rows
abbrev pub firsts : List (List Value) → List (List Value)
firsts = firsts_by row_eq
