-- Conjuncts that a plan puts where it likes.
use Rattle.std.specs.Prelude.{◌≡◌, ℕ, ◌+◌, Bool, true, ◌&&◌, List, [], ◌∷◌, take, drop, ⊤}
use Rattle.std.specs.List.{list_all}
use Rattle.sql_expr.specs.Plain.{IsFaultless}
use Rattle.sql_meaning.specs.Judged.{Condition, says}
use Rattle.sql_meaning.specs.Found.{Row}
use Rattle.sql_meaning.specs.Free.{Loop}
use Rattle.sql_meaning.specs.Stage.{is_true}

-- whether conjuncts are true
abbrev pub all_true : List Condition → Row → Bool
all_true conjuncts row = list_all (λ conjunct. is_true (says row conjunct)) conjuncts

-- none of the conditions faults over the row
abbrev pub AreFaultless : Row → List Condition → Type 0
AreFaultless row [] = ⊤
AreFaultless row (condition ∷ conditions) = IsFaultless (says row condition) × AreFaultless row conditions

-- The tests of each loop, at the columns that they see, say what these written conjuncts say of the row with its columns
-- put back. The first loop's columns begin at this place.
abbrev pub SayOf : (Row → Row) → Row → ℕ → List Loop → List (List Condition) → Type 0
SayOf back row at [] [] = ⊤
SayOf back row at [] (conjuncts ∷ more) = ⊥
SayOf back row at (loop ∷ loops) [] = ⊥
SayOf back row at (loop ∷ loops) (conjuncts ∷ more) =
    ((loop.test (take (at + loop.table.width) row) && loop.own (take loop.table.width (drop at row))) ≡ all_true conjuncts (back row))
    × SayOf back row (at + loop.table.width) loops more

-- a plain condition, which has a value over every row
pub record IsPlainCondition (condition : Condition) : Type 0 where
  pub sure : (row : Row) → IsFaultless (condition.says row)
  pub plain : condition.plain ≡ true
