-- The join stage of a plan: keys and a rest in place of ON.
use Rattle.std.specs.Prelude.{◌≡◌, ℕ, ◌+◌, length, Bool, true, false, ◌&&◌, if◌then◌else◌, List, [], ◌∷◌, ◌++◌, filter, Ok, Err, ⊤}
use Rattle.std.specs.List.{AllByRecursion, list_all}
use Rattle.ooc_types.specs.declared.truth.Truth.{Truth as Ternary}
use Rattle.ooc_types.specs.declared.truth.Truth.TheVariants.{Yes, No, Unknown}
use Rattle.sql_expr.specs.declared.tree.CompareSign.TheVariants.{Equal}
use Rattle.sql_expr.specs.Comparison.{compared}
use Rattle.sql_expr.specs.Logic.{truth_in}
use Rattle.sql_expr.specs.Arithmetic.{Meaning}
use Rattle.sql_meaning.specs.Found.{Found, Row, clean, collected, and_then}
use Rattle.sql_meaning.specs.Judged.{Verdict, judged, verdict_found, plain_first, Condition}
use Rattle.sql_meaning.specs.From.{Source, is_empty, nulls}
use Rattle.sql_meaning.specs.Ordered.{value_at}

abbrev pub is_yes : Ternary → Bool
is_yes Yes = true
is_yes No = false
is_yes Unknown = false

-- a column of the left side and one of the right
pub record KeyPair : Type 0 where
  pub left : ℕ
  pub right : ℕ

-- each pair of columns is equal, and none is NULL
abbrev pub keys_meet : List KeyPair → Row → Row → Bool
keys_meet keys l r = list_all (λ key. is_yes (truth_in (compared Equal (value_at key.left l) (value_at key.right r)))) keys

-- a right side, and how it judges a pair
pub record Side : Type 0 where
  pub rows : List Row
  pub width : ℕ
  pub pads : Bool
  pub verdict : Row → Row → Verdict

-- the left row with NULLs where no pair of it was kept and none faulted
abbrev pub side_padded : Side → Row → Found Row → Found Row
side_padded side left found =
    if side.pads && (is_empty found.rows && is_empty found.faults) then clean ((left ++ nulls side.width) ∷ []) else found

abbrev pub side_met : Side → Row → Found Row
side_met side left = side_padded side left (collected (λ right. verdict_found (left ++ right) (side.verdict left right)) side.rows)

abbrev pub side_joined : Side → List Row → Found Row
side_joined side = collected (side_met side)

-- ON as a verdict
abbrev pub on_verdict : List Condition → Row → Row → Verdict
on_verdict on l r = judged (plain_first on) (l ++ r)

-- keys first, and then the rest from left to right
abbrev pub stage_verdict : List KeyPair → List Condition → Row → Row → Verdict
stage_verdict keys rest l r = if keys_meet keys l r then judged rest (l ++ r) else Ok false

abbrev pub side_of : Source → Side
side_of source = record { rows = source.found.rows; width = source.width; pads = source.pads; verdict = on_verdict source.on }

-- whether a condition is true
abbrev pub is_true : Meaning → Bool
is_true (Err fault) = false
is_true (Ok value) = is_yes (truth_in value)

-- A join stage of a plan is that of a source, behind left rows of so many columns: `own` tests the source's rows before
-- the join, and the verdict of the stage is that of ON on the rows that are left. ON keeps no pair of the others.
pub record IsJoinOf (at : ℕ) (source : Source) (side : Side) : Type 0 where
  pub wide : AllByRecursion (λ row. length row ≡ source.width) source.found.rows
  pub own : Row → Bool
  pub rows : side.rows ≡ filter own source.found.rows
  pub width : side.width ≡ source.width
  pub pads : side.pads ≡ source.pads
  pub same : (l r : Row) → length l ≡ at → own r ≡ true → side.verdict l r ≡ on_verdict source.on l r
  pub out : (l r : Row) → length l ≡ at → own r ≡ false → on_verdict source.on l r ≡ Ok false

abbrev pub AreJoinsOf : ℕ → List Source → List Side → Type 0
AreJoinsOf at [] [] = ⊤
AreJoinsOf at [] (side ∷ sides) = ⊥
AreJoinsOf at (source ∷ sources) [] = ⊥
AreJoinsOf at (source ∷ sources) (side ∷ sides) = IsJoinOf at source side × AreJoinsOf (at + source.width) sources sides

-- the joins of a plan in written order
abbrev pub joined_behind : List Side → List Row → Found Row
joined_behind [] rows = clean rows
joined_behind (side ∷ sides) rows = and_then (side_joined side rows) (joined_behind sides)
