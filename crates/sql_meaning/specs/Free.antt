-- A FROM that is free: nested loops of tables with tests that can't fault, in any order.
use Rattle.std.specs.Prelude.{◌≡◌, ℕ, ◌+◌, Bool, true, false, ◌&&◌, List, [], ◌∷◌, ◌++◌, map, filter, flat_map, take, drop, length, Ok, Err, ⊤}
use Rattle.std.specs.List.{AllByRecursion, range_with_len}
use Rattle.sql_meaning.specs.Found.{Row}
use Rattle.sql_meaning.specs.Judged.{Verdict, judged, plain_first}
use Rattle.sql_meaning.specs.From.{Source, pairs}
use Rattle.sql_meaning.specs.Stage.{Side}
use Rattle.ooc_bags.specs.Rearranged.{IsRearranged}

pub record Table : Type 0 where
  pub rows : List Row
  pub width : ℕ

-- A loop over a table: `own` tests its rows, and `test` the rows so far with its columns behind.
pub record Loop : Type 0 where
  pub table : Table
  pub own : Row → Bool
  pub test : Row → Bool

abbrev pub looped : List Loop → List Row → List Row
looped [] rows = rows
looped (loop ∷ loops) rows = looped loops (filter loop.test (flat_map (λ left. pairs left (filter loop.own loop.table.rows)) rows))

-- each test over a whole row, at the columns that it sees; the first loop's begin at this place
abbrev pub all_pass : ℕ → List Loop → Row → Bool
all_pass at [] row = true
all_pass at (loop ∷ loops) row =
    loop.test (take (at + loop.table.width) row) && (loop.own (take loop.table.width (drop at row)) && all_pass (at + loop.table.width) loops row)

-- every row of the first table before every row of the second, and so on
abbrev pub product : List Table → List Row
product [] = [] ∷ []
product (table ∷ tables) = flat_map (λ row. pairs row (product tables)) table.rows

abbrev pub tables_of : List Loop → List Table
tables_of = map (λ loop. loop.table)

abbrev pub width_of : List Table → ℕ
width_of [] = 0
width_of (table ∷ tables) = table.width + width_of tables

abbrev pub IsWide : Table → Type 0
IsWide table = AllByRecursion (λ row. length row ≡ table.width) table.rows

-- A row of tables in one order, with its columns in another: those of the first table are put where that stands.
abbrev pub reordered : {A : Type 0} → (xs ys : List Table) → IsRearranged xs ys → List A → List A
reordered [] ys is row = row
reordered (x ∷ xs) ys is row =
    take (width_of is.0) (reordered xs (is.0 ++ is.1) is.3 (drop x.width row))
    ++ (take x.width row ++ drop (width_of is.0) (reordered xs (is.0 ++ is.1) is.3 (drop x.width row)))

-- no fault
abbrev pub IsSettled : Verdict → Type 0
IsSettled (Err fault) = ⊥
IsSettled (Ok keeps) = ⊤

abbrev pub is_kept : Verdict → Bool
is_kept (Err fault) = false
is_kept (Ok keeps) = keeps

-- an inner join whose ON can't fault
pub record IsFree (source : Source) : Type 0 where
  pub inner : source.pads ≡ false
  pub settled : (row : Row) → IsSettled (judged (plain_first source.on) row)

abbrev pub loop_of : Source → Loop
loop_of source = record {
  table = record { rows = source.found.rows; width = source.width };
  own = λ row. true;
  test = λ row. is_kept (judged (plain_first source.on) row);
}

-- the places of the written columns in a plan's row
abbrev pub places_of : (xs ys : List Table) → IsRearranged xs ys → List ℕ
places_of xs ys is = reordered xs ys is (range_with_len 0 (width_of xs))

-- An inner join stage whose verdict can't fault is a loop, behind left rows of so many columns.
pub record IsLoopOf (at : ℕ) (side : Side) (loop : Loop) : Type 0 where
  pub rows : side.rows ≡ filter loop.own loop.table.rows
  pub inner : side.pads ≡ false
  pub verdict : (l r : Row) → length l ≡ at → side.verdict l r ≡ Ok (loop.test (l ++ r))

abbrev pub AreLoopsOf : ℕ → List Side → List Loop → Type 0
AreLoopsOf at [] [] = ⊤
AreLoopsOf at [] (loop ∷ loops) = ⊥
AreLoopsOf at (side ∷ sides) [] = ⊥
AreLoopsOf at (side ∷ sides) (loop ∷ loops) = IsLoopOf at side loop × AreLoopsOf (at + loop.table.width) sides loops
