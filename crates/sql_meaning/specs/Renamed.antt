-- Conditions and values over rows whose columns stand elsewhere.
use Rattle.std.specs.Prelude.{◌≡◌, List, [], ◌∷◌, Option, Some, None, ⊤}
use Rattle.sql_meaning.specs.Found.{Row}
use Rattle.sql_meaning.specs.Judged.{Condition, RowValue}
use Rattle.sql_meaning.specs.Groups.{Aggregation}

-- the second over a row says what the first says over the row with its columns put back
pub record IsRenamed (back : Row → Row) (written planned : Condition) : Type 0 where
  pub value : (row : Row) → planned.says row ≡ written.says (back row)
  pub plain : planned.plain ≡ written.plain

abbrev pub AreRenamed : (Row → Row) → List Condition → List Condition → Type 0
AreRenamed back [] [] = ⊤
AreRenamed back [] (e ∷ es) = ⊥
AreRenamed back (w ∷ ws) [] = ⊥
AreRenamed back (w ∷ ws) (e ∷ es) = IsRenamed back w e × AreRenamed back ws es

-- the second list's conditions, one by one, say what those of the first say over the row with its columns put back
abbrev pub AreSaid : (Row → Row) → List Condition → List Condition → Type 0
AreSaid back [] [] = ⊤
AreSaid back [] (e ∷ es) = ⊥
AreSaid back (w ∷ ws) [] = ⊥
AreSaid back (w ∷ ws) (e ∷ es) = ((row : Row) → e.says row ≡ w.says (back row)) × AreSaid back ws es

abbrev pub IsRenamedValue : (Row → Row) → RowValue → RowValue → Type 0
IsRenamedValue back written planned = (row : Row) → planned row ≡ written (back row)

abbrev pub AreRenamedValues : (Row → Row) → List RowValue → List RowValue → Type 0
AreRenamedValues back [] [] = ⊤
AreRenamedValues back [] (e ∷ es) = ⊥
AreRenamedValues back (w ∷ ws) [] = ⊥
AreRenamedValues back (w ∷ ws) (e ∷ es) = IsRenamedValue back w e × AreRenamedValues back ws es

abbrev pub IsRenamedArgument : (Row → Row) → Option RowValue → Option RowValue → Type 0
IsRenamedArgument back None None = ⊤
IsRenamedArgument back None (Some e) = ⊥
IsRenamedArgument back (Some w) None = ⊥
IsRenamedArgument back (Some w) (Some e) = IsRenamedValue back w e

pub record IsRenamedAggregate (back : Row → Row) (written planned : Aggregation) : Type 0 where
  pub kind : planned.kind ≡ written.kind
  pub scale : planned.scale ≡ written.scale
  pub distinct : planned.distinct ≡ written.distinct
  pub of : IsRenamedArgument back written.of planned.of

abbrev pub AreRenamedAggregates : (Row → Row) → List Aggregation → List Aggregation → Type 0
AreRenamedAggregates back [] [] = ⊤
AreRenamedAggregates back [] (e ∷ es) = ⊥
AreRenamedAggregates back (w ∷ ws) [] = ⊥
AreRenamedAggregates back (w ∷ ws) (e ∷ es) = IsRenamedAggregate back w e × AreRenamedAggregates back ws es
