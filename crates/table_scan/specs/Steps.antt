-- One row of a set more.
use Rattle.std.specs.Prelude.{◌≡◌, List, [], ◌∷◌}
use Rattle.sql_meaning.specs.Found.{Row}
use Rattle.sql_meaning.specs.Judged.{kept}
use Rattle.table_scan.specs.declared.reading.Reading.{Reading}
use Rattle.table_scan.specs.Sink.{Sink, conditions_in, items_in, take_all, take_one}

-- the first of the rows that were ahead was taken, and the others are ahead
pub record IsStep (reading : Reading) (before after : List Row) (old new : Sink) : Type 0 where
  pub row : Row
  pub ahead : before ≡ row ∷ after
  pub taken : new ≡ take_one (conditions_in reading) (items_in reading) row old
  pub clean : (kept (conditions_in reading) (row ∷ [])).faults ≡ []

-- no row was ahead
pub record IsLast (before : List Row) (old new : Sink) : Type 0 where
  pub none : before ≡ []
  pub same : new ≡ old

-- some rows were taken, whichever they are, and no condition faults on one of them
pub record TakesSome (reading : Reading) (old new : Sink) : Type 0 where
  pub rows : List Row
  pub taken : new ≡ take_all (conditions_in reading) (items_in reading) rows old
  pub clean : (kept (conditions_in reading) rows).faults ≡ []
