-- What is ahead of a reader of rows.
use Rattle.std.proofs.Common.{◌≡◌, ℕ, ◌+◌, Option, Some, None, List, refl, ap}
use Rattle.std.specs.Prelude.{Result, option_map}
use Rattle.ooc_types.specs.declared.value.Value.{Value}
use Rattle.csv_records.specs.Files.{Records}
use Rattle.csv_records.specs.Ahead.{told_records}
use Rattle.csv_load.specs.declared.fault.Refusal.{Refusal}
use Rattle.csv_load.specs.declared.fault.RowFault.{RowFault}
use Rattle.csv_load.specs.declared.stage.Stage.TheVariants.{Header, Rows, End}
use Rattle.csv_load.specs.Ahead.{RowReader, GivesNext, GivesEnd, GivesRefusal, given_of, given_at, given_from, given_behind, told_rows, told_from, told_behind}

pub rows-behind : (s : RowReader) (left : Option (List ℕ)) → s.stage ≡ Header → told_rows s left ≡ told_behind s.reading s.position left
rows-behind s left h = by (told_records s.reading.delimiter s.position left)
  where
    by : (o : Option Records) → option_map (given_of s) o ≡ option_map (given_behind s.reading) o
    by None = refl
    by (Some all) = ap (λ stage. Some (given_at stage s.reading s.number all)) h

pub rows-from : (s : RowReader) (left : Option (List ℕ)) → s.stage ≡ Rows → told_rows s left ≡ told_from s.reading (s.number + 1) s.position left
rows-from s left h = by (told_records s.reading.delimiter s.position left)
  where
    by : (o : Option Records) → option_map (given_of s) o ≡ option_map (given_from s.reading (s.number + 1)) o
    by None = refl
    by (Some all) = ap (λ stage. Some (given_at stage s.reading s.number all)) h

pub next-behind : (s t : RowReader) (next : Result (List Value) Refusal) (left after : Option (List ℕ)) → s.stage ≡ Header → t.stage ≡ Rows
    → GivesNext (told_behind s.reading s.position left) next (told_from t.reading (t.number + 1) t.position after) → GivesNext (told_rows s left) next (told_rows t after)
next-behind s t next left after h k g = rw (rows-behind s left h, rows-from t after k) g

pub next-from : (s t : RowReader) (next : Result (List Value) Refusal) (left after : Option (List ℕ)) → s.stage ≡ Rows → t.stage ≡ Rows
    → GivesNext (told_from s.reading (s.number + 1) s.position left) next (told_from t.reading (t.number + 1) t.position after) → GivesNext (told_rows s left) next (told_rows t after)
next-from s t next left after h k g = rw (rows-from s left h, rows-from t after k) g

pub end-behind : (s : RowReader) (left : Option (List ℕ)) → s.stage ≡ Header → GivesEnd (told_behind s.reading s.position left) → GivesEnd (told_rows s left)
end-behind s left h g = rw (rows-behind s left h) g

pub end-from : (s : RowReader) (left : Option (List ℕ)) → s.stage ≡ Rows → GivesEnd (told_from s.reading (s.number + 1) s.position left) → GivesEnd (told_rows s left)
end-from s left h g = rw (rows-from s left h) g

-- behind the end nothing is given
pub end-told : (s : RowReader) (left : Option (List ℕ)) → s.stage ≡ End → GivesEnd (told_rows s left)
end-told s left h = by (told_records s.reading.delimiter s.position left)
  where
    by : (o : Option Records) → GivesEnd (option_map (given_of s) o)
    by None = tt
    by (Some all) = ap (λ stage. given_at stage s.reading s.number all) h

pub refused-behind : (s : RowReader) (left : Option (List ℕ)) (f : RowFault) → s.stage ≡ Header → GivesRefusal (told_behind s.reading s.position left) f → GivesRefusal (told_rows s left) f
refused-behind s left f h g = rw (rows-behind s left h) g

pub refused-from : (s : RowReader) (left : Option (List ℕ)) (f : RowFault) → s.stage ≡ Rows → GivesRefusal (told_from s.reading (s.number + 1) s.position left) f → GivesRefusal (told_rows s left) f
refused-from s left f h g = rw (rows-from s left h) g
