-- The rows that were taken so far, and those that are ahead.
use Rattle.std.proofs.Common.{◌≡◌, ℕ, zero, suc, ◌+◌, ◌<◌, ◌≤◌, List, [], ◌∷◌, ◌++◌, drop, get_or, length, refl, sym, ap, ap₂, subst, ◌∙◌, append-nil, append_assoc, arith}
use Rattle.std.specs.Prelude.{slice_index_or, Contains}
use Rattle.std.proofs.lemmas.Grind.{flat_map-append}
use Rattle.sql_expr.specs.declared.fault.ValueFault.{ValueFault}
use Rattle.sql_meaning.specs.Found.{Row}
use Rattle.sql_meaning.specs.Judged.{Condition, RowValue, judged, kept, plain_first, verdict_found}
use Rattle.plain_rows.proofs.Collecting.{drop-next, drop-whole}
use Rattle.page_body.specs.View.{PoolTerms}
use Rattle.row_sets.specs.declared.row_set.RowSet.{RowSet}
use Rattle.table_scan.specs.declared.fault.SelectFault.{SelectFault}
use Rattle.table_scan.specs.declared.fault.SelectFault.TheVariants as fault
use Rattle.table_scan.specs.declared.reading.Reading.{Reading}
use Rattle.table_scan.specs.Outcomes.{IsNoted}
use Rattle.table_scan.specs.Sink.{Sink, conditions_in, items_in, take_all, take_one}
use Rattle.table_scan.specs.Steps.{IsStep, TakesSome}
use Rattle.table_scan.specs.TableRows.{rows_of_set, rows_of_sets}

-- ---- lists of faults

pub contains-here : (xs : List ValueFault) (x : ValueFault) → Contains (x ∷ xs) x
contains-here xs x = (zero, omega arith, refl)

pub contains-more : (y : ValueFault) (xs : List ValueFault) (x : ValueFault) → Contains xs x → Contains (y ∷ xs) x
contains-more y xs x there = let within = there.1 in (suc there.0, omega (arith, within), there.2)

pub contains-behind : (xs ys : List ValueFault) (x : ValueFault) → Contains ys x → Contains (xs ++ ys) x
contains-behind [] ys x there = there
contains-behind (y ∷ xs) ys x there = contains-more y (xs ++ ys) x (contains-behind xs ys x there)

before-at : (xs ys : List ValueFault) (x : ValueFault) (k : ℕ) → k < length xs → slice_index_or xs k x ≡ x → Contains (xs ++ ys) x
before-at [] ys x k within is = absurd (omega (arith, within))
before-at (y ∷ xs) ys x zero within is = (zero, omega arith, is)
before-at (y ∷ xs) ys x (suc k) within is = contains-more y (xs ++ ys) x (before-at xs ys x k (omega (arith, within)) is)

pub contains-before : (xs ys : List ValueFault) (x : ValueFault) → Contains xs x → Contains (xs ++ ys) x
contains-before xs ys x there = before-at xs ys x there.0 there.1 there.2

-- ---- the faults of conditions over more rows

pub faults-append : (conditions : List Condition) (xs ys : List Row) → (kept conditions (xs ++ ys)).faults ≡ (kept conditions xs).faults ++ (kept conditions ys).faults
faults-append conditions xs ys = flat_map-append (λ row. (verdict_found row (judged (plain_first conditions) row)).faults) xs ys

none-both : (conditions : List Condition) (xs ys : List Row) → (kept conditions xs).faults ≡ [] → (kept conditions ys).faults ≡ [] → (kept conditions (xs ++ ys)).faults ≡ []
none-both conditions xs ys first second = faults-append conditions xs ys ∙ ap₂ (λ (fs gs : List ValueFault). fs ++ gs) first second

noted-behind : (conditions : List Condition) (xs ys : List Row) (why : SelectFault) → IsNoted conditions ys why → IsNoted conditions (xs ++ ys) why
noted-behind conditions xs ys (fault.Value value) noted =
    subst (λ (fs : List ValueFault). Contains fs value) (sym (faults-append conditions xs ys)) (contains-behind (kept conditions xs).faults (kept conditions ys).faults value noted)
noted-behind conditions xs ys fault.TooLarge noted = noted
noted-behind conditions xs ys (fault.Pool why) noted = tt
noted-behind conditions xs ys fault.OutOfMemory noted = tt

pub noted-before : (conditions : List Condition) (xs ys : List Row) (why : SelectFault) → IsNoted conditions xs why → IsNoted conditions (xs ++ ys) why
noted-before conditions xs ys (fault.Value value) noted =
    subst (λ (fs : List ValueFault). Contains fs value) (sym (faults-append conditions xs ys)) (contains-before (kept conditions xs).faults (kept conditions ys).faults value noted)
noted-before conditions xs ys fault.TooLarge noted = noted
noted-before conditions xs ys (fault.Pool why) noted = tt
noted-before conditions xs ys fault.OutOfMemory noted = tt

-- ---- rows that were taken

take-append : (conditions : List Condition) (items : List RowValue) (xs ys : List Row) (sink : Sink) → take_all conditions items (xs ++ ys) sink ≡ take_all conditions items ys (take_all conditions items xs sink)
take-append conditions items [] ys sink = refl
take-append conditions items (x ∷ xs) ys sink = take-append conditions items xs ys (take_one conditions items x sink)

-- some rows were taken, none of which a condition faults on, and the others are ahead
pub record HasGone (reading : Reading) (all ahead : List Row) (start now : Sink) : Type 0 where
  pub done : List Row
  pub split : all ≡ done ++ ahead
  pub taken : now ≡ take_all (conditions_in reading) (items_in reading) done start
  pub clean : (kept (conditions_in reading) done).faults ≡ []

pub gone-none : (reading : Reading) (all ahead : List Row) (start now : Sink) → ahead ≡ all → now ≡ start → HasGone reading all ahead start now
gone-none reading all ahead start now same is = record { done = []; split = sym same; taken = is; clean = refl }

-- rows more
pub gone-more : (reading : Reading) (all before after more : List Row) (start old new : Sink) → HasGone reading all before start old → before ≡ more ++ after
    → new ≡ take_all (conditions_in reading) (items_in reading) more old → (kept (conditions_in reading) more).faults ≡ [] → HasGone reading all after start new
gone-more reading all before after more start old new gone ahead taken clean = record {
  done = gone.done ++ more;
  split = gone.split ∙ ap (λ (l : List Row). gone.done ++ l) ahead ∙ sym (append_assoc gone.done more after);
  taken = taken ∙ ap (take_all (conditions_in reading) (items_in reading) more) gone.taken ∙ sym (take-append (conditions_in reading) (items_in reading) gone.done more start);
  clean = none-both (conditions_in reading) gone.done more gone.clean clean;
}

pub gone-step : (reading : Reading) (all before after : List Row) (start old new : Sink) → HasGone reading all before start old → IsStep reading before after old new → HasGone reading all after start new
gone-step reading all before after start old new gone step = gone-more reading all before after (step.row ∷ []) start old new gone step.ahead step.taken step.clean

whole : (reading : Reading) (all ahead : List Row) (start now : Sink) → (gone : HasGone reading all ahead start now) → ahead ≡ [] → all ≡ gone.done
whole reading all ahead start now gone none = gone.split ∙ ap (λ (l : List Row). gone.done ++ l) none ∙ append-nil gone.done

-- all rows
pub gone-taken : (reading : Reading) (all ahead : List Row) (start now new : Sink) → HasGone reading all ahead start now → ahead ≡ [] → new ≡ now
    → new ≡ take_all (conditions_in reading) (items_in reading) all start
gone-taken reading all ahead start now new gone none same =
    same ∙ gone.taken ∙ ap (λ (l : List Row). take_all (conditions_in reading) (items_in reading) l start) (sym (whole reading all ahead start now gone none))

pub gone-clean : (reading : Reading) (all ahead : List Row) (start now : Sink) → HasGone reading all ahead start now → ahead ≡ [] → (kept (conditions_in reading) all).faults ≡ []
gone-clean reading all ahead start now gone none = ap (λ (l : List Row). (kept (conditions_in reading) l).faults) (whole reading all ahead start now gone none) ∙ gone.clean

-- a fault behind them
pub gone-noted : (reading : Reading) (all ahead : List Row) (start now : Sink) (why : SelectFault) → HasGone reading all ahead start now → IsNoted (conditions_in reading) ahead why → IsNoted (conditions_in reading) all why
gone-noted reading all ahead start now why gone noted =
    subst (λ (l : List Row). IsNoted (conditions_in reading) l why) (sym gone.split) (noted-behind (conditions_in reading) gone.done ahead why noted)

-- ---- some rows, whichever they are

pub takes-none : (reading : Reading) (old new : Sink) → new ≡ old → TakesSome reading old new
takes-none reading old new same = record { rows = []; taken = same; clean = refl }

pub takes-one : (reading : Reading) (row : Row) (old new : Sink) → new ≡ take_one (conditions_in reading) (items_in reading) row old → (kept (conditions_in reading) (row ∷ [])).faults ≡ [] → TakesSome reading old new
takes-one reading row old new taken clean = record { rows = row ∷ []; taken = taken; clean = clean }

pub takes-then : (reading : Reading) (old mid new : Sink) → TakesSome reading old mid → TakesSome reading mid new → TakesSome reading old new
takes-then reading old mid new first second = record {
  rows = first.rows ++ second.rows;
  taken = second.taken ∙ ap (take_all (conditions_in reading) (items_in reading) second.rows) first.taken ∙ sym (take-append (conditions_in reading) (items_in reading) first.rows second.rows old);
  clean = none-both (conditions_in reading) first.rows second.rows first.clean second.clean;
}

-- ---- the rows of the sets from one on

module _ {Page Pin : Type 0} (t : PoolTerms Page Pin) where
  pub sets-next : (sets : List (RowSet Page)) (i : ℕ) (set : RowSet Page) → i < length sets → set ≡ get_or sets i set
      → rows_of_sets t (drop i sets) ≡ rows_of_set t set ++ rows_of_sets t (drop (i + 1) sets)
  sets-next sets i set within is = ap (rows_of_sets t) (drop-next sets i set within is)

  pub sets-end : (sets : List (RowSet Page)) (i : ℕ) → length sets ≤ i → rows_of_sets t (drop i sets) ≡ []
  sets-end sets i past = ap (rows_of_sets t) (drop-whole sets i past)
