use Rattle.std.proofs.Common.{◌≡◌, ℤ, pos, arith, SFits, sym, rules, true, false}
use Rattle.std.specs.Int.{w32}
use Rattle.std.proofs.lemmas.Int.{ints, to_z-of_z}
use Rattle.jiff_core.specs.Date.{epoch_day}
use Rattle.ooc_types.specs.Meets.{IsDay}
use Rattle.date_values.proofs.Counted.{date_is, number_is, has_date}
use Rattle.date_values.proofs.days.day_of_date.Goals as goal

pub returns-then-day-lt-FIRST_DAY-clause-none : goal.returns-then-day-lt-FIRST_DAY-clause-none
returns-then-day-lt-FIRST_DAY-clause-none c none n is e =
    let found = c.in-Ok.found in
    let value = c.in-Ok.ensures.value in
    let number : epoch_day found ≡ n = number_is found c.args.date n is (omega (arith, ints, value.0)) (omega (arith, ints, value.1)) (omega (arith, ints, value.2)) e in
    omega (arith, ints, c.to_unix_epoch_day-day.ensures.value, is.0)

pub returns-else-day-lt-FIRST_DAY-clause-some : goal.returns-else-day-lt-FIRST_DAY-clause-some
returns-else-day-lt-FIRST_DAY-clause-some c =
    let found = c.in-Ok.found in
    let value = c.in-Ok.ensures.value in
    let day = c.to_unix_epoch_day-day.result in
    let fits : SFits w32 day = search rules in
    let is : IsDay day = (omega (arith, ints), omega (arith, ints, c.to_unix_epoch_day-day.ensures.bound)) in
    simp (to_z-of_z w32 day fits) (is, date_is found c.args.date day is (sym c.to_unix_epoch_day-day.ensures.value) (omega (arith, ints, value.0)) (omega (arith, ints, value.1)) (omega (arith, ints, value.2)))

pub returns-in-Err-clause-none : goal.returns-in-Err-clause-none
returns-in-Err-clause-none c none n is e =
    apart (c.in-Err.ensures.succeeds.1 (has_date c.args.date n _ _ _ is e (omega (arith, ints)) (omega (arith, ints)) (omega (arith, ints))))
  where
    apart : false ≡ true → ⊥
    apart e = cc
