use Rattle.std.proofs.Common.{◌≡◌, ℤ, SFits, rules, arith}
use Rattle.std.specs.Int.{w16}
use Rattle.std.proofs.lemmas.Int.{ints, to_z-of_z}
use Rattle.jiff_core.specs.Date.{epoch_day}
use Rattle.date_values.proofs.Counted.{parts_of}
use Rattle.date_values.proofs.days.date_of_day.Goals as goal

pub returns-clause-date : goal.returns-clause-date
returns-clause-date c =
    let found = c.from_days_since_min-date.result in
    let e : epoch_day found ≡ c.args.day = omega (arith, ints) in
    let fits : SFits w16 found.year = search rules in
    parts_of found c.args.day c.unsigned_abs.result c.requires e (simp (to_z-of_z w16 found.year fits) at c.unsigned_abs.ensures.value)
