use Rattle.std.proofs.Common.{refl, arith}
use Rattle.date_values.specs.Calendar.{date_after, date_of}
use Rattle.date_values.proofs.Counted.{epoch_date, last_date}
use Rattle.date_values.proofs.laws.days_count_from_1970.Goals as goal

pub returns-clause-zero : goal.returns-clause-zero
returns-clause-zero c = epoch_date

pub returns-clause-first : goal.returns-clause-first
unfolding date_of date_after
returns-clause-first c = refl

pub returns-clause-last : goal.returns-clause-last
returns-clause-last c = last_date
