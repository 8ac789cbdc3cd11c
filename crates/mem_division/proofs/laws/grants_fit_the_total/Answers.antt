use Rattle.mem_division.proofs.Fitting.{division_within, division_fits}
use Rattle.mem_division.proofs.laws.grants_fit_the_total.Goals as goal

pub returns : goal.returns
returns c = record { within = division_within; total = division_fits }
