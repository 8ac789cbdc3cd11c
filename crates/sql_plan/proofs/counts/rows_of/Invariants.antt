use Rattle.std.proofs.Common.{◌≡◌, drop}
use Rattle.sql_plan.specs.Counted.{counts_in}
use Rattle.sql_plan.proofs.counts.rows_of.Given as goal

abbrev pub invariant-loop-count : goal.invariant-loop-count
invariant-loop-count l = counts_in (drop l.count-index l.counts) l.name ≡ counts_in l.counts l.name
