use Rattle.std.proofs.Common.{arith}
use Rattle.sql_plan.proofs.ChosenLemmas.{take-columns}
use Rattle.sql_plan.proofs.order.columns_before.Goals as goal

pub columns-requires : goal.columns-requires
columns-requires c = let e = take-columns c.args.place c.args.entries.now in omega (arith, c.requires.columns)
