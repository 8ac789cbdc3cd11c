use Rattle.std.proofs.Common.{arith}
use Rattle.ooc_decimal.proofs.Point.{no_whole, all_part}
use Rattle.ooc_decimal.proofs.print.split_at_point.Goals as goal

pub returns-then-scale-gt38-clause-whole : goal.returns-then-scale-gt38-clause-whole
returns-then-scale-gt38-clause-whole c = no_whole c.args.n 39 c.args.scale (omega arith) (omega arith)

pub returns-then-scale-gt38-clause-part : goal.returns-then-scale-gt38-clause-part
returns-then-scale-gt38-clause-part c = all_part c.args.n 39 c.args.scale (omega arith) (omega arith)
