use Rattle.std.proofs.Common.{arith}
use Rattle.ooc_decimal.proofs.Point.{no_whole, all_part}
use Rattle.ooc_decimal.proofs.print.split_narrow.Goals as goal

pub returns-then-scale-gt19-clause-whole : goal.returns-then-scale-gt19-clause-whole
returns-then-scale-gt19-clause-whole c = no_whole c.args.n 20 c.args.scale (omega arith) (omega arith)

pub returns-then-scale-gt19-clause-part : goal.returns-then-scale-gt19-clause-part
returns-then-scale-gt19-clause-part c = cc (c.from.ensures, all_part c.args.n 20 c.args.scale (omega arith) (omega arith))
