use Rattle.std.proofs.Common.{arith}
use Rattle.ooc_decimal.proofs.OutOfRange.{outside}
use Rattle.ooc_decimal.proofs.range.within.Goals.{else-negative-2-via-then-negative-2+else-magnitude-unsigned_abs, else-negative-2-via-else-negative-2}
use Rattle.ooc_decimal.proofs.range.within.Goals as goal

pub returns : goal.returns
returns c =
    outside c.args.kind c.requires c.args.negative c.args.magnitude (omega arith) (elim c.else-negative-2.branch [
      | else-negative-2-via-then-negative-2+else-magnitude-unsigned_abs w ↦ λ minus. omega (arith, w.unsigned_abs.ensures, w.if-magnitude-unsigned_abs.false)
      | else-negative-2-via-else-negative-2 w ↦ λ minus. absurd (grind (arith, minus, w.if-negative-2.false))
    ])
