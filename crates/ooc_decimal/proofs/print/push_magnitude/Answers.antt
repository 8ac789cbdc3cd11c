use Rattle.std.proofs.Common.{arith}
use Rattle.std.proofs.lemmas.Grind.{common_steps}
use Rattle.ooc_decimal.proofs.Point.{whole_text, pointed_text}
use Rattle.ooc_decimal.proofs.print.push_magnitude.Goals as goal

pub returns-then-scale-eq0-clause-ok : goal.returns-then-scale-eq0-clause-ok
returns-then-scale-eq0-clause-ok c =
    let e = whole_text c.args.n in
    grind (arith, common_steps, e, c.digit_count.ensures.digits)

pub returns-clause-ok : goal.returns-clause-ok
returns-clause-ok c =
    let e = pointed_text c.args.n c.args.scale c.if-scale-eq0.false in
    grind (arith, common_steps, e, c.digit_count-2.ensures.digits)
