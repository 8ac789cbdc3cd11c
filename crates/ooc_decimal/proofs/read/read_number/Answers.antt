use Rattle.ooc_decimal.proofs.Spelled.{answers_some, answers_none}
use Rattle.ooc_decimal.proofs.read.read_number.Goals as goal

pub returns-in-Some : goal.returns-in-Some
returns-in-Some c =
    let parts = c.split_at_point.result in
    let sign = c.split_sign-negative.result in
    answers_some c.args.kind c.args.text.now c.trim.result.now sign.1.now parts.0.now parts.1.now sign.0 c.scale.result c.in-Some.magnitude c.within.result
    c.trim.ensures c.split_sign-negative.ensures.minus c.split_sign-negative.ensures.rest c.split_at_point.ensures.whole c.split_at_point.ensures.part c.scale.ensures
    c.in-Some.ensures c.within.ensures

pub returns-in-None : goal.returns-in-None
returns-in-None c =
    let parts = c.split_at_point.result in
    let sign = c.split_sign-negative.result in
    answers_none c.args.kind c.args.text.now c.trim.result.now sign.1.now parts.0.now parts.1.now sign.0 c.scale.result c.requires
    c.trim.ensures c.split_sign-negative.ensures.minus c.split_sign-negative.ensures.rest c.split_at_point.ensures.whole c.split_at_point.ensures.part c.scale.ensures
    c.in-None.ensures
