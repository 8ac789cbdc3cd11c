use Rattle.sql_plan.proofs.MoveLemmas.{every_made, either_made, chain_made, one_of_made}
use Rattle.sql_plan.proofs.moves.+moves.Goals as goal

pub move_expr-returns-in-Every : goal.move_expr-returns-in-Every
move_expr-returns-in-Every t c =
    every_made c.args.places.now c.args.expr.now c.in-Every.list c.as_slice.result.now c.move_list.result c.every.result c.in-Every.is c.as_slice.ensures c.move_list.ensures c.every.ensures

pub move_expr-returns-in-Either : goal.move_expr-returns-in-Either
move_expr-returns-in-Either t c =
    either_made c.args.places.now c.args.expr.now c.in-Either.list c.as_slice-in-Either.result.now c.move_list-in-Either.result c.either.result c.in-Either.is c.as_slice-in-Either.ensures c.move_list-in-Either.ensures c.either.ensures

pub move_expr-returns-in-Chain : goal.move_expr-returns-in-Chain
move_expr-returns-in-Chain t c =
    chain_made c.args.places.now c.args.expr.now c.in-Chain.first c.get-in-Chain.result.now c.in-Chain.links c.as_slice-in-Chain.result.now c.move_expr-in-Chain.result c.move_links.result c.chain.result
    c.in-Chain.is c.get-in-Chain.ensures c.as_slice-in-Chain.ensures c.move_expr-in-Chain.ensures c.move_links.ensures c.chain.ensures

pub move_expr-returns-in-OneOf : goal.move_expr-returns-in-OneOf
move_expr-returns-in-OneOf t c =
    one_of_made c.args.places.now c.args.expr.now c.in-OneOf.of c.get-in-OneOf.result.now c.in-OneOf.list c.as_slice-in-OneOf.result.now c.in-OneOf.negated c.move_expr-in-OneOf.result c.move_list-in-OneOf.result c.one_of.result
    c.in-OneOf.is c.get-in-OneOf.ensures c.as_slice-in-OneOf.ensures c.move_expr-in-OneOf.ensures c.move_list-in-OneOf.ensures c.one_of.ensures
