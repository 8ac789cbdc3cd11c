use Rattle.std.proofs.Common.{refl, ap, ◌∙◌, map, false, Ok}
use Rattle.std.specs.Prelude.{◌||◌, is_some}
use Rattle.sql_grammar.specs.declared.tree.expr.Argument.TheOpen.{Argument-F, Expr-F}
use Rattle.sql_grammar.specs.declared.tree.expr.Argument.TheViews.{out-Argument, out-Expr, outs-Argument::Star, outs-Argument::Value, outs-Distinct, outs-Between, outs-Call, outs-Chain, outs-Column, outs-Compare, outs-Either, outs-Every, outs-IsNull, outs-Like, outs-Literal, outs-Member, outs-Minus, outs-Not, outs-OneOf}
use Rattle.sql_scope.specs.Calls.{function_of}
use Rattle.sql_scope.specs.Texts.{folded_at}
use Rattle.sql_clauses.proofs.MakesLaws.{same_made}
use Rattle.bind_rules.specs.Bound.{argument_binding, expr_binding, link_binding, operand_binding, link_aggregates, operand_aggregates}
use Rattle.bind_rules.specs.Expressions as expressions
use Rattle.bind_rules.specs.Expressions.{some_of}
use Rattle.bind_rules.proofs.AggregateArms.{argument_stands, expr_stands, stands_at, either_stands, link_stands, operand_stands}
use Rattle.bind_rules.proofs.Standing.{stands_further, stands_ended, some_of-map}
use Rattle.bind_rules.proofs.aggregates.+aggregates.Goals as goal

pub in_argument-returns-in-Star : goal.in_argument-returns-in-Star
in_argument-returns-in-Star t c =
    argument_stands c.args.scope.now.script c.args.argument.now Argument-F.Argument::Star (Ok false) (ap out-Argument c.in-Star.is ∙ outs-Argument::Star) refl

pub in_argument-returns-in-Value : goal.in_argument-returns-in-Value
in_argument-returns-in-Value t c =
    argument_stands c.args.scope.now.script c.args.argument.now (Argument-F.Argument::Value c.in-Value.value) c.in_expression.result (ap out-Argument c.in-Value.is ∙ outs-Argument::Value c.in-Value.value)
    (stands_at c.args.scope.now.script c.in-Value.value c.get.result.now c.in_expression.result c.get.ensures c.in_expression.ensures)

pub in_argument-returns-in-Distinct : goal.in_argument-returns-in-Distinct
in_argument-returns-in-Distinct t c =
    argument_stands c.args.scope.now.script c.args.argument.now (Argument-F.Distinct c.in-Distinct.value) c.in_expression-in-Distinct.result (ap out-Argument c.in-Distinct.is ∙ outs-Distinct c.in-Distinct.value)
    (stands_at c.args.scope.now.script c.in-Distinct.value c.get-in-Distinct.result.now c.in_expression-in-Distinct.result c.get-in-Distinct.ensures c.in_expression-in-Distinct.ensures)

pub in_expression-returns-in-Literal : goal.in_expression-returns-in-Literal
in_expression-returns-in-Literal t c =
    expr_stands c.args.scope.now.script c.args.expr.now (Expr-F.Literal c.in-Literal._literal) (Ok false) (ap out-Expr c.in-Literal.is ∙ outs-Literal c.in-Literal._literal)
    refl

pub in_expression-returns-in-Column : goal.in_expression-returns-in-Column
in_expression-returns-in-Column t c =
    expr_stands c.args.scope.now.script c.args.expr.now (Expr-F.Column c.in-Column._column) (Ok false) (ap out-Expr c.in-Column.is ∙ outs-Column c.in-Column._column)
    refl

pub in_expression-returns-in-Minus : goal.in_expression-returns-in-Minus
in_expression-returns-in-Minus t c =
    expr_stands c.args.scope.now.script c.args.expr.now (Expr-F.Minus c.in-Minus.place c.in-Minus.operand) c.in_expression.result (ap out-Expr c.in-Minus.is ∙ outs-Minus c.in-Minus.place c.in-Minus.operand)
    (stands_at c.args.scope.now.script c.in-Minus.operand c.get.result.now c.in_expression.result c.get.ensures c.in_expression.ensures)

pub in_expression-returns-in-Not : goal.in_expression-returns-in-Not
in_expression-returns-in-Not t c =
    expr_stands c.args.scope.now.script c.args.expr.now (Expr-F.Not c.in-Not.place c.in-Not.operand) c.in_expression-in-Not.result (ap out-Expr c.in-Not.is ∙ outs-Not c.in-Not.place c.in-Not.operand)
    (stands_at c.args.scope.now.script c.in-Not.operand c.get-in-Not.result.now c.in_expression-in-Not.result c.get-in-Not.ensures c.in_expression-in-Not.ensures)

pub in_expression-returns-in-IsNull : goal.in_expression-returns-in-IsNull
in_expression-returns-in-IsNull t c =
    expr_stands c.args.scope.now.script c.args.expr.now (Expr-F.IsNull c.in-IsNull.place c.in-IsNull.negated c.in-IsNull.operand) c.in_expression-in-IsNull.result (ap out-Expr c.in-IsNull.is ∙ outs-IsNull c.in-IsNull.place c.in-IsNull.negated c.in-IsNull.operand)
    (stands_at c.args.scope.now.script c.in-IsNull.operand c.get-in-IsNull.result.now c.in_expression-in-IsNull.result c.get-in-IsNull.ensures c.in_expression-in-IsNull.ensures)

pub in_expression-returns-in-Like : goal.in_expression-returns-in-Like
in_expression-returns-in-Like t c =
    expr_stands c.args.scope.now.script c.args.expr.now (Expr-F.Like c.in-Like.place c.in-Like.negated c.in-Like.operand c.in-Like.pattern) c.in_expression-in-Like.result (ap out-Expr c.in-Like.is ∙ outs-Like c.in-Like.place c.in-Like.negated c.in-Like.operand c.in-Like.pattern)
    (stands_at c.args.scope.now.script c.in-Like.operand c.get-in-Like.result.now c.in_expression-in-Like.result c.get-in-Like.ensures c.in_expression-in-Like.ensures)

pub in_expression-returns-in-OneOf : goal.in_expression-returns-in-OneOf
in_expression-returns-in-OneOf t c =
    expr_stands c.args.scope.now.script c.args.expr.now (Expr-F.OneOf c.in-OneOf.place c.in-OneOf.negated c.in-OneOf.operand c.in-OneOf.list) c.in_expression-in-OneOf.result (ap out-Expr c.in-OneOf.is ∙ outs-OneOf c.in-OneOf.place c.in-OneOf.negated c.in-OneOf.operand c.in-OneOf.list)
    (stands_at c.args.scope.now.script c.in-OneOf.operand c.get-in-OneOf.result.now c.in_expression-in-OneOf.result c.get-in-OneOf.ensures c.in_expression-in-OneOf.ensures)

pub in_expression-returns-in-Member : goal.in_expression-returns-in-Member
in_expression-returns-in-Member t c =
    expr_stands c.args.scope.now.script c.args.expr.now (Expr-F.Member c.in-Member.place c.in-Member.negated c.in-Member.operand c.in-Member.query) c.in_expression-in-Member.result (ap out-Expr c.in-Member.is ∙ outs-Member c.in-Member.place c.in-Member.negated c.in-Member.operand c.in-Member.query)
    (stands_at c.args.scope.now.script c.in-Member.operand c.get-in-Member.result.now c.in_expression-in-Member.result c.get-in-Member.ensures c.in_expression-in-Member.ensures)

pub in_expression-returns-in-Chain : goal.in_expression-returns-in-Chain
in_expression-returns-in-Chain t c =
    expr_stands c.args.scope.now.script c.args.expr.now (Expr-F.Chain c.in-Chain.first c.in-Chain.links) c.or-in-Chain.result (ap out-Expr c.in-Chain.is ∙ outs-Chain c.in-Chain.first c.in-Chain.links)
    (either_stands ((expr_binding c.in-Chain.first).aggregates c.args.scope.now.script) (some_of (expressions.link_aggregates c.args.scope.now.script) (map link_binding c.in-Chain.links)) c.in_expression-first.result c.in_links.result c.or-in-Chain.result
    (stands_at c.args.scope.now.script c.in-Chain.first c.get-in-Chain.result.now c.in_expression-first.result c.get-in-Chain.ensures c.in_expression-first.ensures)
    (same_made (some_of (link_aggregates c.args.scope.now.script) c.as_slice.result.now) (some_of (expressions.link_aggregates c.args.scope.now.script) (map link_binding c.in-Chain.links)) c.in_links.result
    (ap (some_of (link_aggregates c.args.scope.now.script)) c.as_slice.ensures ∙ some_of-map (expressions.link_aggregates c.args.scope.now.script) link_binding c.in-Chain.links) c.in_links.ensures) c.or-in-Chain.ensures)

pub in_expression-returns-in-Every : goal.in_expression-returns-in-Every
in_expression-returns-in-Every t c =
    expr_stands c.args.scope.now.script c.args.expr.now (Expr-F.Every c.in-Every.first c.in-Every.others) c.or-in-Every.result (ap out-Expr c.in-Every.is ∙ outs-Every c.in-Every.first c.in-Every.others)
    (either_stands ((expr_binding c.in-Every.first).aggregates c.args.scope.now.script) (some_of (expressions.operand_aggregates c.args.scope.now.script) (map operand_binding c.in-Every.others)) c.in_expression-first-in-Every.result c.in_operands.result c.or-in-Every.result
    (stands_at c.args.scope.now.script c.in-Every.first c.get-in-Every.result.now c.in_expression-first-in-Every.result c.get-in-Every.ensures c.in_expression-first-in-Every.ensures)
    (same_made (some_of (operand_aggregates c.args.scope.now.script) c.as_slice-in-Every.result.now) (some_of (expressions.operand_aggregates c.args.scope.now.script) (map operand_binding c.in-Every.others)) c.in_operands.result
    (ap (some_of (operand_aggregates c.args.scope.now.script)) c.as_slice-in-Every.ensures ∙ some_of-map (expressions.operand_aggregates c.args.scope.now.script) operand_binding c.in-Every.others) c.in_operands.ensures) c.or-in-Every.ensures)

pub in_expression-returns-in-Either : goal.in_expression-returns-in-Either
in_expression-returns-in-Either t c =
    expr_stands c.args.scope.now.script c.args.expr.now (Expr-F.Either c.in-Either.first c.in-Either.others) c.or-in-Either.result (ap out-Expr c.in-Either.is ∙ outs-Either c.in-Either.first c.in-Either.others)
    (either_stands ((expr_binding c.in-Either.first).aggregates c.args.scope.now.script) (some_of (expressions.operand_aggregates c.args.scope.now.script) (map operand_binding c.in-Either.others)) c.in_expression-first-in-Either.result c.in_operands-in-Either.result c.or-in-Either.result
    (stands_at c.args.scope.now.script c.in-Either.first c.get-in-Either.result.now c.in_expression-first-in-Either.result c.get-in-Either.ensures c.in_expression-first-in-Either.ensures)
    (same_made (some_of (operand_aggregates c.args.scope.now.script) c.as_slice-in-Either.result.now) (some_of (expressions.operand_aggregates c.args.scope.now.script) (map operand_binding c.in-Either.others)) c.in_operands-in-Either.result
    (ap (some_of (operand_aggregates c.args.scope.now.script)) c.as_slice-in-Either.ensures ∙ some_of-map (expressions.operand_aggregates c.args.scope.now.script) operand_binding c.in-Either.others) c.in_operands-in-Either.ensures) c.or-in-Either.ensures)

pub in_expression-returns-in-Compare : goal.in_expression-returns-in-Compare
in_expression-returns-in-Compare t c =
    expr_stands c.args.scope.now.script c.args.expr.now (Expr-F.Compare c.in-Compare.place c.in-Compare.sign c.in-Compare.left c.in-Compare.right) c.or-in-Compare.result (ap out-Expr c.in-Compare.is ∙ outs-Compare c.in-Compare.place c.in-Compare.sign c.in-Compare.left c.in-Compare.right)
    (either_stands ((expr_binding c.in-Compare.left).aggregates c.args.scope.now.script) ((expr_binding c.in-Compare.right).aggregates c.args.scope.now.script) c.in_expression-left.result c.in_expression-right.result c.or-in-Compare.result
    (stands_at c.args.scope.now.script c.in-Compare.left c.get-in-Compare.result.now c.in_expression-left.result c.get-in-Compare.ensures c.in_expression-left.ensures)
    (stands_at c.args.scope.now.script c.in-Compare.right c.get-in-Compare-2.result.now c.in_expression-right.result c.get-in-Compare-2.ensures c.in_expression-right.ensures) c.or-in-Compare.ensures)

pub in_expression-returns-in-Between : goal.in_expression-returns-in-Between
in_expression-returns-in-Between t c =
    expr_stands c.args.scope.now.script c.args.expr.now (Expr-F.Between c.in-Between.place c.in-Between.negated c.in-Between.operand c.in-Between.low c.in-Between.high) c.or-in-Between-2.result (ap out-Expr c.in-Between.is ∙ outs-Between c.in-Between.place c.in-Between.negated c.in-Between.operand c.in-Between.low c.in-Between.high)
    (either_stands ((expr_binding c.in-Between.operand).aggregates c.args.scope.now.script) (((expr_binding c.in-Between.low).aggregates c.args.scope.now.script) || ((expr_binding c.in-Between.high).aggregates c.args.scope.now.script)) c.in_expression-operand.result c.or-in-Between.result c.or-in-Between-2.result
    (stands_at c.args.scope.now.script c.in-Between.operand c.get-in-Between.result.now c.in_expression-operand.result c.get-in-Between.ensures c.in_expression-operand.ensures)
    (either_stands ((expr_binding c.in-Between.low).aggregates c.args.scope.now.script) ((expr_binding c.in-Between.high).aggregates c.args.scope.now.script) c.in_expression-low.result c.in_expression-high.result c.or-in-Between.result
    (stands_at c.args.scope.now.script c.in-Between.low c.get-in-Between-2.result.now c.in_expression-low.result c.get-in-Between-2.ensures c.in_expression-low.ensures)
    (stands_at c.args.scope.now.script c.in-Between.high c.get-in-Between-3.result.now c.in_expression-high.result c.get-in-Between-3.ensures c.in_expression-high.ensures) c.or-in-Between.ensures) c.or-in-Between-2.ensures)

pub in_expression-returns-in_ok-function-in-Call : goal.in_expression-returns-in_ok-function-in-Call
in_expression-returns-in_ok-function-in-Call t c =
    expr_stands c.args.scope.now.script c.args.expr.now (Expr-F.Call c.in-Call.name c.in-Call.argument) c.or.result (ap out-Expr c.in-Call.is ∙ outs-Call c.in-Call.name c.in-Call.argument)
    (either_stands (is_some (function_of (folded_at c.args.scope.now.script c.in-Call.name))) ((argument_binding c.in-Call.argument).aggregates c.args.scope.now.script) (Ok c.is_some.result) c.in_argument-inner.result c.or.result
    (c.is_some.ensures ∙ ap is_some c.in_ok-function-in-Call.ensures.function) c.in_argument-inner.ensures c.or.ensures)

pub in_links-loop-link-preserved : goal.in_links-loop-link-preserved
in_links-loop-link-preserved t c =
    stands_further (link_aggregates c.args.scope.now.script) (some_of (link_aggregates c.args.scope.now.script) c.args.links.now) c.args.links.now c.loop-link.link-index c.link-item.result c.loop-link.stands c.in_expression.result c.or-stands.result
    c.loop-link-test.true c.link-item.is c.loop-link.invariant (link_stands c.args.scope.now.script c.link-item.result c.get.result.now c.in_expression.result c.get.ensures c.in_expression.ensures) c.or-stands.ensures

pub in_links-returns : goal.in_links-returns
in_links-returns t c =
    stands_ended (link_aggregates c.args.scope.now.script) (some_of (link_aggregates c.args.scope.now.script) c.args.links.now) c.args.links.now c.loop-link.link-index c.loop-link.stands c.loop-link-test.false c.loop-link.invariant

pub in_operands-loop-operand-preserved : goal.in_operands-loop-operand-preserved
in_operands-loop-operand-preserved t c =
    stands_further (operand_aggregates c.args.scope.now.script) (some_of (operand_aggregates c.args.scope.now.script) c.args.others.now) c.args.others.now c.loop-operand.operand-index c.operand-item.result c.loop-operand.stands c.in_expression.result c.or-stands.result
    c.loop-operand-test.true c.operand-item.is c.loop-operand.invariant (operand_stands c.args.scope.now.script c.operand-item.result c.get.result.now c.in_expression.result c.get.ensures c.in_expression.ensures) c.or-stands.ensures

pub in_operands-returns : goal.in_operands-returns
in_operands-returns t c =
    stands_ended (operand_aggregates c.args.scope.now.script) (some_of (operand_aggregates c.args.scope.now.script) c.args.others.now) c.args.others.now c.loop-operand.operand-index c.loop-operand.stands c.loop-operand-test.false c.loop-operand.invariant
