use Rattle.plan_tree.specs.Columns.{columns_of, link_columns, together}
use Rattle.sql_plan.proofs.SpanLemmas.{chain_span, compare_span, one_of_span, between_span, list_next, link_span}
use Rattle.sql_plan.specs.Spans.{span_of}
use Rattle.std.proofs.Common.{map, refl}
use Rattle.sql_plan.proofs.span.+span.Goals as goal

pub expr_span-returns-in-Chain : goal.expr_span-returns-in-Chain
expr_span-returns-in-Chain t c =
    chain_span c.args.expr.now c.in-Chain.first c.get.result.now c.in-Chain.links c.as_slice.result.now c.expr_span.result c.links_span.result c.wider.result
    c.in-Chain.is c.get.ensures c.as_slice.ensures c.expr_span.ensures c.links_span.ensures c.wider.ensures

pub expr_span-returns-in-Compare : goal.expr_span-returns-in-Compare
expr_span-returns-in-Compare t c =
    compare_span c.args.expr.now c.in-Compare.left c.get-in-Compare.result.now c.in-Compare.right c.get-in-Compare-2.result.now c.in-Compare.sign c.expr_span-in-Compare.result c.expr_span-in-Compare-2.result c.wider-in-Compare.result
    c.in-Compare.is c.get-in-Compare.ensures c.get-in-Compare-2.ensures c.expr_span-in-Compare.ensures c.expr_span-in-Compare-2.ensures c.wider-in-Compare.ensures

pub expr_span-returns-in-OneOf : goal.expr_span-returns-in-OneOf
expr_span-returns-in-OneOf t c =
    one_of_span c.args.expr.now c.in-OneOf.of c.get-in-OneOf.result.now c.in-OneOf.list c.as_slice-in-OneOf.result.now c.in-OneOf.negated c.expr_span-in-OneOf.result c.list_span.result c.wider-in-OneOf.result
    c.in-OneOf.is c.get-in-OneOf.ensures c.as_slice-in-OneOf.ensures c.expr_span-in-OneOf.ensures c.list_span.ensures c.wider-in-OneOf.ensures

-- the bounds come first
pub expr_span-returns-in-Between : goal.expr_span-returns-in-Between
expr_span-returns-in-Between t c =
    between_span c.args.expr.now c.in-Between.of c.get-in-Between-3.result.now c.in-Between.low c.get-in-Between.result.now c.in-Between.high c.get-in-Between-2.result.now c.in-Between.negated
    c.expr_span-in-Between-3.result c.expr_span-in-Between.result c.expr_span-in-Between-2.result c.wider-bounds.result c.wider-in-Between.result
    c.in-Between.is c.get-in-Between-3.ensures c.get-in-Between.ensures c.get-in-Between-2.ensures c.expr_span-in-Between-3.ensures c.expr_span-in-Between.ensures c.expr_span-in-Between-2.ensures c.wider-bounds.ensures c.wider-in-Between.ensures

pub links_span-loop-link-preserved : goal.links_span-loop-link-preserved
links_span-loop-link-preserved t c =
    list_next link_columns c.args.links.now c.loop-link.link-index c.link-item.result (span_of (together (map link_columns c.args.links.now))) c.loop-link.span c.expr_span.result c.wider-span.result
    c.loop-link-test.true c.link-item.is c.loop-link.invariant (link_span c.link-item.result c.link-item.result.right c.expr_span.result refl c.expr_span.ensures) c.wider-span.ensures

pub list_span-loop-expr-preserved : goal.list_span-loop-expr-preserved
list_span-loop-expr-preserved t c =
    list_next columns_of c.args.list.now c.loop-expr.expr-index c.expr-item.result (span_of (together (map columns_of c.args.list.now))) c.loop-expr.span c.expr_span.result c.wider-span.result
    c.loop-expr-test.true c.expr-item.is c.loop-expr.invariant c.expr_span.ensures c.wider-span.ensures
