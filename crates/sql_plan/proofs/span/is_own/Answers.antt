use Rattle.sql_plan.proofs.SpanLemmas.{own_some, own_none}
use Rattle.sql_plan.proofs.span.is_own.Goals as goal

pub returns-in-Some : goal.returns-in-Some
returns-in-Some c = own_some c.args.at c.args.expr.now c.expr_span.result c.in-Some.span c.expr_span.ensures c.in-Some.is

pub returns-in-None : goal.returns-in-None
returns-in-None c = own_none c.args.at c.args.expr.now c.expr_span.result c.expr_span.ensures c.in-None.is
