use Rattle.std.proofs.Common.{ap, ◌∙◌, ◌+◌}
use Rattle.sql_plan.proofs.SpanLemmas.{top_some, top_none}
use Rattle.sql_plan.proofs.span.top.Goals as goal

pub returns-in-Some : goal.returns-in-Some
returns-in-Some c = ap (λ n. n + 1) c.from.ensures ∙ top_some c.args.expr.now c.expr_span.result c.in-Some.span c.expr_span.ensures c.in-Some.is

pub returns-in-None : goal.returns-in-None
returns-in-None c = top_none c.args.expr.now c.expr_span.result c.expr_span.ensures c.in-None.is
