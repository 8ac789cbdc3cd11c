use Rattle.std.proofs.Common.{◌≡◌, drop, map}
use Rattle.plan_tree.specs.Columns.{columns_of, link_columns, together}
use Rattle.sql_plan.specs.Spans.{span_of, wider}
use Rattle.sql_plan.proofs.span.+span.Given as goal

abbrev pub invariant-list_span-loop-expr : goal.invariant-list_span-loop-expr
invariant-list_span-loop-expr l = wider l.span (span_of (together (map columns_of (drop l.expr-index l.list)))) ≡ span_of (together (map columns_of l.list))

abbrev pub invariant-links_span-loop-link : goal.invariant-links_span-loop-link
invariant-links_span-loop-link l = wider l.span (span_of (together (map link_columns (drop l.link-index l.links)))) ≡ span_of (together (map link_columns l.links))
