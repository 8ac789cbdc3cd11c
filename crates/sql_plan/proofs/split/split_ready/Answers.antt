use Rattle.std.proofs.Common.{◌≡◌, ◌+◌, [], ap, ◌∙◌, arith}
use Rattle.std.specs.Prelude.{filter}
use Rattle.plan_tree.specs.Split.{split}
use Rattle.sql_plan.specs.Conjuncts.{is_ready, parts_of}
use Rattle.sql_plan.proofs.SplitLemmas.{parts_done}
use Rattle.sql_plan.proofs.split.split_ready.Goals as goal

pub returns : goal.returns
returns c =
    let end : c.from.result + c.from-2.result ≡ c.args.at + c.args.width = omega (arith, c.from.ensures, c.from-2.ensures) in
    parts_done c.loop-expr.own-1 c.args.at c.args.width c.loop-expr.parts c.no_parts-parts.result (is_ready c.args.low (c.from.result + c.from-2.result)) c.args.conjuncts.now c.loop-expr.expr-index c.loop-expr-test.false
    c.loop-expr.invariant.own c.no_parts-parts.ensures c.loop-expr.invariant.so_far
    ∙ ap (λ n. parts_of (split c.args.at c.args.width (filter (is_ready c.args.low n) c.args.conjuncts.now) [])) end
