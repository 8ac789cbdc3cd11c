use Rattle.std.proofs.Common.{◌<◌, [], ap, sym, length, arith}
use Rattle.std.specs.Prelude.{Ok}
use Rattle.sql_scope.proofs.Each.{begins}
use Rattle.sql_clauses.specs.Sets.{pair_behind}
use Rattle.sql_clauses.proofs.Lists.{one_step, all_done, next_pair, no_pair}
use Rattle.sql_clauses.proofs.sets.all_pairs.Goals as goal

pub loop-at-init : goal.loop-at-init
loop-at-init c = begins _ (Ok []) _ _ (ap Ok (sym c.new_schema.ensures))

pub loop-at-preserved : goal.loop-at-preserved
loop-at-preserved c =
    let other : c.loop-at.at < length c.args.right.now = omega arith in
    one_step (pair_behind c.args.place) _ c.loop-at.columns c.pair_behind-columns.result _ (c.index-left-at.result, c.index-right-at.result) _
    (next_pair c.args.left.now c.args.right.now c.loop-at.at c.index-left-at.result c.index-right-at.result c.loop-at-test.true other c.index-left-at.is c.index-right-at.is)
    c.loop-at.invariant c.pair_behind-columns.ensures

pub returns : goal.returns
returns c =
    all_done (pair_behind c.args.place) _ c.loop-at.columns _ (no_pair c.args.left.now c.args.right.now c.loop-at.at c.loop-at-test.false) c.loop-at.invariant
