use Rattle.sql_meaning.specs.Statements.{times_of}
use Rattle.plain_rows.specs.Places.{as_often}
use Rattle.plain_rows.proofs.Collecting.{flat-next}
use Rattle.plain_rows.proofs.sets.combine_each.Goals as goal

pub loop-row-preserved : goal.loop-row-preserved
loop-row-preserved c =
    flat-next (as_often (times_of c.args.kind c.args.all) c.args.left.now c.args.right.now) c.args.distinct.now c.loop-row.row-index c.row-item.result
    c.loop-row.rows.items c.add_combined.new.into.items c.loop-row-test.true c.row-item.is c.loop-row.invariant c.in_ok-add_combined.ensures
