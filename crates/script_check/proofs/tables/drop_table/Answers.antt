use Rattle.std.proofs.Common.{arith, add-one, sym, ap, ◌∙◌, ◌<◌, ◌≤◌, length}
use Rattle.script_check.specs.Tables.{catalog_in}
use Rattle.script_check.proofs.Dropping.{one_more, taken_out, none_out}
use Rattle.script_check.proofs.tables.drop_table.Goals as goal

pub returns-then-eq : goal.returns-then-eq
returns-then-eq c =
    let within : c.loop-at.at < length c.loop-at.tables.items = omega (arith, c.loop-at-test.true, c.len.ensures) in
    rw (sym c.loop-at.invariant.same) (ap catalog_in c.remove.ensures.items ∙ taken_out c.loop-at.at c.loop-at.tables.items c.args.name.now c.index.result.now within (sym c.index.ensures) (sym c.eq.ensures ∙ c.if-eq.true) c.loop-at.invariant.others)

pub loop-at-preserved : goal.loop-at-preserved
loop-at-preserved c =
    let within : c.loop-at.at < length c.loop-at.tables.items = omega (arith, c.loop-at-test.true, c.len.ensures) in
    record {
      same = c.loop-at.invariant.same;
      others = rw (add-one c.loop-at.at) (one_more c.loop-at.at c.loop-at.tables.items c.args.name.now c.index.result.now within (sym c.index.ensures) (sym c.eq.ensures ∙ c.if-eq.false) c.loop-at.invariant.others);
    }

pub returns : goal.returns
returns c =
    let long : length c.loop-at.tables.items ≤ c.loop-at.at = omega (arith, c.loop-at-test.false, c.len.ensures) in
    rw (sym c.loop-at.invariant.same) (none_out c.loop-at.at c.loop-at.tables.items c.args.name.now long c.loop-at.invariant.others)
