use Rattle.std.proofs.Common.{rules, ◌∙◌, arith}
use Rattle.page_pool.proofs.pool.Pool.scan.Goals as goal

pub loop-i-preserved : goal.loop-i-preserved
loop-i-preserved g c =
    let i = c.loop-i.invariant in let e = c.look.ensures in
    record {
      same = record { table = e.same.table ∙ i.same.table; about = e.same.about ∙ i.same.about; noted = λ x. let a = i.same.noted x in let b = e.same.noted x in omega (arith, a, b) };
      held = search rules;
      seen = search rules;
      room = e.room ∙ i.room;
      others = search rules;
      writes = search rules;
      faults = search rules;
      start = search rules;
    }
