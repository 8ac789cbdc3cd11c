use Rattle.sql_meaning.proofs.Free.{loops-reordered}
use Rattle.sql_meaning.proofs.laws.loops_stand_in_any_order.Goals as goal

pub returns : goal.returns
returns c plan written order extra rest wide_plan wide_written same = loops-reordered plan written order extra rest wide_plan wide_written same
