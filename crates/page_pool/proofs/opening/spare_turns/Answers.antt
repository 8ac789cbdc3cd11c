use Rattle.std.proofs.Common.{rules}
use Rattle.page_pool.proofs.Homes.{home_more}
use Rattle.page_pool.proofs.opening.spare_turns.Goals as goal

pub loop-number-preserved : goal.loop-number-preserved
loop-number-preserved g c =
    let i = c.loop-number.invariant in
    record {
      book = search rules;
      parts = search rules;
      amount = search rules;
      count = search rules;
      home = home_more _ c.loop-number.turns.items _ c.loop-number.number c.in_ok-turn.turn c.in_ok-push.ensures.items i.count c.in_ok-turn.ensures.0 c.in_ok-turn.ensures.1 i.home;
    }
