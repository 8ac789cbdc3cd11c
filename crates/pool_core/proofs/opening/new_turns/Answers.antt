use Rattle.std.proofs.Common.{◌+◌, ap, ◌∙◌, length}
use Rattle.std.proofs.lemmas.List.{length_push}
use Rattle.pool_core.proofs.Runs.{turns_more}
use Rattle.pool_core.proofs.opening.new_turns.Goals as goal

pub loop-frame-preserved : goal.loop-frame-preserved
loop-frame-preserved c =
    let turns = c.loop-frame.turns.items in
    let t = c.in_ok-new_turn.field-0 in
    let pushed = c.in_ok-push.ensures.items in
    record {
      count = ap length pushed ∙ length_push turns t ∙ ap (λ n. n + 1) c.loop-frame.invariant.count;
      each = turns_more c.args.page turns _ c.loop-frame.frame t c.loop-frame.invariant.count pushed c.in_ok-new_turn.ensures c.loop-frame.invariant.each;
    }
