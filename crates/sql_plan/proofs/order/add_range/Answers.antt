use Rattle.std.proofs.Common.{◌+◌, ◌-◌, ◌++◌, ◌∷◌, [], ap, sym, ◌∙◌, append_assoc, arith}
use Rattle.std.specs.List.{range_with_len}
use Rattle.sql_plan.proofs.Lists.{range_more}
use Rattle.sql_plan.proofs.order.add_range.Goals as goal

pub loop-place-preserved : goal.loop-place-preserved
loop-place-preserved c =
    c.in_ok-push.ensures.ok
    ∙ ap (λ l. l ++ c.loop-place.place ∷ []) c.loop-place.invariant
    ∙ append_assoc c.args.places.now (range_with_len c.args.at (c.loop-place.place - c.args.at)) (c.loop-place.place ∷ [])
    ∙ ap (λ l. c.args.places.now ++ l) (sym (range_more c.args.at (c.loop-place.place - c.args.at) (c.loop-place.place + 1 - c.args.at) c.loop-place.place (omega arith) (omega arith)))
