use Rattle.std.proofs.Common.{◌+◌, ◌++◌, ◌∷◌, [], ap, sym, ◌∙◌, refl, append_assoc, arith}
use Rattle.std.specs.Prelude.{replicate}
use Rattle.std.specs.List.{range_with_len}
use Rattle.sql_plan.proofs.Lists.{range_more}
use Rattle.sql_plan.proofs.split.own_places.Goals as goal

pub loop-place-preserved : goal.loop-place-preserved
loop-place-preserved c =
    c.in_ok-push.ensures.ok
    ∙ ap (λ l. l ++ c.loop-place.place ∷ []) c.loop-place.invariant
    ∙ append_assoc (replicate c.args.at 0) (range_with_len 0 c.loop-place.place) (c.loop-place.place ∷ [])
    ∙ ap (λ l. replicate c.args.at 0 ++ l) (sym (range_more 0 c.loop-place.place (c.loop-place.place + 1) c.loop-place.place refl (omega arith)))
