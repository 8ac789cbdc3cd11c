use Rattle.worker_stage.proofs.Ready.{ran_all, moved}
use Rattle.worker_stage.proofs.stage.work_all.Goals as goal

pub returns : goal.returns
returns g c =
    ran_all _ _ _ _ _ _ _ c.for_each_mut.auto.s (λ i d lt. let h = (c.for_each_mut.ensures i d lt).1 in moved _ _ _ _ _ _ _ _ _ h.argument_is h.left h.call)
