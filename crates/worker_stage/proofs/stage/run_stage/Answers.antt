use Rattle.std.proofs.Common.{ℕ, ap, subst}
use Rattle.worker_stage.specs.Source.{below}
use Rattle.worker_stage.specs.Desks.{workers}
use Rattle.worker_stage.specs.Stage.{IsDone, IsBroken}
use Rattle.worker_stage.proofs.Whole.{joined_done, joined_broken, some_workers}
use Rattle.worker_stage.proofs.stage.run_stage.Goals as goal

pub returns-in-Some-clause-refused : goal.returns-in-Some-clause-refused
returns-in-Some-clause-refused g c = (
  c.close.result,
  subst (λ (n : ℕ). IsBroken g.W.StageWorker.made g.W.StageWorker.failed (below n) (workers c.args.desks.now) c.in-Some.number c.in-Some.fault c.close.result (workers c.run_desks-first.new.desks)) c.in-Ok.ensures.counter.0
      (joined_broken g.W.StageWorker.made g.W.StageWorker.failed _ _ _ _ _ _ _ _ _ _ _ c.run_desks-first.ensures.joined c.in-Some.is (ap (λ s. s.draws) c.in-Ok.ensures.seat) c.close.ensures.once),
)

pub returns-in-None-clause-done : goal.returns-in-None-clause-done
returns-in-None-clause-done g c =
    subst (λ (n : ℕ). IsDone g.W.StageWorker.made (below n) (workers c.args.desks.now) (workers c.run_desks-first.new.desks)) c.in-Ok.ensures.counter.0
    (joined_done g.W.StageWorker.made g.W.StageWorker.failed _ _ _ _ _ _ _ _ _ c.run_desks-first.ensures.joined c.in-None.is (ap (λ s. s.draws) c.in-Ok.ensures.seat)
    (some_workers _ c.requires.some) c.close.ensures.once)
