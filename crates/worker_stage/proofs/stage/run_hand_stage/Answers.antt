use Rattle.std.proofs.Common.{List, ap, ◌∙◌, subst}
use Rattle.claim_counter.specs.Players.{left_from}
use Rattle.worker_stage.specs.Desks.{workers}
use Rattle.worker_stage.specs.Stage.{IsDone, IsBroken}
use Rattle.worker_stage.proofs.Whole.{joined_done, joined_broken, some_workers}
use Rattle.worker_stage.proofs.stage.run_hand_stage.Goals as goal

pub returns-in-Some-clause-refused : goal.returns-in-Some-clause-refused
returns-in-Some-clause-refused g c = (
  c.close-drawn.result.0,
  subst (λ (xs : List g.row.H.Denot). IsBroken g.W.StageWorker.made g.W.StageWorker.failed xs (workers c.args.desks.now) c.in-Some.number c.in-Some.fault c.close-drawn.result.0 (workers c.run_desks-first.new.desks)) c.in-Ok.ensures.hand.0
      (joined_broken g.W.StageWorker.made g.W.StageWorker.failed _ _ _ _ _ _ _ _ _ _ _ c.run_desks-first.ensures.joined c.in-Some.is (ap (λ s. s.draws) c.in-Ok.ensures.seat) c.close-drawn.ensures.once),
  c.close-drawn.ensures.left ∙ ap (left_from c.close-drawn.result.0) c.in-Ok.ensures.hand.0,
)

pub returns-in-None-clause-done : goal.returns-in-None-clause-done
returns-in-None-clause-done g c =
    subst (λ (xs : List g.row.H.Denot). IsDone g.W.StageWorker.made xs (workers c.args.desks.now) (workers c.run_desks-first.new.desks)) c.in-Ok.ensures.hand.0
    (joined_done g.W.StageWorker.made g.W.StageWorker.failed _ _ _ _ _ _ _ _ _ c.run_desks-first.ensures.joined c.in-None.is (ap (λ s. s.draws) c.in-Ok.ensures.seat)
    (some_workers _ c.requires.some) c.close-drawn.ensures.once)
