use Rattle.worker_stage.proofs.Ready.{ready_at, sat}
use Rattle.worker_stage.proofs.stage.run_desks.Goals as goal

pub work_all-requires-clause-ready : goal.work_all-requires-clause-ready
work_all-requires-clause-ready g c κs within = ready_at g.W.StageWorker.made g.W.StageWorker.takes _ _ _ _ _ c.seat_all.ensures.seated c.seat_all.ensures.workers c.requires.fresh

pub join_all-requires-clause-sat : goal.join_all-requires-clause-sat
join_all-requires-clause-sat g c κs within = sat _ _ _ _ _ _ _ c.work_all.ensures
