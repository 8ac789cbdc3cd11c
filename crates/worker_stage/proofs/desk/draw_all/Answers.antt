use Rattle.std.proofs.Common.{◌∙◌}
use Rattle.worker_stage.proofs.Drawn.{goes_on}
use Rattle.worker_stage.proofs.desk.draw_all.Goals as goal

pub loop-preserved : goal.loop-preserved
loop-preserved g c = record {
  can = tt;
  finite = tt;
  own = c.draw_next.ensures.own;
  parts = c.draw_next.ensures.parts ∙ c.loop.invariant.parts;
  going = c.in-Some-draw_next.ensures.going;
  worked = goes_on g.W.StageWorker.made _ c.args.worker.now _ _ _ _ c.loop.worker c.work.new.self c.loop.invariant.worked c.in_default.ensures.done c.in-Some-draw_next.ensures.item c.in-Some-draw_next.ensures.drawn;
  takes = λ n x is. c.work.ensures.takes x (c.loop.invariant.takes n x is);
}
