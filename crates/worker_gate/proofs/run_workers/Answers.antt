use Rattle.std.proofs.Common.{subst}
use Rattle.worker_gate.specs.Jobs.{Does}
use Rattle.worker_gate.proofs.run_workers.Goals as goal

pub returns : goal.returns
returns g c i d lt =
    let h = (c.for_each_mut.ensures i d lt).1 in
    subst (λ (z : g.row.W.Denot × g.row.W.Denot). Does g.J.Fn c.args.job.now c.args.gate.now i z.0 z.1) (λ k. (h.argument_is k, h.left k)) h.call
