use Rattle.std.proofs.Common.{subst}
use Rattle.pool_core.specs.declared.event.Event.{Event}
use Rattle.pool_core.specs.State.{state_of}
use Rattle.pool_core.specs.Enabled.{Enabled}
use Rattle.pool_core.proofs.Ready.{can_seal}
use Rattle.pool_core.proofs.step.step.Goals as goal

pub seal-requires : goal.seal-requires
seal-requires c =
    let s = state_of c.args.state.now in
    let P : Event → Type 0 = λ event. Enabled s event in
    can_seal s c.requires.sound c.in-Seal.actor c.in-Seal.frame c.in-Seal.kind c.in-Seal.image c.in-Seal.heaps (subst P c.in-Seal.is c.requires.enabled).1
