use Rattle.std.proofs.Common.{subst, sym}
use Rattle.pool_core.specs.State.{State, state_of}
use Rattle.pool_core.specs.Enabled.{Enabled}
use Rattle.pool_core.proofs.SoundStep.{sound_after}
use Rattle.pool_core.proofs.Lawful.{lawful, read_after}
use Rattle.pool_core.proofs.core_state.CoreState.step.Goals as goal

pub invariant_of-self : goal.invariant_of-self
invariant_of-self c =
    let P : State → Type 0 = λ s. Enabled s c.args.event in
    sound_after c.step.result (state_of c.self.inside.parts) (state_of c.step.new.state) c.args.event c.self.invariant (subst P (sym c.self.view_is) c.requires) c.step.ensures.acts c.step.ensures.unchanged

pub returns-clause-sound : goal.returns-clause-sound
returns-clause-sound c =
    let P : State → Type 0 = λ s. Enabled s c.args.event in
    sound_after c.step.result (state_of c.self.inside.parts) (state_of c.step.new.state) c.args.event c.self.invariant (subst P (sym c.self.view_is) c.requires) c.step.ensures.acts c.step.ensures.unchanged

pub returns-clause-lawful : goal.returns-clause-lawful
returns-clause-lawful c =
    let P : State → Type 0 = λ s. Enabled s c.args.event in
    lawful (state_of c.step.new.state)
    (sound_after c.step.result (state_of c.self.inside.parts) (state_of c.step.new.state) c.args.event c.self.invariant (subst P (sym c.self.view_is) c.requires) c.step.ensures.acts c.step.ensures.unchanged)

pub returns-clause-read : goal.returns-clause-read
returns-clause-read c =
    let P : State → Type 0 = λ s. Enabled s c.args.event in
    read_after c.step.result (state_of c.self.inside.parts) (state_of c.step.new.state) c.args.self.now c.args.event c.self.view_is c.self.invariant (subst P (sym c.self.view_is) c.requires) c.step.ensures.acts
