use Rattle.std.proofs.Common.{subst}
use Rattle.pool_core.specs.State.{State, state_of}
use Rattle.pool_core.specs.Sound.{Sound}
use Rattle.pool_core.specs.Laws.{IsLawful}
use Rattle.pool_core.proofs.Lawful.{lawful}
use Rattle.pool_core.proofs.core_state.CoreState.is_sound.Goals as goal

pub returns-clause-lawful : goal.returns-clause-lawful
returns-clause-lawful c = let P : State → Type 0 = λ s. IsLawful s in subst P c.self.view_is (lawful (state_of c.self.inside.parts) c.self.invariant)

pub returns-clause-sound : goal.returns-clause-sound
returns-clause-sound c = let P : State → Type 0 = λ s. Sound s in subst P c.self.view_is c.self.invariant
