use Rattle.pool_core.specs.State.{state_of}
use Rattle.pool_core.proofs.Ready.{whole}
use Rattle.pool_core.proofs.core_state.CoreState.enabled.Goals as goal

pub enabled-requires-clause-whole : goal.enabled-requires-clause-whole
enabled-requires-clause-whole c = λ k p there. whole (state_of c.self.inside.parts) c.self.invariant k p there
