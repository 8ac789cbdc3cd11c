use Rattle.std.proofs.Common.{◌≡◌, ◌++◌, length}
use Rattle.pool_core.specs.Run.{Ran}
use Rattle.pool_core.specs.Sound.{Sound}
use Rattle.pool_core.proofs.core_state.CoreState.run.Given as goal

abbrev pub invariant-loop-event : goal.invariant-loop-event
invariant-loop-event l = record {
  can : (goal.iterator-loop-event).can_next l.event-iterator;
  finite : (goal.iterator-loop-event).is_finite l.event-iterator;
  count : l.done ≡ length l.yielded;
  whole : l.yielded ++ l.event-iterator.rest.items ≡ l.fn.events.items;
  sound : Sound l.self;
  ran : Ran l.initial.self l.yielded l.self;
}
