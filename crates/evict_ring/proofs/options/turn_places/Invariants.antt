use Rattle.std.proofs.Common.{◌≡◌, ◌++◌, map, Some}
use Rattle.evict_ring.proofs.options.turn_places.Given as goal

abbrev pub invariant-loop-turn : goal.invariant-loop-turn
invariant-loop-turn g l = record {
  can : (goal.iterator-loop-turn g).can_next l.turn-iterator;
  finite : (goal.iterator-loop-turn g).is_finite l.turn-iterator;
  whole : l.yielded ++ l.turn-iterator.rest.items ≡ l.fn.turns.items;
  places : l.places.items ≡ map Some l.yielded;
}
