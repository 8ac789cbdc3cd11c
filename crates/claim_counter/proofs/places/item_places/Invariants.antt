use Rattle.std.proofs.Common.{◌≡◌, ◌++◌, map, Some}
use Rattle.claim_counter.proofs.places.item_places.Given as goal

abbrev pub invariant-loop-item : goal.invariant-loop-item
invariant-loop-item g l = record {
  can : (goal.iterator-loop-item g).can_next l.item-iterator;
  finite : (goal.iterator-loop-item g).is_finite l.item-iterator;
  whole : l.yielded ++ l.item-iterator.rest.items ≡ l.fn.items.items;
  places : l.places.items ≡ map Some l.yielded;
}
