use Rattle.std.proofs.Common.{◌≡◌, length}
use Rattle.solo_pool.specs.Spares.{AllSpare}
use Rattle.solo_pool.proofs.slots.spare_places.Given as goal

abbrev pub invariant-loop-number : goal.invariant-loop-number
invariant-loop-number l = record {
  count : length l.places.items ≡ l.number;
  all : AllSpare l.page l.places.items;
}
