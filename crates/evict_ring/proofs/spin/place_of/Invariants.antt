use Rattle.std.proofs.Common.{◌<◌, drop}
use Rattle.number_bags.specs.Bags.{times}
use Rattle.evict_ring.proofs.spin.place_of.Given as goal

abbrev pub invariant-loop-place : goal.invariant-loop-place
invariant-loop-place l = 0 < times (drop l.place l.list) l.fn.number
