use Rattle.std.proofs.Common.{◌<◌, drop}
use Rattle.number_bags.specs.Bags.{times}
use Rattle.page_pool.specs.Numbers.{numbers_of}
use Rattle.page_pool.proofs.opens.place_of.Given as goal

abbrev pub invariant-loop-place : goal.invariant-loop-place
invariant-loop-place g l = 0 < times (numbers_of (drop l.place l.turns)) l.fn.number
