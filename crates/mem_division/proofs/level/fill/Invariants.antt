use Rattle.std.proofs.Common.{◌≡◌, ◌++◌, drop, take, map}
use Rattle.mem_division.specs.Level.{filled}
use Rattle.mem_division.proofs.level.fill.Given as goal

abbrev pub invariant-loop-i : goal.invariant-loop-i
invariant-loop-i l =
    take l.i l.into ++ map (λ place. place.grant) (filled l.level l.left (drop l.i l.wants)) ≡ map (λ place. place.grant) (filled l.level l.rest l.wants)
