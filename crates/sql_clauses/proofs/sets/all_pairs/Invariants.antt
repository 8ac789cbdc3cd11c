use Rattle.std.proofs.Common.{[], drop}
use Rattle.std.specs.Prelude.{Ok, zip}
use Rattle.sql_scope.specs.Answer.{each}
use Rattle.sql_scope.proofs.Each.{SoFar}
use Rattle.sql_clauses.specs.Sets.{pair_behind}
use Rattle.sql_clauses.proofs.sets.all_pairs.Given as goal

abbrev pub invariant-loop-at : goal.invariant-loop-at
invariant-loop-at l = SoFar (pair_behind l.place) (each (pair_behind l.place) (Ok []) (zip l.left l.right)) l.columns (drop l.at (zip l.left l.right))
