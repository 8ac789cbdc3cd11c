use Rattle.std.proofs.Common.{◌≡◌, drop}
use Rattle.sql_scope.specs.Trees.{all_comparable}
use Rattle.sql_scope.proofs.trees.all_comparable.Given as goal

abbrev pub invariant-loop-tree : goal.invariant-loop-tree
invariant-loop-tree l = all_comparable l.kind (drop l.tree-index l.list) ≡ all_comparable l.kind l.list
