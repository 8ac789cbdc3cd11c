use Rattle.std.proofs.Common.{[], drop}
use Rattle.std.specs.Prelude.{Ok}
use Rattle.sql_scope.specs.Trees.{constants_from}
use Rattle.sql_scope.proofs.ConstantList.{ConstantsSoFar}
use Rattle.sql_scope.proofs.trees.constants.Given as goal

abbrev pub invariant-loop-one : goal.invariant-loop-one
invariant-loop-one l = ConstantsSoFar l.scope (constants_from l.scope (Ok []) l.written) l.list (drop l.one-index l.written)
