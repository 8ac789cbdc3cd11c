use Rattle.sql_scope.proofs.Sameness.{test-same}
use Rattle.sql_scope.proofs.equality.same.Goals as goal

pub returns : goal.returns
returns c = test-same c.same.result c.args.left.now c.args.right.now c.same.ensures
