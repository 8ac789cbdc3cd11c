use Rattle.std.proofs.Common.{sym}
use Rattle.plain_groups.proofs.Folding.{taken-all}
use Rattle.plain_groups.proofs.folds.count_taken.Goals as goal

pub returns : goal.returns
returns c = sym (taken-all c.args.values.now)
