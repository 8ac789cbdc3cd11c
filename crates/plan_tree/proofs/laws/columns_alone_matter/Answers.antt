use Rattle.plan_tree.proofs.ColumnLemmas.{value-agrees}
use Rattle.plan_tree.proofs.laws.columns_alone_matter.Goals as goal

pub returns : goal.returns
returns c = value-agrees
