use Rattle.ooc_types.proofs.ValueOrder.{value_cmp_total}
use Rattle.ooc_types.proofs.laws.values_are_totally_ordered.Goals as goal

pub returns : goal.returns
returns c = value_cmp_total
