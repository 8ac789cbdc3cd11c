use Rattle.ooc_types.proofs.ValueOrder.{value_cmp-Number}
use Rattle.ooc_types.proofs.Scaled.{crosswise}
use Rattle.std.proofs.Common.{◌∙◌}
use Rattle.ooc_types.proofs.laws.numbers_compare_by_value.Goals as goal

pub returns : goal.returns
returns c a b m n p q = value_cmp-Number a m b n ∙ crosswise a b m n p q
