use Rattle.formed_binding.proofs.NodeLemmas.{column-part, distinct-part, literal-part, star-part, value-part}
use Rattle.formed_binding.proofs.OperationLemmas.{constants-listed}
use Rattle.formed_binding.proofs.laws.leaves_are_parts.Goals as goal

pub returns : goal.returns
returns c = record { literal = literal-part; column = column-part; star = star-part; value = value-part; distinct = distinct-part; constants = constants-listed }
