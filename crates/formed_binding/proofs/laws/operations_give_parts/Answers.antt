use Rattle.formed_binding.proofs.OperationLemmas.{minus-part, negation-part, null-part, like-part, one-of-part, comparison-part, between-part}
use Rattle.formed_binding.proofs.laws.operations_give_parts.Goals as goal

pub returns : goal.returns
returns c = record { minus = minus-part; negation = negation-part; null_test = null-part; like = like-part; one_of = one-of-part; comparison = comparison-part; between = between-part }
