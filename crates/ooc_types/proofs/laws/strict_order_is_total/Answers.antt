use Rattle.ooc_types.proofs.Ties.{strict_total, strict_ties, strict-of-kind}
use Rattle.ooc_types.proofs.laws.strict_order_is_total.Goals as goal

pub returns-clause-total : goal.returns-clause-total
returns-clause-total c = strict_total

pub returns-clause-ties : goal.returns-clause-ties
returns-clause-ties c = strict_ties

pub returns-clause-within_a_type : goal.returns-clause-within_a_type
returns-clause-within_a_type c = strict-of-kind
