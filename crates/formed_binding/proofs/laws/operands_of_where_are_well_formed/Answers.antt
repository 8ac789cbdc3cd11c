use Rattle.formed_binding.proofs.WhereLemmas.{plain-formed, member-formed, begun-formed, joined-formed, ended-formed}
use Rattle.formed_binding.proofs.laws.operands_of_where_are_well_formed.Goals as goal

pub returns : goal.returns
returns c = record { plain = plain-formed; member = member-formed; begun = begun-formed; joined = joined-formed; ended = ended-formed }
