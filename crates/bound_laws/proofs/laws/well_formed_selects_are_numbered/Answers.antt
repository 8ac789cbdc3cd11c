use Rattle.bound_laws.proofs.NumberedLemmas.{well-formed-numbered}
use Rattle.bound_laws.proofs.laws.well_formed_selects_are_numbered.Goals as goal

pub returns : goal.returns
returns c = well-formed-numbered
