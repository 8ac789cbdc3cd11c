use Rattle.bound_laws.proofs.PlannableLemmas.{well-formed-plannable}
use Rattle.bound_laws.proofs.laws.well_formed_selects_are_plannable.Goals as goal

pub returns : goal.returns
returns c = well-formed-plannable
