use Rattle.well_formed.proofs.WorkedLemmas.{worked_is_well_formed}
use Rattle.well_formed.proofs.laws.a_worked_select_is_well_formed.Goals as goal

pub returns : goal.returns
returns c = worked_is_well_formed
