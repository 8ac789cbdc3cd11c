use Rattle.row_cursors.proofs.KeptValues.{kept_back}
use Rattle.row_cursors.proofs.values.kept_values_are_read_back.Goals as goal

pub returns : goal.returns
returns c = λ limit kinds row meets. kept_back limit kinds row meets
