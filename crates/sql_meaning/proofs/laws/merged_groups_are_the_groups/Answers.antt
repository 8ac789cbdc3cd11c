use Rattle.sql_meaning.proofs.Pieces.{cell-merged, groups-from}
use Rattle.sql_meaning.proofs.laws.merged_groups_are_the_groups.Goals as goal

pub returns : goal.returns
returns c = record { cell = cell-merged; rows = groups-from }
