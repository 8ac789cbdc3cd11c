use Rattle.std.proofs.Common.{subst}
use Rattle.spill_file.specs.Places.{IsNewBook}
use Rattle.spill_file.proofs.file_lane.FileLane.new_lane.Goals as goal

pub returns-clause-places : goal.returns-clause-places
returns-clause-places g c = subst (λ n. IsNewBook n c.new_places-places.result) c.lane.ensures c.new_places-places.ensures
