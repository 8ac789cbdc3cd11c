use Rattle.std.proofs.lemmas.Bool.{false≢true}
use Rattle.spill_file.proofs.file_lane.FileLaneSpillLane.TheImpl.Goals as goal

pub write-tells : goal.write-tells
write-tells g c = record { writes = c.ensures.writes; keeps = λ tells. absurd (false≢true tells); cause = c.ensures.cause }

pub read-tells : goal.read-tells
read-tells g c = record { bytes = λ tells. absurd (false≢true tells); writes = c.ensures.writes; cause = c.ensures.cause }
