use Rattle.std.proofs.Common.{refl}
use Rattle.csv_records.proofs.Readers.{found-none}
use Rattle.csv_records.proofs.reader.RecordReader.new_reader.Goals as goal

pub invariant_of-result : goal.invariant_of-result
invariant_of-result c = found-none _ c.requires.delimiter refl refl refl
