use Rattle.csv_records.proofs.WholeFiles.{whole-file}
use Rattle.csv_records.proofs.laws.reader_reads_file.Goals as goal

pub returns : goal.returns
returns c = whole-file
