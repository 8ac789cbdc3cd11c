use Rattle.csv_records.proofs.PlainFields.{plain-split, plain-closed}
use Rattle.csv_records.proofs.laws.plain_records_are_split.Goals as goal

pub returns-clause-closed : goal.returns-clause-closed
returns-clause-closed c = plain-closed

pub returns-clause-fields : goal.returns-clause-fields
returns-clause-fields c = plain-split
