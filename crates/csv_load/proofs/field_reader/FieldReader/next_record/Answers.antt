use Rattle.csv_load.proofs.field_reader.FieldReader.next_record.Goals as goal

pub read-requires-clause-delimiter : goal.read-requires-clause-delimiter
read-requires-clause-delimiter g c = c.delimiter.ensures.marks
