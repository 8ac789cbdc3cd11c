-- What a format says of the reading of rows.
use Rattle.csv_load.specs.declared.format.Format.{Format}
use Rattle.csv_load.specs.Rows.{Reading}

abbrev pub reading_in : Format → Reading
reading_in f = record { columns = f.columns; delimiter = f.delimiter; null = f.null; limit = f.limit }
