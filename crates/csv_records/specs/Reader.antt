-- What contracts see of a reader of records.
use Rattle.std.specs.Prelude.{◌≡◌, ◌≤◌, ℕ, false, List, slice_range, vec_len}
use Rattle.std.specs.List.{list_any}
use Rattle.csv_records.specs.Table.{is_special, ends_quoted, IsDelimiter}
use Rattle.csv_records.specs.Ahead.{Position}
use Rattle.csv_records.specs.Buffer.{position_of}
use Rattle.csv_records.specs.declared.reader.RecordReader.TheInside.{Inside}

-- the byte between fields, the position in the file, and the bytes of the record that was found last
pub record Reader : Type 0 where
  pub delimiter : ℕ
  pub position : Position
  pub current : List ℕ

abbrev pub found_bytes : Inside → List ℕ
found_bytes r = slice_range r.buffer.buffer.items r.found.from r.found.to

abbrev pub reader_of : Inside → Reader
reader_of r = record { delimiter = r.delimiter; position = position_of r.buffer; current = found_bytes r }

-- the record that was found lies in the buffer, and what is said of its quotes is so
pub record IsReader (r : Inside) : Type 0 where
  pub marks : IsDelimiter r.delimiter
  pub low : r.found.from ≤ r.found.to
  pub high : r.found.to ≤ vec_len r.buffer.buffer
  pub quoted : r.found.is_open ≡ ends_quoted r.delimiter (found_bytes r)
  pub plain : r.found.quotes ≡ false → list_any is_special (found_bytes r) ≡ false
