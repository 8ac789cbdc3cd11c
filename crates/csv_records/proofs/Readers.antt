-- A reader that found no record yet.
use Rattle.std.proofs.Common.{◌≡◌, false, [], refl, sym, ap, ◌∙◌, arith}
use Rattle.std.specs.List.{list_any}
use Rattle.csv_records.specs.Table.{IsDelimiter, is_special, ends_quoted, state_after}
use Rattle.csv_records.specs.Reader.{IsReader, found_bytes}
use Rattle.csv_records.specs.declared.reader.RecordReader.TheInside.{Inside}

pub found-none : (r : Inside) → IsDelimiter r.delimiter → r.found.from ≡ 0 → r.found.to ≡ 0 → r.found.is_open ≡ false → IsReader r
unfolding ends_quoted state_after
found-none r marks from to shut =
    let none : found_bytes r ≡ [] = rw (from, to) refl in
    record {
      marks = marks;
      low = omega arith;
      high = omega arith;
      quoted = shut ∙ sym (ap (ends_quoted r.delimiter) none);
      plain = λ _. ap (list_any is_special) none;
    }
