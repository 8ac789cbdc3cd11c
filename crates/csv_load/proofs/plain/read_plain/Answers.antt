use Rattle.std.proofs.Common.{◌≡◌, ◌≢◌, ◌≤◌, ◌<◌, ◌+◌, ◌==◌, [], ℕ, List, length, map, set, take, drop, arith, refl, sym, ap, ◌∙◌, take_all}
use Rattle.std.specs.Prelude.{slice_range, Ok}
use Rattle.std.specs.List.{slice_split}
use Rattle.csv_load.specs.Parts.{rest_fields}
use Rattle.csv_load.specs.Values.{field_value}
use Rattle.csv_load.specs.Rows.{column_values}
use Rattle.std.proofs.lemmas.List.{length-map}
use Rattle.csv_load.specs.FieldReads.{value_in}
use Rattle.csv_load.specs.Formats.{reading_in}
use Rattle.csv_load.proofs.Splits.{rest-start, rest-step, rest-none, rest-some}
use Rattle.csv_load.proofs.Columns.{onto_values, onto-none, columns-step, columns-bad, columns-end, fields-count, fields-same, column-at, read-more, bad-row}
use Rattle.csv_load.proofs.plain.read_plain.Goals as goal

pub loop-i-init : goal.loop-i-init
loop-i-init c =
    let r = reading_in c.args.format.now in
    let bytes = c.args.bytes.now in
    let cols = c.as_slice-columns.result.now in
    let start = rest-start r.delimiter bytes in
    let parts = slice_split (λ (b : ℕ). b == r.delimiter) bytes in
    record {
      count = omega (arith, ap length start);
      so_far = onto-none [] (column_values r cols 1 parts) refl ∙ ap (λ (ps : List (List ℕ)). onto_values [] (column_values r cols 1 ps)) (sym start);
    }

pub returns-then-from-bytes : goal.returns-then-from-bytes
returns-then-from-bytes c =
    let r = reading_in c.args.format.now in
    let bytes = c.args.bytes.now in
    let parts = slice_split (λ (b : ℕ). b == r.delimiter) bytes in
    let none = rest-none r.delimiter bytes c.loop-i.from c.if-from-bytes.true in
    let count = c.loop-i.invariant.count in
    let columns = ap length c.as_slice-columns.ensures in
    let other : length parts ≢ length r.columns = λ e. absurd (omega (arith, e, count, ap length none, columns)) in
    rw c.reason.ensures (fields-count r parts other)

pub returns-in-Err : goal.returns-in-Err
returns-in-Err c =
    let r = reading_in c.args.format.now in
    let d = r.delimiter in
    let bytes = c.args.bytes.now in
    let cols = c.as_slice-columns.result.now in
    let parts = slice_split (λ (b : ℕ). b == d) bytes in
    let i = c.loop-i.i in
    let end = c.field_end-end.result in
    let e = c.field_end-end.ensures in
    let column = c.index-columns-i.result in
    let field = slice_range bytes c.loop-i.from end in
    let step = rest-step d bytes c.loop-i.from end e.low e.high e.lacks e.ends in
    let lt : i < length cols = omega arith in
    let at = column-at cols i column lt c.index-columns-i.is in
    let so_far = c.loop-i.invariant.so_far ∙ ap (λ (ps : List (List ℕ)). onto_values (take i (map value_in c.loop-i.into)) (column_values r (drop i cols) (i + 1) ps)) step in
    let columns = ap (λ cs. column_values r cs 1 parts) (sym c.as_slice-columns.ensures) in
    let null = ap (λ n. field_value r.limit n column field) (sym c.as_bytes-null.ensures) in
    rw c.plain_reason.ensures
    (bad-row r parts (i + 1) c.in-Err.kind _ (ap (λ (n : ℕ). length parts == n) (ap length c.as_slice-columns.ensures))
    (columns ∙ columns-bad r cols i column (take i (map value_in c.loop-i.into)) c.in-Err.kind field (rest_fields d bytes (end + 1)) (column_values r cols 1 parts) at (null ∙ c.in-Err.ensures) so_far))

pub loop-i-preserved : goal.loop-i-preserved
loop-i-preserved c =
    let r = reading_in c.args.format.now in
    let d = r.delimiter in
    let bytes = c.args.bytes.now in
    let cols = c.as_slice-columns.result.now in
    let parts = slice_split (λ (b : ℕ). b == d) bytes in
    let i = c.loop-i.i in
    let end = c.field_end-end.result in
    let e = c.field_end-end.ensures in
    let column = c.index-columns-i.result in
    let field = slice_range bytes c.loop-i.from end in
    let step = rest-step d bytes c.loop-i.from end e.low e.high e.lacks e.ends in
    let lt : i < length cols = omega arith in
    let at = column-at cols i column lt c.index-columns-i.is in
    let so_far = c.loop-i.invariant.so_far ∙ ap (λ (ps : List (List ℕ)). onto_values (take i (map value_in c.loop-i.into)) (column_values r (drop i cols) (i + 1) ps)) step in
    let value = c.in-Ok.value in
    let null = ap (λ n. field_value r.limit n column field) (sym c.as_bytes-null.ensures) in
    let room : i < length c.loop-i.into = omega (arith, lt, ap length c.as_slice-columns.ensures, c.loop-i.auto.into, c.requires) in
    record {
      count = omega (arith, c.loop-i.invariant.count, ap length step);
      so_far = columns-step r cols i column (take i (map value_in c.loop-i.into)) (take (i + 1) (map value_in (set c.loop-i.into i value))) (value_in value) field (rest_fields d bytes (end + 1)) (column_values r cols 1 parts) at (null ∙ c.in-Ok.ensures)
          (read-more c.loop-i.into i value room) so_far;
    }

pub returns-then-from-bytes-2 : goal.returns-then-from-bytes-2
returns-then-from-bytes-2 c =
    let r = reading_in c.args.format.now in
    let bytes = c.args.bytes.now in
    let parts = slice_split (λ (b : ℕ). b == r.delimiter) bytes in
    let some = rest-some r.delimiter bytes c.loop-i.from c.if-from-bytes-2.true in
    let count = c.loop-i.invariant.count in
    let columns = ap length c.as_slice-columns.ensures in
    let other : length parts ≢ length r.columns = λ e. absurd (omega (arith, e, count, some, columns)) in
    rw c.reason-then-from-bytes-2.ensures (fields-count r parts other)

pub returns : goal.returns
returns c =
    let r = reading_in c.args.format.now in
    let bytes = c.args.bytes.now in
    let cols = c.as_slice-columns.result.now in
    let parts = slice_split (λ (b : ℕ). b == r.delimiter) bytes in
    let i = c.loop-i.i in
    let none = rest-none r.delimiter bytes c.loop-i.from c.if-from-bytes-2.false in
    let count = c.loop-i.invariant.count in
    let columns = ap length c.as_slice-columns.ensures in
    let le : length cols ≤ i = omega arith in
    let same : length parts ≡ length r.columns = omega (arith, count, ap length none, columns) in
    let all : length (map value_in c.loop-i.into) ≤ i = let long = length-map c.loop-i.into value_in in omega (arith, long, le, columns, c.loop-i.auto.into, c.requires) in
    fields-same r parts same ∙ ap (λ cs. column_values r cs 1 parts) (sym c.as_slice-columns.ensures)
    ∙ columns-end r cols i (take i (map value_in c.loop-i.into)) (rest_fields r.delimiter bytes c.loop-i.from) (column_values r cols 1 parts) le c.loop-i.invariant.so_far
    ∙ ap Ok (take_all i (map value_in c.loop-i.into) all)
