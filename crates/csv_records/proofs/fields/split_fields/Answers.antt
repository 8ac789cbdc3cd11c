use Rattle.std.proofs.Common.{◌≤◌, ◌<◌, ◌+◌, ◌++◌, ◌∷◌, [], List, ℕ, length, get_or, drop, length-append, arith, sym, ap, subst, ◌∙◌}
use Rattle.std.specs.Prelude.{IsSome}
use Rattle.csv.specs.Machine.{next_record}
use Rattle.csv.specs.Records.{fields_of, partial_of}
use Rattle.csv_records.specs.Table.{state_after}
use Rattle.csv_records.specs.Fields.{csv_config}
use Rattle.csv_records.specs.Unquoting.{csv_state}
use Rattle.csv_records.proofs.QuotedFields.{at-place, runs-head, runs-tail, read-step, fields-end, on-ok}
use Rattle.csv_records.proofs.fields.split_fields.Goals as goal

pub take_byte-requires-clause-runs : goal.take_byte-requires-clause-runs
take_byte-requires-clause-runs c =
    let bytes = c.args.bytes.now in
    let i = c.loop-byte.byte-index in
    let lt : i < length bytes = omega arith in
    runs-head c.args.delimiter c.loop-byte.mark (get_or bytes i 0) (drop (i + 1) bytes)
    (subst (λ (x : List ℕ). IsSome (state_after c.args.delimiter c.loop-byte.mark x)) (at-place bytes i lt) c.loop-byte.invariant.runs)

pub loop-byte-preserved : goal.loop-byte-preserved
loop-byte-preserved c =
    let d = c.args.delimiter in
    let bytes = c.args.bytes.now in
    let i = c.loop-byte.byte-index in
    let lt : i < length bytes = omega arith in
    let e = c.in_ok-mark.ensures in
    let mark = c.loop-byte.mark in
    let next = c.in_ok-mark.mark in
    record {
      read = c.loop-byte.invariant.read
          ∙ ap (next_record (csv_config d) (csv_state mark) (fields_of c.loop-byte.into) c.loop-byte.field.items) (at-place bytes i lt)
          ∙ read-step d (csv_state mark) (csv_state next) (fields_of c.loop-byte.into) (fields_of c.take_byte.new.fields) c.loop-byte.field.items c.take_byte.new.field.items (get_or bytes i 0) (drop (i + 1) bytes)
          e.state e.goes_on e.fields e.field;
      runs = runs-tail d mark next (get_or bytes i 0) (drop (i + 1) bytes) (subst (λ (x : List ℕ). IsSome (state_after d mark x)) (at-place bytes i lt) c.loop-byte.invariant.runs) e.mark;
      count = omega (arith, e.count, c.loop-byte.invariant.count);
      partial = e.partial;
    }

pub returns : goal.returns
returns c =
    let d = c.args.delimiter in
    let bytes = c.args.bytes.now in
    let i = c.loop-byte.byte-index in
    let le : length bytes ≤ i = omega arith in
    let f = fields_of c.loop-byte.into in
    let p = c.loop-byte.field.items in
    let all = fields-end d bytes i c.loop-byte.mark f p c.requires.delimiter c.requires.some c.requires.runs le c.loop-byte.invariant.read in
    let count : length f + 1 ≤ length bytes + 1 = omega (arith, c.loop-byte.auto, c.loop-byte.invariant.count) in
    record { count = on-ok c.push_field.result (λ h. omega (arith, ap length h, length-append f ((partial_of c.loop-byte.into ++ c.as_slice.result.now) ∷ []), count)) c.push_field.ensures.fields; fields = on-ok c.push_field.result (λ h. h ∙ ap (λ (x : List ℕ). f ++ ((x ++ c.as_slice.result.now) ∷ [])) c.loop-byte.invariant.partial ∙ ap (λ (x : List ℕ). f ++ (x ∷ [])) c.as_slice.ensures.value ∙ sym all) c.push_field.ensures.fields }
