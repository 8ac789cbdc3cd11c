use Rattle.std.proofs.Common.{◌≡◌, ◌≢◌, ◌≤◌, ◌<◌, ◌+◌, [], true, ℕ, List, length, map, set, take, drop, arith, refl, sym, ap, ◌∙◌, take_all}
use Rattle.std.specs.Prelude.{Ok}
use Rattle.std.proofs.lemmas.Bool.{eq-eqb}
use Rattle.csv_load.specs.Values.{field_value}
use Rattle.csv_load.specs.Rows.{column_values}
use Rattle.std.proofs.lemmas.List.{length-map}
use Rattle.csv_load.specs.FieldReads.{value_in}
use Rattle.csv_load.specs.Formats.{reading_in}
use Rattle.csv_load.proofs.Columns.{onto_values, onto-none, columns-step, columns-bad, columns-end, fields-count, fields-same, column-at, read-more, bad-row, field-here, field-none}
use Rattle.csv_load.proofs.quoted.read_list.Goals as goal

pub loop-i-init : goal.loop-i-init
loop-i-init c = onto-none [] (column_values (reading_in c.args.format.now) c.as_slice-columns.result.now 1 c.args.fields.now) refl

pub returns-then-len-columns : goal.returns-then-len-columns
returns-then-len-columns c =
    let r = reading_in c.args.format.now in
    let other : length c.args.fields.now ≢ length r.columns = λ e. c.if-len-columns.true (c.len.ensures ∙ e ∙ sym (ap length c.as_slice-columns.ensures)) in
    rw c.reason.ensures (fields-count r c.args.fields.now other)

pub returns-in_default : goal.returns-in_default
returns-in_default c =
    let none = field-none c.args.fields.now c.loop-i.i (rw c.in_default.is at c.get.ensures) in
    absurd (omega (arith, none, c.len.ensures, c.if-len-columns.false, ap length c.as_slice-columns.ensures))

pub returns-in-Err : goal.returns-in-Err
returns-in-Err c =
    let r = reading_in c.args.format.now in
    let cols = c.as_slice-columns.result.now in
    let parts = c.args.fields.now in
    let i = c.loop-i.i in
    let column = c.index-columns-i.result in
    let field = c.in-Some.field.now in
    let lt : i < length cols = omega arith in
    let at = column-at cols i column lt c.index-columns-i.is in
    let step = field-here parts i field c.in-Some.ensures in
    let so_far = c.loop-i.invariant ∙ ap (λ (ps : List (List ℕ)). onto_values (take i (map value_in c.loop-i.into)) (column_values r (drop i cols) (i + 1) ps)) step in
    let columns = ap (λ cs. column_values r cs 1 parts) (sym c.as_slice-columns.ensures) in
    let null = ap (λ n. field_value r.limit n column field) (sym c.as_bytes.ensures) in
    let same : length parts ≡ length r.columns = sym c.len.ensures ∙ c.if-len-columns.false ∙ ap length c.as_slice-columns.ensures in
    rw c.column_reason.ensures
    (bad-row r parts (i + 1) c.in-Err.kind true (sym (eq-eqb (length parts) (length r.columns) same))
    (columns ∙ columns-bad r cols i column (take i (map value_in c.loop-i.into)) c.in-Err.kind field (drop (i + 1) parts) (column_values r cols 1 parts) at (null ∙ c.in-Err.ensures) so_far))

pub loop-i-preserved : goal.loop-i-preserved
loop-i-preserved c =
    let r = reading_in c.args.format.now in
    let cols = c.as_slice-columns.result.now in
    let parts = c.args.fields.now in
    let i = c.loop-i.i in
    let column = c.index-columns-i.result in
    let field = c.in-Some.field.now in
    let lt : i < length cols = omega arith in
    let at = column-at cols i column lt c.index-columns-i.is in
    let step = field-here parts i field c.in-Some.ensures in
    let so_far = c.loop-i.invariant ∙ ap (λ (ps : List (List ℕ)). onto_values (take i (map value_in c.loop-i.into)) (column_values r (drop i cols) (i + 1) ps)) step in
    let value = c.in-Ok.value in
    let null = ap (λ n. field_value r.limit n column field) (sym c.as_bytes.ensures) in
    let room : i < length c.loop-i.into = omega (arith, lt, ap length c.as_slice-columns.ensures, c.loop-i.auto.into, c.requires) in
    columns-step r cols i column (take i (map value_in c.loop-i.into)) (take (i + 1) (map value_in (set c.loop-i.into i value))) (value_in value) field (drop (i + 1) parts) (column_values r cols 1 parts) at (null ∙ c.in-Ok.ensures)
    (read-more c.loop-i.into i value room) so_far

pub returns : goal.returns
returns c =
    let r = reading_in c.args.format.now in
    let cols = c.as_slice-columns.result.now in
    let parts = c.args.fields.now in
    let i = c.loop-i.i in
    let columns = ap length c.as_slice-columns.ensures in
    let le : length cols ≤ i = omega arith in
    let same : length parts ≡ length r.columns = sym c.len.ensures ∙ c.if-len-columns.false ∙ columns in
    let all : length (map value_in c.loop-i.into) ≤ i = let long = length-map c.loop-i.into value_in in omega (arith, long, le, columns, c.loop-i.auto.into, c.requires) in
    fields-same r parts same ∙ ap (λ cs. column_values r cs 1 parts) (sym c.as_slice-columns.ensures)
    ∙ columns-end r cols i (take i (map value_in c.loop-i.into)) (drop i parts) (column_values r cols 1 parts) le c.loop-i.invariant
    ∙ ap Ok (take_all i (map value_in c.loop-i.into) all)
