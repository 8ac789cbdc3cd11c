use Rattle.std.proofs.Common.{◌≡◌, ◌==◌, true, ℕ, Some, List, length, map, sym, ap, subst, ◌∙◌}
use Rattle.std.specs.Prelude.{Result, Err}
use Rattle.std.specs.List.{slice_split}
use Rattle.ooc_types.specs.declared.value.Value.{Value}
use Rattle.ooc_types.specs.declared.refusal.RefusalKind.TheVariants.{OpenQuote}
use Rattle.csv_records.specs.Table.{ends_quoted}
use Rattle.csv_records.specs.Fields.{fields}
use Rattle.csv_records.proofs.PlainFields.{plain-split, plain-closed}
use Rattle.csv_load.specs.declared.fault.Reason.{Reason}
use Rattle.csv_load.specs.Rows.{row_of, row_of_fields, reason, record_reason}
use Rattle.csv_load.specs.FieldReads.{ReadsAll, value_in}
use Rattle.csv_load.specs.FieldReaders.{FieldPlace, is_found}
use Rattle.csv_load.specs.Formats.{reading_in}
use Rattle.csv_load.proofs.Given.{row-read, reason-none, reason-open, reason-row}
use Rattle.csv_load.proofs.field_reader.FieldReader.read_row.Goals as goal

pub returns-then-is_open : goal.returns-then-is_open
returns-then-is_open c =
    let r = reading_in c.args.format.now in
    let d = c.self.inside.records.delimiter in
    let x = c.self.inside.records.current in
    let same : d ≡ r.delimiter = ap (λ (s : FieldPlace). s.delimiter) c.self.view_is ∙ c.requires.delimiter in
    let is = c.self.invariant.is (ap is_found c.in-Apart.is) in
    let open_ : ends_quoted d x ≡ true = sym c.is_open.ensures ∙ c.if-is_open.true in
    let count : c.len.result ≡ length (fields d x) = c.len.ensures ∙ ap length (c.self.invariant.apart c.in-Apart.is) in
    let why = reason-open d x is open_ ∙ ap (λ n. Some (reason n OpenQuote)) (sym count) in
    subst (λ (s : FieldPlace). row_of r s.current ≡ Err c.reason.result) c.self.view_is
    (reason-row r x (reason c.len.result OpenQuote) (ap (λ e. record_reason e x) (sym same) ∙ why) ∙ ap Err (sym c.reason.ensures))

pub returns-in-Plain : goal.returns-in-Plain
returns-in-Plain c =
    let r = reading_in c.args.format.now in
    let d = c.self.inside.records.delimiter in
    let x = c.self.inside.records.current in
    let same : d ≡ r.delimiter = ap (λ (s : FieldPlace). s.delimiter) c.self.view_is ∙ c.requires.delimiter in
    let is = c.self.invariant.is (ap is_found c.in-Plain.is) in
    let lacks = c.self.invariant.plain c.in-Plain.is in
    let row = row-read r x (ap (λ e. record_reason e x) (sym same) ∙ reason-none d x is (plain-closed d x lacks)) ∙ ap (row_of_fields r) (plain-split r.delimiter x is.some lacks) in
    let bytes = ap (λ (b : List ℕ). row_of_fields r (slice_split (λ (y : ℕ). y == r.delimiter) b)) c.bytes.ensures in
    subst (λ (s : FieldPlace). ReadsAll (row_of r s.current) c.read_plain.result (map value_in c.read_plain.new.into)) c.self.view_is
    (subst (λ (o : Result (List Value) Reason). ReadsAll o c.read_plain.result (map value_in c.read_plain.new.into)) (bytes ∙ sym row) c.read_plain.ensures)

pub returns-else-is_open : goal.returns-else-is_open
returns-else-is_open c =
    let r = reading_in c.args.format.now in
    let d = c.self.inside.records.delimiter in
    let x = c.self.inside.records.current in
    let same : d ≡ r.delimiter = ap (λ (s : FieldPlace). s.delimiter) c.self.view_is ∙ c.requires.delimiter in
    let is = c.self.invariant.is (ap is_found c.in-Apart.is) in
    let row = row-read r x (ap (λ e. record_reason e x) (sym same) ∙ reason-none d x is (sym c.is_open.ensures ∙ c.if-is_open.false)) in
    let parts : c.self.inside.fields ≡ fields r.delimiter x = c.self.invariant.apart c.in-Apart.is ∙ ap (λ e. fields e x) same in
    subst (λ (s : FieldPlace). ReadsAll (row_of r s.current) c.read_list.result (map value_in c.read_list.new.into)) c.self.view_is
    (subst (λ (o : Result (List Value) Reason). ReadsAll o c.read_list.result (map value_in c.read_list.new.into)) (ap (row_of_fields r) parts ∙ sym row) c.read_list.ensures)
