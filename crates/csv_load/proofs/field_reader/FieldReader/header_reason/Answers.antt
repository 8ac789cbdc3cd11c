use Rattle.std.proofs.Common.{◌≡◌, true, Option, Some, None, length, sym, ap, subst, ◌∙◌}
use Rattle.csv_records.specs.Table.{ends_quoted}
use Rattle.csv_records.specs.Fields.{fields}
use Rattle.csv_records.proofs.PlainFields.{plain-closed}
use Rattle.ooc_types.specs.declared.refusal.RefusalKind.TheVariants.{OpenQuote}
use Rattle.csv_load.specs.declared.fault.Reason.{Reason}
use Rattle.csv_load.specs.Rows.{record_reason, reason}
use Rattle.csv_load.specs.FieldReaders.{FieldPlace, is_found}
use Rattle.csv_load.proofs.Given.{reason-none, reason-open}
use Rattle.csv_load.proofs.field_reader.FieldReader.header_reason.Goals as goal

pub returns-then-is_open : goal.returns-then-is_open
returns-then-is_open c =
    let d = c.self.inside.records.delimiter in
    let x = c.self.inside.records.current in
    let is = c.self.invariant.is (ap is_found c.in-Apart.is) in
    let open_ : ends_quoted d x ≡ true = sym c.is_open.ensures ∙ c.if-is_open.true in
    let count : c.len.result ≡ length (fields d x) = c.len.ensures ∙ ap length (c.self.invariant.apart c.in-Apart.is) in
    subst (λ (s : FieldPlace). ◌≡◌ {A = Option Reason} (Some c.reason.result) (record_reason s.delimiter s.current)) c.self.view_is
    (ap Some (c.reason.ensures ∙ ap (λ n. reason n OpenQuote) count) ∙ sym (reason-open d x is open_))

pub returns-in-Plain : goal.returns-in-Plain
returns-in-Plain c =
    let d = c.self.inside.records.delimiter in
    let x = c.self.inside.records.current in
    let is = c.self.invariant.is (ap is_found c.in-Plain.is) in
    subst (λ (s : FieldPlace). ◌≡◌ {A = Option Reason} None (record_reason s.delimiter s.current)) c.self.view_is
    (sym (reason-none d x is (plain-closed d x (c.self.invariant.plain c.in-Plain.is))))

pub returns-else-is_open : goal.returns-else-is_open
returns-else-is_open c =
    let d = c.self.inside.records.delimiter in
    let x = c.self.inside.records.current in
    let is = c.self.invariant.is (ap is_found c.in-Apart.is) in
    subst (λ (s : FieldPlace). ◌≡◌ {A = Option Reason} None (record_reason s.delimiter s.current)) c.self.view_is
    (sym (reason-none d x is (sym c.is_open.ensures ∙ c.if-is_open.false)))
