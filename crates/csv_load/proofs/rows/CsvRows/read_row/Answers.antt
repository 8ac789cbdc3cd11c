use Rattle.std.proofs.Common.{◌≡◌, map, List, ap, subst, sym, ◌∙◌}
use Rattle.std.specs.Prelude.{Result, Ok, Err}
use Rattle.ooc_types.specs.declared.value.Value.{Value}
use Rattle.csv_load.specs.declared.fault.Refusal.{Refusal}
use Rattle.csv_load.specs.FieldReads.{value_in}
use Rattle.csv_load.specs.Formats.{reading_in}
use Rattle.csv_load.specs.Ahead.{RowReader, outcome_of}
use Rattle.csv_load.proofs.Given.{outcome-read, outcome-refused}
use Rattle.csv_load.proofs.rows.CsvRows.read_row.Goals as goal

pub returns-in-Ok : goal.returns-in-Ok
returns-in-Ok c =
    let s = c.self.inside in
    subst (λ (r : RowReader). ◌≡◌ {A = Result (List Value) Refusal} (outcome_of r) (Ok (map value_in c.read_row.new.into))) c.self.view_is
    (outcome-read (reading_in s.format) s.number s.records.current (map value_in c.read_row.new.into) c.in-Ok.ensures)

pub returns-in-Err : goal.returns-in-Err
returns-in-Err c =
    let s = c.self.inside in
    subst (λ (r : RowReader). ◌≡◌ {A = Result (List Value) Refusal} (outcome_of r) (Err c.refusal.result)) c.self.view_is
    (outcome-refused (reading_in s.format) s.number s.records.current c.in-Err.why c.in-Err.ensures ∙ ap Err (sym c.refusal.ensures))
