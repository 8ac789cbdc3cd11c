use Rattle.std.proofs.Common.{subst}
use Rattle.csv_load.specs.Ahead.{IsRowOf}
use Rattle.csv_load.specs.Rows.{Reading}
use Rattle.csv_load.proofs.Given.{outcome-row}
use Rattle.csv_load.proofs.rows.CsvRows.next_row.Goals as goal

pub returns-in-Ok-put_row-clause-made : goal.returns-in-Ok-put_row-clause-made
returns-in-Ok-put_row-clause-made g c more =
    let s = c.next_record.new.self in
    subst (λ (r : Reading). IsRowOf r c.put_row.new.into) c.in-Ok.ensures.reading
    (record { bytes = s.current; is = c.in-Ok.ensures.record c.if-not-more.false; gives = outcome-row s.reading s.number s.current c.put_row.new.into c.in-Ok-put_row.ensures })
