use Rattle.std.proofs.Common.{◌≡◌, true, sym, subst}
use Rattle.ooc_types.specs.Meets.{IsOf}
use Rattle.csv_load.specs.Ahead.{outcome_of, told_rows}
use Rattle.csv_load.specs.Rows.{Reading}
use Rattle.csv_load.specs.Values.{are_typed}
use Rattle.csv_load.proofs.Given.{next-row, outcome-row}
use Rattle.csv_load.proofs.RowsOf.{row-is-of}
use Rattle.csv_tables.proofs.rows.append_row.Goals as goal

pub returns-in-Ok-append_found-clause-row : goal.returns-in-Ok-append_found-clause-row
returns-in-Ok-append_found-clause-row g c more =
    let s = c.next_record.new.self in
    let put = c.in-Ok-append_found.ensures.next in
    let typed = subst (λ (r : Reading). are_typed r.columns ≡ true) (sym c.in-Ok.ensures.reading) c.requires.typed in
    record {
      row = put.0;
      added = put.2;
      gives = next-row (told_rows c.args.rows.now (g.F.Files.left c.args.files.now)) (told_rows s (g.F.Files.left c.next_record.new.files)) (outcome_of s) put.0 (c.in-Ok.ensures.next c.if-not-more.false) put.1;
      of = subst (λ (r : Reading). IsOf r.limit r.columns put.0) c.in-Ok.ensures.reading (row-is-of s.reading s.current put.0 typed (outcome-row s.reading s.number s.current put.0 put.1));
    }
