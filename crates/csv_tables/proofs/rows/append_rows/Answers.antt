use Rattle.std.proofs.Common.{arith, refl, subst, ◌∙◌}
use Rattle.row_sets.specs.Writers.{written_cells, writer_holding}
use Rattle.row_sets.proofs.Changed.{changes_none, changes_then}
use Rattle.csv_load.specs.Ahead.{told_rows}
use Rattle.csv_load.specs.Rows.{Reading}
use Rattle.csv_tables.specs.Adds.{AddsRow}
use Rattle.csv_tables.proofs.Adding.{added-none, added-more, added-all}
use Rattle.csv_tables.proofs.rows.append_rows.Goals as goal

pub rows-init : goal.rows-init
rows-init g c =
    let r = c.args.rows.now.reading in
    record {
      opened = c.requires.opened;
      goes_on = c.requires.goes_on;
      reading = refl;
      columns = record { kinds = refl; layout = refl; page_bytes = refl };
      writing = c.requires.writing;
      here = c.requires.here;
      changes = changes_none g.P.Pages.terms (writer_holding g.P.Pages.terms c.args.writer.now) (g.P.Pages.view c.args.pages.now);
      holds = refl;
      later = omega arith;
      added = added-none r.limit r.columns (told_rows c.args.rows.now (g.F.Files.left c.args.files.now)) (written_cells g.P.Pages.terms c.args.writer.now);
    }

pub returns-then-not-more-clause-rows : goal.returns-then-not-more-clause-rows
returns-then-not-more-clause-rows g c =
    let t = g.P.Pages.terms in
    let e = c.in-Ok.ensures in
    let r = c.args.rows.now.reading in
    added-all r.limit r.columns (told_rows c.args.rows.now (g.F.Files.left c.args.files.now)) (told_rows c.rows.rows (g.F.Files.left c.rows.files)) (written_cells t c.args.writer.now) (written_cells t c.rows.writer) (written_cells t c.append_row.new.writer)
    c.rows.invariant.added (e.ended c.if-not-more.true) (e.same c.if-not-more.true)

pub returns-then-not-more-clause-changes : goal.returns-then-not-more-clause-changes
returns-then-not-more-clause-changes g c =
    let t = g.P.Pages.terms in
    changes_then t (writer_holding t c.args.writer.now) (writer_holding t c.rows.writer) (writer_holding t c.append_row.new.writer)
    (g.P.Pages.view c.args.pages.now) (g.P.Pages.view c.rows.pages) (g.P.Pages.view c.append_row.new.pages) c.rows.invariant.changes c.append_row.ensures.changes

pub returns-in-Err-clause-changes : goal.returns-in-Err-clause-changes
returns-in-Err-clause-changes g c =
    let t = g.P.Pages.terms in
    changes_then t (writer_holding t c.args.writer.now) (writer_holding t c.rows.writer) (writer_holding t c.append_row.new.writer)
    (g.P.Pages.view c.args.pages.now) (g.P.Pages.view c.rows.pages) (g.P.Pages.view c.append_row.new.pages) c.rows.invariant.changes c.append_row.ensures.changes

pub rows-preserved : goal.rows-preserved
rows-preserved g c =
    let t = g.P.Pages.terms in
    let e = c.in-Ok.ensures in
    let h = c.rows.invariant in
    let first = told_rows c.args.rows.now (g.F.Files.left c.args.files.now) in
    let now = told_rows c.rows.rows (g.F.Files.left c.rows.files) in
    let next = told_rows c.append_row.new.rows (g.F.Files.left c.append_row.new.files) in
    let before = written_cells t c.args.writer.now in
    let so_far = written_cells t c.rows.writer in
    let after = written_cells t c.append_row.new.writer in
    let r = c.args.rows.now.reading in
    let row = subst (λ (x : Reading). AddsRow x.limit x.columns now next so_far after) h.reading (e.row c.if-not-more.false) in
    record {
      opened = e.opened;
      goes_on = e.goes_on;
      reading = e.reading ∙ h.reading;
      columns = record { kinds = e.columns.kinds ∙ h.columns.kinds; layout = e.columns.layout ∙ h.columns.layout; page_bytes = e.columns.page_bytes ∙ h.columns.page_bytes };
      writing = e.writing;
      here = e.here;
      changes = changes_then t (writer_holding t c.args.writer.now) (writer_holding t c.rows.writer) (writer_holding t c.append_row.new.writer)
          (g.P.Pages.view c.args.pages.now) (g.P.Pages.view c.rows.pages) (g.P.Pages.view c.append_row.new.pages) h.changes e.changes;
      holds = e.holds ∙ h.holds;
      later = let x = h.later in let y = e.later in omega (arith, x, y);
      added = added-more r.limit r.columns first now next before so_far after h.added row;
    }
