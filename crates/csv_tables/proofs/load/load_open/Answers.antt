use Rattle.std.proofs.Common.{◌≢◌, ◌≤◌, length, sym, ap, subst, refl, arith, ◌∙◌}
use Rattle.std.proofs.lemmas.List.{length-map}
use Rattle.ooc_types.specs.declared.schema.Column.{Column}
use Rattle.row_image.specs.Rules.{text_limit}
use Rattle.row_sets.specs.Cells.{text_columns}
use Rattle.row_sets.specs.SetRows.{cell_kind, cell_kinds}
use Rattle.row_sets.specs.Holds.{nothing}
use Rattle.row_sets.specs.Writers.{writer_holding}
use Rattle.row_sets.proofs.Changed.{changes_as}
use Rattle.row_sets.proofs.Fresh.{new_writing, new_here, new_holding}
use Rattle.csv_load.specs.declared.stage.Stage.{Stage}
use Rattle.csv_load.specs.declared.stage.Stage.TheVariants.{Failed}
use Rattle.csv_load.specs.Ahead.{RowReader}
use Rattle.csv_tables.specs.Stored.{kinds_of}
use Rattle.csv_tables.specs.Loading.{load_given}
use Rattle.csv_tables.proofs.Loaded.{stage-goes, start_of, whole-loads, few-texts}
use Rattle.csv_tables.proofs.load.load_open.Goals as goal

pub load_rows-requires-clause-goes_on : goal.load_rows-requires-clause-goes_on
load_rows-requires-clause-goes_on g c = subst (λ (s : Stage). s ≢ Failed) (sym (ap (λ (r : RowReader). r.stage) c.in-Ok.ensures)) (stage-goes c.args.options.now.header)

pub load_rows-requires-clause-writing : goal.load_rows-requires-clause-writing
load_rows-requires-clause-writing g c =
    let columns = c.as_slice.result.now in
    let kinds = kinds_of columns in
    let same = ap length c.as_slice.ensures in
    let long = length-map columns (λ (column : Column). column.kind) in
    let some : 1 ≤ length kinds = let h = c.requires.some in omega (arith, same, long, h) in
    let few : length kinds ≤ 64 = let h = c.requires.few in omega (arith, same, long, h) in
    let texts : text_columns (cell_kinds kinds) ≤ 64 = let h = few-texts (cell_kinds kinds) in let l = length-map kinds cell_kind in omega (arith, h, l, few) in
    new_writing g.P.Pages.terms kinds c.page_bytes-page.result c.new_table-writer.result c.new_table-writer.ensures some (omega (arith, few)) texts c.page_bytes-page.ensures.page

pub load_rows-requires-clause-here : goal.load_rows-requires-clause-here
load_rows-requires-clause-here g c =
    new_here g.P.Pages.terms (kinds_of c.as_slice.result.now) c.page_bytes-page.result c.new_table-writer.result c.new_table-writer.ensures (g.P.Pages.view c.args.pages.now) c.page_bytes-page.ensures.is

pub returns-in-Ok-clause-loads : goal.returns-in-Ok-clause-loads
returns-in-Ok-clause-loads g c =
    whole-loads g.P.Pages.terms c.args.schema.now c.args.options.now (text_limit (g.P.Pages.view c.args.pages.now).page_bytes) c.in-Ok.rows (g.F.Files.left c.args.files.now) _
    (c.in-Ok.ensures ∙ ap (λ n. start_of c.args.schema.now c.args.options.now (text_limit n)) c.page_bytes-page.ensures.is) c.load_rows.ensures.loads

pub returns-in-Ok-clause-changes : goal.returns-in-Ok-clause-changes
returns-in-Ok-clause-changes g c =
    let t = g.P.Pages.terms in
    changes_as t (writer_holding t c.new_table-writer.result) nothing (load_given t _) (load_given t _) (g.P.Pages.view c.args.pages.now) (g.P.Pages.view c.load_rows.new.pages)
    (new_holding t (kinds_of c.as_slice.result.now) c.page_bytes-page.result c.new_table-writer.result c.new_table-writer.ensures)
    (record { pages = λ y. refl; pins = λ y. refl; opens = λ y. refl; held = refl })
    c.load_rows.ensures.changes
