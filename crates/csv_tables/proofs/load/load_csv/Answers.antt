use Rattle.row_image.specs.Rules.{text_limit}
use Rattle.csv_tables.proofs.Loaded.{open-loads}
use Rattle.csv_tables.proofs.load.load_csv.Goals as goal

pub returns-in-Ok-clause-loads : goal.returns-in-Ok-clause-loads
returns-in-Ok-clause-loads g c =
    open-loads g.P.Pages.terms c.args.schema.now c.args.options.now (text_limit (g.P.Pages.view c.args.pages.now).page_bytes) c.args.name.now (g.F.Files.holds c.args.files.now) (g.F.Files.left c.open.new.self) c.load_open.result
    c.in-Ok.ensures.told c.load_open.ensures.loads
