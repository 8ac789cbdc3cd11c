use Rattle.std.proofs.Common.{◌∙◌}
use Rattle.std.specs.FinMap.{get}
use Rattle.row_image.specs.Rules.{text_limit}
use Rattle.csv_tables.specs.Loading.{named_rows}
use Rattle.paged_catalog.proofs.Named.{pushed}
use Rattle.paged_catalog.proofs.Loaded.{meant_told}
use Rattle.paged_catalog.proofs.loading.add_set.Goals as goal

pub returns-in-Ok-load_csv-clause-adds : goal.returns-in-Ok-load_csv-clause-adds
returns-in-Ok-load_csv-clause-adds g c =
    let set = c.in-Ok-load_csv.set in
    let known = c.in-Ok-load_csv.ensures in
    record {
      set = set;
      sets = pushed c.args.rows.now.sets.items c.reserve.new.self.items c.put.new.list.items set c.reserve.ensures.items c.put.ensures;
      is = record {
        formed = known.formed;
        page_bytes_are = known.here.page_bytes ∙ known.changes.page_bytes;
        kinds = known.kinds;
        table = known.table;
      };
      here = known.here;
      changes = known.changes;
    }

pub returns-in-Ok-load_csv-clause-loads : goal.returns-in-Ok-load_csv-clause-loads
returns-in-Ok-load_csv-clause-loads g c =
    let set = c.in-Ok-load_csv.set in
    meant_told g.P.Pages.terms (g.F.Files.holds c.args.files.now) (λ held. named_rows c.args.columns.now c.args.options.now (text_limit (g.P.Pages.view c.args.pages.now).page_bytes) (get held c.args.file.now))
    c.args.rows.now.sets.items c.put.new.list.items set c.in-Ok-load_csv.ensures.loads (pushed c.args.rows.now.sets.items c.reserve.new.self.items c.put.new.list.items set c.reserve.ensures.items c.put.ensures)
