use Rattle.paged_catalog.specs.Meaning.{catalog_of}
use Rattle.script_says.specs.Catalog.{counts_of}
use Rattle.statement_run.proofs.Steps.{plan_is}
use Rattle.statement_run.proofs.explaining.plan_block.Goals as goal

pub returns : goal.returns
returns g c =
    plan_is (counts_of (catalog_of g.P.Pages.terms c.args.catalog.now)) c.args.select.now c.in_ok-counts.counts.items c.as_slice.result.now c.plan_over.result c.as_slice.ensures.value c.in_ok-counts.ensures c.plan_over.ensures
