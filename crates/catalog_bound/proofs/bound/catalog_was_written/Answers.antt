use Rattle.catalog_bound.proofs.Needs.{catalog_written}
use Rattle.catalog_bound.proofs.bound.catalog_was_written.Goals as goal

pub returns : goal.returns
returns g c = λ spills below.
    catalog_written g.P.Pages.terms (g.P.Pages.view c.args.pages.now) c.args.catalog.now (g.met.P.Pages.sized c.args.pages.now) c.requires.stands c.requires.here (g.met.P.Pages.written c.args.pages.now spills) below
