use Rattle.std.proofs.Common.{subst}
use Rattle.page_body.specs.Stands.{StandsFor}
use Rattle.page_pool.specs.Cells.{sealed_content}
use Rattle.page_pool.proofs.Loaded.{loads_stand}
use Rattle.page_pool.proofs.moves.load_image.Goals as goal

pub returns-clause-stands : goal.returns-clause-stands
returns-clause-stands g c =
    let t = c.args.cell.now.cell in
    loads_stand g.M.TicketMark.tells t.kind c.args.cell.now.kind (sealed_content t) _ c.in-Resting.ticket _ c.args.cell.now.same
    (subst (StandsFor g.M.TicketMark.tells t.kind (sealed_content t)) c.in-Resting.is c.requires.fits.stands) c.load_from.ensures.stands
