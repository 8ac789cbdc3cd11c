use Rattle.page_body.proofs.Tickets.{image_kept}
use Rattle.page_body.proofs.lanes.ticket_for.Goals as goal

pub returns-in-Ok-clause-stands : goal.returns-in-Ok-clause-stands
returns-in-Ok-clause-stands g c = λ kind content stands.
    let r = c.in-Resident-default-None in
    image_kept g.L.Mark.TicketMark.tells kind content c.deref.result.now c.args.body.now r.frame r.ticket c.in-Ok.ticket r.is c.deref.ensures.value c.requires.page c.in-Ok.ensures.keeps stands
