use Rattle.std.proofs.Common.{None, refl, subst}
use Rattle.row_image.specs.Flat.{flat}
use Rattle.page_body.specs.Stands.{StandsFor}
use Rattle.page_body.specs.declared.body.PageBody.TheVariants.{Resident}
use Rattle.page_body.proofs.tests.there_and_back.Goals as goal

pub returns : goal.returns
returns g c =
    let told = g.L.Mark.TicketMark.tells in
    let kind = c.args.kind.now in
    let content = flat kind c.args.frame.bytes.items in
    let first : StandsFor told kind content (Resident c.args.frame None) = (record { accepted = c.requires.accepted; same = λ t. refl }, tt) in
    let rests = c.rest-frame.ensures.stands told kind content first (c.in_ok-given.ensures.stands kind content first) in
    let ticket = subst (StandsFor told kind content) c.in-Resting.is rests in
    c.install.ensures.stands told kind content rests (c.in_ok-load_from-in-Resting.ensures.stands content ticket)
