use Rattle.std.proofs.Common.{◌≡◌, sym, ◌∙◌, subst}
use Rattle.std.specs.Prelude.{IfSome}
use Rattle.row_image.specs.Flat.{flat}
use Rattle.row_image.specs.declared.image.ImageKind.TheVariants.{Heap}
use Rattle.row_image.proofs.FlatLemmas.{heap_flat}
use Rattle.page_body.proofs.clients.two_pages.Goals as goal

pub returns-in-Ok-clause-read : goal.returns-in-Ok-clause-read
returns-in-Ok-clause-read g c = λ told kept.
    let t = g.P.Pages.terms in
    let sealed = subst (λ o. IfSome o (λ page. t.content page ≡ flat Heap c.args.first.now)) c.in-Some.is c.in_ok-page.ensures.content in
    let kind = subst (λ o. IfSome o (λ page. t.kind page ≡ Heap)) c.in-Some.is c.in_ok-page.ensures.kind in
    let read = subst (λ k. flat k c.read_back-read.new.into ≡ t.content c.in-Some.page) kind (c.in-Ok.ensures.stands.same told) in
    sym (heap_flat c.read_back-read.new.into) ∙ read ∙ sealed ∙ heap_flat c.args.first.now
