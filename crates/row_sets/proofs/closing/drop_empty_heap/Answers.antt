use Rattle.std.proofs.Common.{◌≡◌, Option, Some, None, sym, ◌∙◌, subst, arith, rules}
use Rattle.std.specs.Prelude.{IfSome}
use Rattle.row_image.specs.declared.image.ImageKind.TheVariants.{Heap}
use Rattle.string_heap.specs.Heaps.{used}
use Rattle.page_body.specs.Shows.{IsOpen}
use Rattle.page_body.specs.declared.open.OpenPage.{OpenPage}
use Rattle.row_sets.specs.Holds.{nothing}
use Rattle.row_sets.specs.Changes.{Changes}
use Rattle.row_sets.specs.Given.{open_holding}
use Rattle.row_sets.specs.Writers.{Written, IsWriterHere}
use Rattle.row_sets.proofs.Fresh.{is_open}
use Rattle.row_sets.proofs.Dropped.{dropped_here}
use Rattle.row_sets.proofs.closing.drop_empty_heap.Goals as goal

pub discard_open-requires : goal.discard_open-requires
discard_open-requires g c =
    let t = g.P.Pages.terms in
    let w = c.args.writer.now in
    let a = g.P.Pages.view c.args.pages.now in
    subst (λ o. IfSome o (IsOpen a)) (sym c.replace-empty.ensures.value)
    (is_open t Heap w.open_heap w.page_bytes a c.requires.writing.open_heap c.requires.here.page_bytes (λ y. let m = c.requires.here.owned.opens y in omega (arith, m)))

pub returns-then-room-len-clause-here : goal.returns-then-room-len-clause-here
returns-then-room-len-clause-here g c =
    let t = g.P.Pages.terms in
    let w = c.args.writer.now in
    let p = c.in-Some.page in
    let a = g.P.Pages.view c.args.pages.now in
    let b = g.P.Pages.view c.discard_open.new.pages in
    let e : w.open_heap ≡ Some p = c.in-Some.is in
    let same : w ≡ record w { open_heap = Some p } = λ i. record w { open_heap = e i } in
    let none : used p.frame.bytes.items ≡ 0 = let r = c.room.ensures in let q = c.if-room-len.true in search rules in
    let ch = subst (λ (o : Option OpenPage). Changes t (open_holding o) nothing a b) (c.replace-empty.ensures.value ∙ e) c.discard_open.ensures in
    let here = dropped_here t w p (subst (Written t) same c.requires.writing) none a b ch (subst (IsWriterHere t a) same c.requires.here) in
    let gone : record w { open_heap = c.replace-empty.new.dest } ≡ record w { open_heap = None } = λ i. record w { open_heap = c.replace-empty.ensures.after i } in
    subst (IsWriterHere t b) (sym gone) here
