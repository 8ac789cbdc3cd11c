use Rattle.std.proofs.Common.{◌≡◌, ℕ, ◌<◌, Some, None, sym, ap, ◌∙◌, subst, arith}
use Rattle.row_image.specs.declared.image.ImageKind.TheVariants.{Heap}
use Rattle.page_body.specs.Shows.{most_frames}
use Rattle.row_sets.specs.Holds.{nothing, an_open}
use Rattle.row_sets.specs.Changes.{Changes}
use Rattle.row_sets.specs.Writers.{Written, IsWriterHere, IsWhole}
use Rattle.row_sets.proofs.Changed.{changes_open, changes_same}
use Rattle.row_sets.proofs.Stays.{writer_stays, nothing_has_no_pins}
use Rattle.string_heap.specs.Heaps.{used}
use Rattle.row_sets.specs.Packed.{IsPacked, used_in, Packs}
use Rattle.row_sets.proofs.Fills.{written, with_packed, heap_fill}
use Rattle.row_sets.proofs.Opened.{heap_writing, heap_here}
use Rattle.row_sets.proofs.opening.open_heap.Goals as goal

pub returns-in_err-page-clause-here : goal.returns-in_err-page-clause-here
returns-in_err-page-clause-here g c =
    let t = g.P.Pages.terms in
    let w = c.args.writer.now in
    let a = g.P.Pages.view c.args.pages.now in
    let b = g.P.Pages.view c.open.new.self in
    let s = c.in_err-page.ensures in
    let ch = changes_same t nothing a b s.refused s.steady s.lives s.pins in
    writer_stays t w nothing nothing a b ch nothing_has_no_pins nothing_has_no_pins
    (λ ends y. let m = c.requires.writing.differ ends y in omega (arith, m))
    (record { pins = λ y. let x = c.requires.here.owned.pins y in omega (arith, x); opens = λ y. let x = c.requires.here.owned.opens y in omega (arith, x) })
    c.requires.here

pub returns-clause-writing : goal.returns-clause-writing
returns-clause-writing g c =
    let t = g.P.Pages.terms in
    let w = c.args.writer.now in
    let s = c.in_ok-page.ensures in
    let k = c.write_empty_heap.ensures in
    let p = c.write_empty_heap.new.page in
    let whole : IsWhole Heap w.page_bytes p = record {
      kind_is = k.page.kind ∙ s.kind;
      long = k.page.long ∙ s.page.long ∙ s.steady.page_bytes ∙ sym c.requires.here.page_bytes;
      number = subst (λ (n : ℕ). n < most_frames) (sym k.page.number) s.page.number;
      accepted = k.accepted;
    } in
    let none : used p.frame.bytes.items ≡ 0 = k.empty in
    let e : w ≡ record w { open_heap = None } = λ i. record w { open_heap = c.requires.none i } in
    let writing : Written t (record w { open_heap = None }) = subst (Written t) e (written (Packs w) t w c.requires.writing) in
    with_packed t (record w { open_heap = Some p }) (heap_writing t w p writing whole none c.requires.rows c.requires.few)
    (subst IsPacked (heap_fill w (Some p) (ap used_in c.requires.none ∙ sym none)) c.requires.writing.packs.packed)

pub returns-clause-here : goal.returns-clause-here
returns-clause-here g c =
    let t = g.P.Pages.terms in
    let w = c.args.writer.now in
    let a = g.P.Pages.view c.args.pages.now in
    let b = g.P.Pages.view c.open.new.self in
    let s = c.in_ok-page.ensures in
    let k = c.write_empty_heap.ensures in
    let p = c.write_empty_heap.new.page in
    let whole : IsWhole Heap w.page_bytes p = record {
      kind_is = k.page.kind ∙ s.kind;
      long = k.page.long ∙ s.page.long ∙ s.steady.page_bytes ∙ sym c.requires.here.page_bytes;
      number = subst (λ (n : ℕ). n < most_frames) (sym k.page.number) s.page.number;
      accepted = k.accepted;
    } in
    let ch = subst (λ (n : ℕ). Changes t nothing (an_open n) a b) (sym k.page.number) (changes_open t c.in_ok-page.page.frame.number a b s.counted s.steady s.lives s.pins) in
    let none : used p.frame.bytes.items ≡ 0 = k.empty in
    let e : w ≡ record w { open_heap = None } = λ i. record w { open_heap = c.requires.none i } in
    let writing : Written t (record w { open_heap = None }) = subst (Written t) e (written (Packs w) t w c.requires.writing) in
    heap_here t w p writing whole none c.requires.rows c.requires.few a b ch (subst (IsWriterHere t a) e c.requires.here)
