use Rattle.std.proofs.Common.{◌≡◌, ◌<◌, Some, None, sym, ◌∙◌, subst, ap, arith}
use Rattle.std.specs.Prelude.{IfSome}
use Rattle.row_image.specs.declared.image.ImageKind.TheVariants.{Heap}
use Rattle.row_image.specs.Flat.{flat}
use Rattle.row_image.proofs.FlatLemmas.{heap_flat}
use Rattle.page_body.specs.Shows.{IsOpen}
use Rattle.row_sets.specs.Holds.{nothing}
use Rattle.row_sets.specs.Changes.{Changes}
use Rattle.row_sets.specs.Closing.{with_sealed}
use Rattle.row_sets.specs.Writers.{Written, IsWriterHere, writer_holding, written_cells}
use Rattle.row_sets.proofs.Changed.{changes_seal, changes_same}
use Rattle.row_sets.proofs.Stays.{writer_stays, nothing_has_no_pins}
use Rattle.string_heap.specs.Heaps.{used}
use Rattle.row_sets.proofs.AddedWriter.{is_used, used_bytes}
use Rattle.row_sets.proofs.Fresh.{is_open}
use Rattle.row_sets.proofs.Sealing.{sealed_cells, sealed_writing}
use Rattle.row_sets.proofs.SealedHere.{heap_differ, heap_here, heap_changes}
use Rattle.row_sets.proofs.closing.seal_heap.Goals as goal

pub seal-requires-clause-own : goal.seal-requires-clause-own
seal-requires-clause-own g c =
    let t = g.P.Pages.terms in
    let w = c.args.writer.now in
    let e : w.open_heap ≡ Some c.in-Some.page = sym c.replace.ensures.value ∙ c.in-Some.is in
    subst (λ o. IfSome o (IsOpen (g.P.Pages.view c.args.pages.now))) e
    (is_open t Heap w.open_heap w.page_bytes (g.P.Pages.view c.args.pages.now) c.requires.writing.open_heap c.requires.here.page_bytes (λ y. let m = c.requires.here.owned.opens y in omega (arith, m)))

pub returns-in-Ok-clause-cells : goal.returns-in-Ok-clause-cells
returns-in-Ok-clause-cells g c =
    let t = g.P.Pages.terms in
    let w = c.args.writer.now in
    let p = c.in-Some.page in
    let e : w.open_heap ≡ Some p = sym c.replace.ensures.value ∙ c.in-Some.is in
    let same : w ≡ record w { open_heap = Some p } = λ i. record w { open_heap = e i } in
    let writing : Written t (record w { open_heap = Some p }) = subst (Written t) same c.requires.writing in
    let whole = writing.open_heap in
    let content : t.content c.in-Ok.sealed ≡ p.frame.bytes.items = c.in-Ok.ensures.content ∙ ap (λ k. flat k p.frame.bytes.items) whole.kind_is ∙ heap_flat p.frame.bytes.items in
    let some : 0 < used p.frame.bytes.items = subst (λ o. IfSome o (λ q. 0 < used q.frame.bytes.items)) e c.requires.used in
    let is = c.keep_heap.ensures ∙ ap (λ o. with_sealed (record w { open_heap = o }) c.in-Ok.sealed) c.replace.ensures.after in
    ap (written_cells t) is ∙ sealed_cells t w p c.in-Ok.sealed writing (content ∙ sym (used_bytes p some)) ∙ ap (written_cells t) (sym same)

pub returns-in-Ok-clause-writing : goal.returns-in-Ok-clause-writing
returns-in-Ok-clause-writing g c =
    let t = g.P.Pages.terms in
    let w = c.args.writer.now in
    let p = c.in-Some.page in
    let a = g.P.Pages.view c.args.pages.now in
    let b = g.P.Pages.view c.seal.new.self in
    let e : w.open_heap ≡ Some p = sym c.replace.ensures.value ∙ c.in-Some.is in
    let same : w ≡ record w { open_heap = Some p } = λ i. record w { open_heap = e i } in
    let writing : Written t (record w { open_heap = Some p }) = subst (Written t) same c.requires.writing in
    let here : IsWriterHere t a (record w { open_heap = Some p }) = subst (IsWriterHere t a) same c.requires.here in
    let whole = writing.open_heap in
    let s = c.in-Ok.ensures in
    let content : t.content c.in-Ok.sealed ≡ p.frame.bytes.items = s.content ∙ ap (λ k. flat k p.frame.bytes.items) whole.kind_is ∙ heap_flat p.frame.bytes.items in
    let ch = changes_seal t p.frame.number c.in-Ok.sealed a b s.counted s.new s.steady s.lives s.pins in
    let differ = heap_differ t w p c.in-Ok.sealed a b ch s.new.live s.new.unpinned writing here in
    let is = c.keep_heap.ensures ∙ ap (λ o. with_sealed (record w { open_heap = o }) c.in-Ok.sealed) c.replace.ensures.after in
    let some : 0 < used p.frame.bytes.items = subst (λ o. IfSome o (λ q. 0 < used q.frame.bytes.items)) e c.requires.used in
    subst (Written t) (sym is) (sealed_writing t w p c.in-Ok.sealed writing (is_used p some) (content ∙ sym (used_bytes p some)) (s.kind ∙ whole.kind_is) differ)

pub returns-in-Ok-clause-here : goal.returns-in-Ok-clause-here
returns-in-Ok-clause-here g c =
    let t = g.P.Pages.terms in
    let w = c.args.writer.now in
    let p = c.in-Some.page in
    let a = g.P.Pages.view c.args.pages.now in
    let b = g.P.Pages.view c.seal.new.self in
    let e : w.open_heap ≡ Some p = sym c.replace.ensures.value ∙ c.in-Some.is in
    let same : w ≡ record w { open_heap = Some p } = λ i. record w { open_heap = e i } in
    let writing : Written t (record w { open_heap = Some p }) = subst (Written t) same c.requires.writing in
    let here : IsWriterHere t a (record w { open_heap = Some p }) = subst (IsWriterHere t a) same c.requires.here in
    let s = c.in-Ok.ensures in
    let ch = changes_seal t p.frame.number c.in-Ok.sealed a b s.counted s.new s.steady s.lives s.pins in
    let is = c.keep_heap.ensures ∙ ap (λ o. with_sealed (record w { open_heap = o }) c.in-Ok.sealed) c.replace.ensures.after in
    subst (IsWriterHere t b) (sym is) (heap_here t w p c.in-Ok.sealed a b ch s.new.live s.new.unpinned writing here)

pub returns-in-Ok-clause-changes : goal.returns-in-Ok-clause-changes
returns-in-Ok-clause-changes g c =
    let t = g.P.Pages.terms in
    let w = c.args.writer.now in
    let p = c.in-Some.page in
    let a = g.P.Pages.view c.args.pages.now in
    let b = g.P.Pages.view c.seal.new.self in
    let e : w.open_heap ≡ Some p = sym c.replace.ensures.value ∙ c.in-Some.is in
    let same : w ≡ record w { open_heap = Some p } = λ i. record w { open_heap = e i } in
    let writing : Written t (record w { open_heap = Some p }) = subst (Written t) same c.requires.writing in
    let here : IsWriterHere t a (record w { open_heap = Some p }) = subst (IsWriterHere t a) same c.requires.here in
    let s = c.in-Ok.ensures in
    let ch = changes_seal t p.frame.number c.in-Ok.sealed a b s.counted s.new s.steady s.lives s.pins in
    let all = heap_changes t w p c.in-Ok.sealed a b ch s.new.live s.new.unpinned writing here in
    let is = c.keep_heap.ensures ∙ ap (λ o. with_sealed (record w { open_heap = o }) c.in-Ok.sealed) c.replace.ensures.after in
    subst (λ v. Changes t (writer_holding t w) (writer_holding t v) a b) (sym is)
    (subst (λ v. Changes t (writer_holding t v) (writer_holding t (with_sealed (record w { open_heap = None }) c.in-Ok.sealed)) a b) (sym same) all)

pub returns-in-Err-clause-here : goal.returns-in-Err-clause-here
returns-in-Err-clause-here g c =
    let t = g.P.Pages.terms in
    let w = c.args.writer.now in
    let p = c.in-Some.page in
    let a = g.P.Pages.view c.args.pages.now in
    let b = g.P.Pages.view c.seal.new.self in
    let e : w.open_heap ≡ Some c.in-Err.page = sym c.replace.ensures.value ∙ c.in-Some.is ∙ ap Some (sym c.in-Err.ensures.back) in
    let same : w ≡ record w { open_heap = Some c.in-Err.page } = λ i. record w { open_heap = e i } in
    let s = c.in-Err.ensures in
    let ch = changes_same t nothing a b s.refused s.steady s.lives s.pins in
    subst (IsWriterHere t b) same
    (writer_stays t w nothing nothing a b ch nothing_has_no_pins nothing_has_no_pins
    (λ ends y. let m = c.requires.writing.differ ends y in omega (arith, m))
    (record { pins = λ y. let x = c.requires.here.owned.pins y in omega (arith, x); opens = λ y. let x = c.requires.here.owned.opens y in omega (arith, x) })
    c.requires.here)
