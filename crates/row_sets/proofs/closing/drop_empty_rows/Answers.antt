use Rattle.std.proofs.Common.{◌≡◌, Option, Some, None, sym, ◌∙◌, subst, ap, arith, rules}
use Rattle.std.specs.Prelude.{IfSome}
use Rattle.row_image.specs.declared.image.ImageKind.TheVariants.{Rows}
use Rattle.row_image.specs.Image.{row_count}
use Rattle.page_body.specs.Shows.{IsOpen}
use Rattle.page_body.specs.declared.open.OpenPage.{OpenPage}
use Rattle.row_sets.specs.Holds.{nothing}
use Rattle.row_sets.specs.Changes.{Changes}
use Rattle.row_sets.specs.Given.{open_holding}
use Rattle.row_sets.specs.Writers.{Written, IsWriterHere, written_cells}
use Rattle.row_sets.proofs.Fresh.{is_open, rows_whole}
use Rattle.row_sets.proofs.Dropped.{emptied_cells, emptied_writing, emptied_here}
use Rattle.row_sets.proofs.closing.drop_empty_rows.Goals as goal

pub discard_open-requires : goal.discard_open-requires
discard_open-requires g c =
    let t = g.P.Pages.terms in
    let w = c.args.writer.now in
    let a = g.P.Pages.view c.args.pages.now in
    subst (λ o. IfSome o (IsOpen a)) (sym c.replace-empty.ensures.value)
    (is_open t (Rows w.layout) w.open_rows w.page_bytes a (rows_whole t w w.open_rows c.requires.writing.open_rows) c.requires.here.page_bytes (λ y. let m = c.requires.here.owned.opens y in omega (arith, m)))

pub returns-then-row_count-eq0-clause-cells : goal.returns-then-row_count-eq0-clause-cells
returns-then-row_count-eq0-clause-cells g c =
    let t = g.P.Pages.terms in
    let w = c.args.writer.now in
    let p = c.in-Some.page in
    let a = g.P.Pages.view c.args.pages.now in
    let b = g.P.Pages.view c.discard_open.new.pages in
    let e : w.open_rows ≡ Some p = c.in-Some.is in
    let h : w.open_heap ≡ None = c.requires.sealed in
    let same : w ≡ record w { open_rows = Some p; open_heap = None } = λ i. record w { open_rows = e i; open_heap = h i } in
    let none : row_count p.frame.bytes.items ≡ 0 = search rules in
    let writing : Written t (record w { open_rows = Some p; open_heap = None }) = subst (Written t) same c.requires.writing in
    let gone : record w { open_rows = c.replace-empty.new.dest } ≡ record w { open_rows = None; open_heap = None } = λ i. record w { open_rows = c.replace-empty.ensures.after i; open_heap = h i } in
    ap (written_cells t) gone ∙ emptied_cells t w p writing none ∙ ap (written_cells t) (sym same)

pub returns-then-row_count-eq0-clause-writing : goal.returns-then-row_count-eq0-clause-writing
returns-then-row_count-eq0-clause-writing g c =
    let t = g.P.Pages.terms in
    let w = c.args.writer.now in
    let p = c.in-Some.page in
    let a = g.P.Pages.view c.args.pages.now in
    let b = g.P.Pages.view c.discard_open.new.pages in
    let e : w.open_rows ≡ Some p = c.in-Some.is in
    let h : w.open_heap ≡ None = c.requires.sealed in
    let same : w ≡ record w { open_rows = Some p; open_heap = None } = λ i. record w { open_rows = e i; open_heap = h i } in
    let none : row_count p.frame.bytes.items ≡ 0 = search rules in
    let writing : Written t (record w { open_rows = Some p; open_heap = None }) = subst (Written t) same c.requires.writing in
    let gone : record w { open_rows = c.replace-empty.new.dest } ≡ record w { open_rows = None; open_heap = None } = λ i. record w { open_rows = c.replace-empty.ensures.after i; open_heap = h i } in
    subst (Written t) (sym gone) (emptied_writing t w p writing none)

pub returns-then-row_count-eq0-clause-here : goal.returns-then-row_count-eq0-clause-here
returns-then-row_count-eq0-clause-here g c =
    let t = g.P.Pages.terms in
    let w = c.args.writer.now in
    let p = c.in-Some.page in
    let a = g.P.Pages.view c.args.pages.now in
    let b = g.P.Pages.view c.discard_open.new.pages in
    let e : w.open_rows ≡ Some p = c.in-Some.is in
    let h : w.open_heap ≡ None = c.requires.sealed in
    let same : w ≡ record w { open_rows = Some p; open_heap = None } = λ i. record w { open_rows = e i; open_heap = h i } in
    let none : row_count p.frame.bytes.items ≡ 0 = search rules in
    let writing : Written t (record w { open_rows = Some p; open_heap = None }) = subst (Written t) same c.requires.writing in
    let gone : record w { open_rows = c.replace-empty.new.dest } ≡ record w { open_rows = None; open_heap = None } = λ i. record w { open_rows = c.replace-empty.ensures.after i; open_heap = h i } in
    let ch = subst (λ (o : Option OpenPage). Changes t (open_holding o) nothing a b) (c.replace-empty.ensures.value ∙ e) c.discard_open.ensures in
    subst (IsWriterHere t b) (sym gone) (emptied_here t w p writing none a b ch (subst (IsWriterHere t a) same c.requires.here))
