use Rattle.std.proofs.Common.{◌≡◌, ℕ, ◌<◌, Some, None, length, sym, ◌∙◌, subst, ap, arith}
use Rattle.row_image.specs.declared.image.ImageKind.TheVariants.{Rows}
use Rattle.page_body.specs.Shows.{most_frames}
use Rattle.row_sets.specs.Holds.{nothing, an_open}
use Rattle.row_sets.specs.Changes.{Changes}
use Rattle.row_sets.specs.Writers.{Written, IsWriterHere, IsWhole, written_cells}
use Rattle.row_sets.proofs.Changed.{changes_open, changes_same}
use Rattle.row_sets.proofs.Stays.{writer_stays, nothing_has_no_pins}
use Rattle.row_image.specs.Image.{row_count}
use Rattle.row_image.proofs.FitLemmas.{row_fits_page}
use Rattle.row_sets.proofs.RowPuts.{rows_counted, layout_few}
use Rattle.row_sets.specs.Packed.{IsPacked, rows_in, Packs}
use Rattle.row_sets.proofs.Fills.{written, with_packed, rows_fill}
use Rattle.row_sets.proofs.Opened.{rows_cells, rows_writing, rows_here}
use Rattle.row_sets.proofs.opening.get_rows_room.Goals as goal

pub returns-in_err-page-in-None-clause-here : goal.returns-in_err-page-in-None-clause-here
returns-in_err-page-in-None-clause-here g c =
    let t = g.P.Pages.terms in
    let w = c.args.writer.now in
    let a = g.P.Pages.view c.args.pages.now in
    let b = g.P.Pages.view c.open.new.self in
    let s = c.in_err-page-in-None.ensures in
    let ch = changes_same t nothing a b s.refused s.steady s.lives s.pins in
    writer_stays t w nothing nothing a b ch nothing_has_no_pins nothing_has_no_pins
    (λ ends y. let m = c.requires.writing.differ ends y in omega (arith, m))
    (record { pins = λ y. let x = c.requires.here.owned.pins y in omega (arith, x); opens = λ y. let x = c.requires.here.owned.opens y in omega (arith, x) })
    c.requires.here

pub returns-in_ok-page-in-None-clause-writing : goal.returns-in_ok-page-in-None-clause-writing
returns-in_ok-page-in-None-clause-writing g c =
    let t = g.P.Pages.terms in
    let w = c.args.writer.now in
    let s = c.in_ok-page-in-None.ensures in
    let k = c.write_empty_rows.ensures in
    let p = c.write_empty_rows.new.page in
    let whole : IsWhole (Rows w.layout) w.page_bytes p = record {
      kind_is = k.page.kind ∙ s.kind;
      long = k.page.long ∙ s.page.long ∙ s.steady.page_bytes ∙ sym c.requires.here.page_bytes;
      number = subst (λ (n : ℕ). n < most_frames) (sym k.page.number) s.page.number;
      accepted = k.accepted;
    } in
    let none : row_count p.frame.bytes.items ≡ 0 = sym (rows_counted w.layout p.frame.bytes.items) ∙ ap length k.empty in
    let e : w ≡ record w { open_rows = None } = λ i. record w { open_rows = c.in-None.is i } in
    let writing : Written t (record w { open_rows = None }) = subst (Written t) e (written (Packs w) t w c.requires.writing) in
    with_packed t (record w { open_rows = Some p }) (rows_writing t w p writing whole none)
    (subst IsPacked (rows_fill w (Some p) (ap rows_in c.in-None.is ∙ sym none)) c.requires.writing.packs.packed)

pub returns-in_ok-page-in-None-clause-room : goal.returns-in_ok-page-in-None-clause-room
returns-in_ok-page-in-None-clause-room g c =
    let w = c.args.writer.now in
    let k = c.write_empty_rows.ensures in
    let p = c.write_empty_rows.new.page in
    let none : row_count p.frame.bytes.items ≡ 0 = sym (rows_counted w.layout p.frame.bytes.items) ∙ ap length k.empty in
    let few = layout_few w.kinds w.layout c.requires.writing.columns in
    let fits = row_fits_page w.layout w.page_bytes c.requires.writing.is_page few in
    omega (arith, none, fits)

pub returns-in_ok-page-in-None-clause-cells : goal.returns-in_ok-page-in-None-clause-cells
returns-in_ok-page-in-None-clause-cells g c =
    let t = g.P.Pages.terms in
    let w = c.args.writer.now in
    let s = c.in_ok-page-in-None.ensures in
    let k = c.write_empty_rows.ensures in
    let p = c.write_empty_rows.new.page in
    let whole : IsWhole (Rows w.layout) w.page_bytes p = record {
      kind_is = k.page.kind ∙ s.kind;
      long = k.page.long ∙ s.page.long ∙ s.steady.page_bytes ∙ sym c.requires.here.page_bytes;
      number = subst (λ (n : ℕ). n < most_frames) (sym k.page.number) s.page.number;
      accepted = k.accepted;
    } in
    let none : row_count p.frame.bytes.items ≡ 0 = sym (rows_counted w.layout p.frame.bytes.items) ∙ ap length k.empty in
    let e : w ≡ record w { open_rows = None } = λ i. record w { open_rows = c.in-None.is i } in
    let writing : Written t (record w { open_rows = None }) = subst (Written t) e (written (Packs w) t w c.requires.writing) in
    rows_cells t w p writing whole none ∙ ap (written_cells t) (sym e)

pub returns-in_ok-page-in-None-clause-here : goal.returns-in_ok-page-in-None-clause-here
returns-in_ok-page-in-None-clause-here g c =
    let t = g.P.Pages.terms in
    let w = c.args.writer.now in
    let a = g.P.Pages.view c.args.pages.now in
    let b = g.P.Pages.view c.open.new.self in
    let s = c.in_ok-page-in-None.ensures in
    let k = c.write_empty_rows.ensures in
    let p = c.write_empty_rows.new.page in
    let whole : IsWhole (Rows w.layout) w.page_bytes p = record {
      kind_is = k.page.kind ∙ s.kind;
      long = k.page.long ∙ s.page.long ∙ s.steady.page_bytes ∙ sym c.requires.here.page_bytes;
      number = subst (λ (n : ℕ). n < most_frames) (sym k.page.number) s.page.number;
      accepted = k.accepted;
    } in
    let ch = subst (λ (n : ℕ). Changes t nothing (an_open n) a b) (sym k.page.number) (changes_open t c.in_ok-page-in-None.page.frame.number a b s.counted s.steady s.lives s.pins) in
    let none : row_count p.frame.bytes.items ≡ 0 = sym (rows_counted w.layout p.frame.bytes.items) ∙ ap length k.empty in
    let e : w ≡ record w { open_rows = None } = λ i. record w { open_rows = c.in-None.is i } in
    let writing : Written t (record w { open_rows = None }) = subst (Written t) e (written (Packs w) t w c.requires.writing) in
    rows_here t w p writing whole none a b ch (subst (IsWriterHere t a) e c.requires.here)
