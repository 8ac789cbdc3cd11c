use Rattle.std.proofs.Common.{◌∙◌, ◌+◌, ℕ, Option, Some, map, sym, ap, subst, refl, arith}
use Rattle.row_image.specs.Image.{parts_of}
use Rattle.row_image.specs.Parts.{begins_fifth}
use Rattle.row_image.specs.Rules.{text_limit}
use Rattle.rebase_pins.specs.Seen.{value_read}
use Rattle.page_body.specs.declared.open.OpenPage.{OpenPage}
use Rattle.row_sets.specs.Cells.{long_in}
use Rattle.row_sets.specs.Writers.{HeapHasRoom}
use Rattle.row_sets.specs.Put.{PutsRow, IsKnown, base_in, text_place}
use Rattle.row_sets.proofs.RowPuts.{columns_few}
use Rattle.row_sets.proofs.AddedWriter.{long_parts, long_cells, long_writing, open_pages}
use Rattle.row_sets.proofs.adding.add_long.Goals as goal

pub put_with_texts-requires-clause-few : goal.put_with_texts-requires-clause-few
put_with_texts-requires-clause-few g c = columns_few c.args.writer.now.kinds c.args.writer.now.layout (text_limit c.args.writer.now.page_bytes) c.args.row.now c.requires.writing.columns c.requires.fits

pub put_with_texts-requires-clause-known : goal.put_with_texts-requires-clause-known
put_with_texts-requires-clause-known g c =
    let parts = long_parts g.P.Pages.terms c.args.writer.now c.requires.writing c.in-Some-Some.rows c.in-Some-Some.heap (map value_read c.args.row.now) c.in-Some-Some.is-0 c.in-Some-Some.is-1 in
    subst (λ (n : ℕ). IsKnown (parts_of c.in-Some-Some.rows.frame.bytes.items) n (base_in c.in-Some-Some.heap)) (sym c.number_of-number.ensures.is) parts.known

pub put_with_texts-requires-clause-parts : goal.put_with_texts-requires-clause-parts
put_with_texts-requires-clause-parts g c =
    let parts = long_parts g.P.Pages.terms c.args.writer.now c.requires.writing c.in-Some-Some.rows c.in-Some-Some.heap (map value_read c.args.row.now) c.in-Some-Some.is-0 c.in-Some-Some.is-1 in
    ap (λ (n : ℕ). begins_fifth (parts_of c.in-Some-Some.rows.frame.bytes.items) (Some (n, base_in c.in-Some-Some.heap))) c.number_of-number.ensures.is ∙ parts.fifth

pub unreachable-requires : goal.unreachable-requires
unreachable-requires g c =
    let none = subst (λ (o : Option OpenPage). HeapHasRoom c.args.writer.now.page_bytes (long_in (map value_read c.args.row.now)) o) c.in_default-None.is-1 c.requires.room.heap in
    let is = c.requires.is_long in
    let some = c.requires.some in
    absurd (omega (arith, none, is, some))

pub returns-clause-rows : goal.returns-clause-rows
returns-clause-rows g c =
    let w = c.args.writer.now in
    let e = c.put_with_texts.ensures in
    let puts = subst (λ (n : ℕ). PutsRow w.layout c.in-Some-Some.rows.frame.bytes.items c.put_with_texts.new.rows.frame.bytes.items (map value_read c.args.row.now) c.args.hash (Some (n, base_in c.in-Some-Some.heap)) (text_place c.in-Some-Some.heap)) c.number_of-number.ensures.is e.row in
    long_cells g.P.Pages.terms w c.requires.writing c.in-Some-Some.rows c.in-Some-Some.heap (map value_read c.args.row.now) c.in-Some-Some.is-0 c.in-Some-Some.is-1 c.put_with_texts.new.rows c.put_with_texts.new.heap c.args.hash c.args.long c.max-writer.result c.requires.room c.requires.fits c.requires.is_long c.requires.some e.page e.heap_page puts e.accepted e.kept e.counted e.texts

pub returns-clause-writing : goal.returns-clause-writing
returns-clause-writing g c =
    let w = c.args.writer.now in
    let e = c.put_with_texts.ensures in
    let puts = subst (λ (n : ℕ). PutsRow w.layout c.in-Some-Some.rows.frame.bytes.items c.put_with_texts.new.rows.frame.bytes.items (map value_read c.args.row.now) c.args.hash (Some (n, base_in c.in-Some-Some.heap)) (text_place c.in-Some-Some.heap)) c.number_of-number.ensures.is e.row in
    long_writing g.P.Pages.terms w c.requires.writing c.in-Some-Some.rows c.in-Some-Some.heap (map value_read c.args.row.now) c.in-Some-Some.is-0 c.in-Some-Some.is-1 c.put_with_texts.new.rows c.put_with_texts.new.heap c.args.hash c.args.long c.max-writer.result c.requires.room c.requires.fits c.requires.is_long c.requires.some e.page e.heap_page puts e.accepted e.kept e.counted e.texts

pub returns-clause-place : goal.returns-clause-place
returns-clause-place g c = record {
  kinds = refl;
  layout = refl;
  page_bytes = refl;
  pages = refl;
  holding = open_pages g.P.Pages.terms c.args.writer.now c.in-Some-Some.rows c.in-Some-Some.heap c.put_with_texts.new.rows c.put_with_texts.new.heap (c.args.writer.now.rows + 1) (c.args.writer.now.long_bytes + c.args.long) c.max-writer.result c.in-Some-Some.is-0 c.in-Some-Some.is-1 c.put_with_texts.ensures.page.number c.put_with_texts.ensures.heap_page.number;
}
