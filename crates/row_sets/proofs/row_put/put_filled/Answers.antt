use Rattle.std.proofs.Common.{[], ◌∷◌, ◌++◌, length, map, sym, ap, ◌∙◌, arith, length-append}
use Rattle.std.specs.Prelude.{if◌then◌else◌}
use Rattle.std.proofs.lemmas.Bool.{false≢true}
use Rattle.row_image.specs.declared.image.ImageKind.TheVariants.{Rows}
use Rattle.row_image.specs.Flat.{flat}
use Rattle.row_image.specs.Image.{row_count, rows_of, parts_of}
use Rattle.row_image.specs.Layout.{has_texts}
use Rattle.row_image.specs.Parts.{given_row, parts_with, begins_fifth}
use Rattle.row_image.specs.Rules.{text_limit}
use Rattle.row_image.specs.Texts.{text_rows}
use Rattle.rebase_pins.specs.Seen.{value_read}
use Rattle.row_sets.proofs.RowPuts.{row_meets, row_holds, row_wants, row_texts, rows_counted, put_wrote}
use Rattle.row_sets.proofs.row_put.put_filled.Goals as goal

pub write_row-requires-clause-meets : goal.write_row-requires-clause-meets
write_row-requires-clause-meets c =
    row_meets c.args.layout.now (text_limit (length c.args.image.now)) (length c.args.image.now) (parts_of c.args.image.now) (map value_read c.args.row.now) c.args.heap c.args.at c.fill_cells.new.into c.requires.fits c.fill_cells.ensures

pub write_row-requires-clause-heap : goal.write_row-requires-clause-heap
write_row-requires-clause-heap c =
    row_holds c.args.layout.now (text_limit (length c.args.image.now)) (length c.args.image.now) (parts_of c.args.image.now) (map value_read c.args.row.now) c.args.heap c.args.at c.fill_cells.new.into c.requires.fits c.fill_cells.ensures c.requires.place

pub unreachable-requires : goal.unreachable-requires
unreachable-requires c =
    let old = c.args.image.now in
    let vs = map value_read c.args.row.now in
    let w = c.write_row.ensures in
    let wants = row_wants c.args.layout.now (text_limit (length old)) (length old) (parts_of old) vs c.args.heap c.args.at c.fill_cells.new.into c.requires.fits c.fill_cells.ensures c.requires.place in
    let room = c.requires.room in
    put_wrote c.write_row.result c.in_default.not-Wrote
    (λ e. let full = w.page_full.0 e in absurd (omega (arith, full, room)))
    (λ e. let full = (w.parts_full.0 e).1 in false≢true (sym (ap (begins_fifth (parts_of old)) wants ∙ c.requires.parts) ∙ full))

pub returns : goal.returns
returns c =
    let kinds = c.args.layout.now in
    let old = c.args.image.now in
    let new = c.write_row.new.image in
    let vs = map value_read c.args.row.now in
    let cells = c.fill_cells.new.into in
    let limit = text_limit (length old) in
    let wants = row_wants kinds limit (length old) (parts_of old) vs c.args.heap c.args.at cells c.requires.fits c.fill_cells.ensures c.requires.place in
    let w = c.write_row.ensures in
    let is = c.in-Wrote.is in
    record {
      accepted = w.accepted;
      count = let r = ap length (w.rows is) in let a = length-append (rows_of kinds old) (given_row cells c.args.hash ∷ []) in omega (arith, r, a, rows_counted kinds new, rows_counted kinds old);
      texts = λ later. w.texts is later ∙ ap (λ x. text_rows kinds (flat (Rows kinds) old) later ++ x ∷ []) (row_texts kinds limit (length old) (parts_of old) vs c.args.heap c.args.at cells c.requires.fits c.fill_cells.ensures later c.args.hash);
      parts = w.parts is ∙ ap (λ h. if has_texts kinds then parts_with (parts_of old) (row_count old) h else parts_of old) wants;
    }
