use Rattle.std.proofs.Common.{◌≡◌, List, arith, refl, sym, ap, subst, ◌∙◌, length, [], ◌∷◌, ◌+◌, ◌-◌, ◌%◌}
use Rattle.row_image.specs.declared.layout.CellKind.{CellKind}
use Rattle.row_image.specs.declared.cell.CellIn.TheVariants.{Long}
use Rattle.row_image.specs.Cells.{Meets}
use Rattle.row_image.specs.Image.{part_at, parts_of, part_count}
use Rattle.row_image.specs.Parts.{last_part}
use Rattle.row_image.specs.Rules.{text_limit}
use Rattle.row_image.proofs.PageLemmas.{page_4096, one_long, one_lies, limit_4096}
use Rattle.row_image.proofs.AcceptedLemmas.{sound_of}
use Rattle.row_image.proofs.PartLemmas.{parts_length, last_is}
use Rattle.row_image.proofs.WrittenAccepted.{parts_most}
use Rattle.row_image.proofs.tests.put_long.Goals as goal
use Rattle.row_image.proofs.tests.put_long.Goals.{else-shape-gt0-via-then-shape-gt0+else-is_elsewhere, else-shape-gt0-via-else-shape-gt0}

pub part_of-requires-clause-page : goal.part_of-requires-clause-page
part_of-requires-clause-page c = page_4096 _ c.requires.page

pub part_of-requires-clause-few : goal.part_of-requires-clause-few
part_of-requires-clause-few c = parts_most c.texts-layout.result c.args.image.now (sound_of c.texts-layout.result c.args.image.now c.in-Ok.ensures.accepted).parts

pub write_row-requires-clause-page : goal.write_row-requires-clause-page
write_row-requires-clause-page c = page_4096 _ c.requires.page

pub write_row-requires-clause-meets : goal.write_row-requires-clause-meets
write_row-requires-clause-meets c =
    let P : List CellKind → Type 0 = λ kinds. Meets kinds (text_limit (length c.args.image.now)) (Long (97 ∷ 98 ∷ 99 ∷ 100 ∷ []) 13 (c.args.base + 64) ∷ []) in
    subst P (sym c.texts-layout.ensures) (record { count = refl; each = λ column inside. one_long (text_limit (length c.args.image.now)) c.args.base column (limit_4096 _ c.requires.page) inside })

pub write_row-requires-clause-heap : goal.write_row-requires-clause-heap
write_row-requires-clause-heap c = record {
  is = record {
    number = c.requires.number;
    aligned = ap (λ page. c.args.base % page) c.requires.page ∙ c.requires.aligned;
    low = omega arith;
    known = λ some e.
        let image = c.args.image.now in
        let parts : c.in-Ok.shape.parts ≡ part_count image = ap (λ shape. shape.parts) c.in-Ok.ensures.shape in
        let last = last_is image (omega (arith, some, parts_length image)) in
        elim c.else-shape-gt0.branch [
          | else-shape-gt0-via-then-shape-gt0+else-is_elsewhere w ↦
              let entry : w.part_of.result ≡ last_part (parts_of image) = w.part_of.ensures.entry ∙ ap (λ n. part_at image (n - 1)) parts ∙ sym last in
              sym (ap (λ part. part.base) entry) ∙ w.is_elsewhere.ensures w.if-is_elsewhere.false (ap (λ part. part.heap) entry ∙ e)
          | else-shape-gt0-via-else-shape-gt0 w ↦ absurd (omega (arith, w.if-shape-gt0.false, parts, some, parts_length image))
        ];
  };
  each = λ column inside. one_lies (length c.args.image.now) c.args.number c.args.base column (omega arith) inside;
}
