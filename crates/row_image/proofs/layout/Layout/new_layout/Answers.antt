use Rattle.std.proofs.Common.{arith, refl, ap, sym, ◌∙◌, length}
use Rattle.std.proofs.lemmas.Grind.{common_steps}
use Rattle.std.proofs.Math.Seq.{drop-append_seam}
use Rattle.std.proofs.lemmas.List.{drop-replicate, take_at}
use Rattle.row_image.specs.Layout.{has_texts}
use Rattle.row_image.specs.Padded.{offsets_of}
use Rattle.row_image.specs.declared.layout.CellKind.TheVariants.{Bit}
use Rattle.row_image.proofs.layout.Layout.new_layout.Goals as goal

pub invariant_of-result : goal.invariant_of-result
invariant_of-result c = record {
  most = c.requires.most;
  whole = grind (arith, common_steps);
  rest = rw c.copy_from_slice.ensures.after (drop-append_seam c.args.kinds.now _ ∙ drop-replicate (length c.args.kinds.now) 65 Bit);
  places = ap offsets_of (rw c.copy_from_slice.ensures.after (take_at c.args.kinds.now _ (length c.args.kinds.now) refl)) ∙ sym c.offsets.ensures;
  has = ap has_texts (rw c.copy_from_slice.ensures.after (take_at c.args.kinds.now _ (length c.args.kinds.now) refl)) ∙ sym c.has_texts.ensures;
}
