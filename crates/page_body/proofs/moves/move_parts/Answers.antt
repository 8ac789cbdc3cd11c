use Rattle.std.proofs.Common.{refl, arith}
use Rattle.row_image.proofs.Laws.{accepted_parts}
use Rattle.page_body.proofs.moves.move_parts.Goals as goal

pub loop-part-init : goal.loop-part-init
loop-part-init c = record {
  accepted = c.requires.accepted;
  same = refl;
  count = refl;
  few = accepted_parts c.args.layout.now c.args.image.now c.requires.accepted;
  done = λ k below. absurd (omega (arith, below));
}
