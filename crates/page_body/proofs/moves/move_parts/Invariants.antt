use Rattle.std.proofs.Common.{◌≡◌, ◌≢◌, ℕ, ◌<◌, ◌≤◌, slice_index}
use Rattle.row_image.specs.declared.image.ImageKind.TheVariants.{Rows}
use Rattle.row_image.specs.Image.{part_count, part_at, no_heap}
use Rattle.row_image.specs.Flat.{flat}
use Rattle.row_image.specs.Rules.{IsAccepted}
use Rattle.page_body.proofs.moves.move_parts.Given as goal

abbrev pub invariant-loop-part : goal.invariant-loop-part
invariant-loop-part l = record {
  accepted : IsAccepted (Rows l.layout) l.image;
  same : flat (Rows l.layout) l.image ≡ flat (Rows l.layout) l.initial.image;
  count : part_count l.image ≡ part_count l.initial.image;
  few : part_count l.image ≤ 4;
  done : (k : ℕ) → k < l.part → (part_at l.image k).heap ≢ no_heap → (part_at l.image k).base ≡ slice_index l.bases k;
}
