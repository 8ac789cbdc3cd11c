use Rattle.std.proofs.Common.{◌≢◌, ◌+◌, ◌<◌, length, arith, refl, ◌∙◌, below_more, get_or-set_other, get_or-set_same, length-set}
use Rattle.std.proofs.lemmas.List.FromFn.{fill_by_all}
use Rattle.row_image.specs.Layout.{mask_bytes, offset_of}
use Rattle.row_image.specs.Padded.{offsets_of}
use Rattle.row_image.proofs.LayoutLemmas.{offset_of_next, offset_of_past, offset_of_most, width_of_most}
use Rattle.row_image.proofs.layout.offsets.Goals as goal
use Rattle.row_image.proofs.layout.offsets.Goals.{then-column-kinds, else-column-kinds}

pub loop-column-init : goal.loop-column-init
unfolding offset_of mask_bytes
loop-column-init c = (refl, omega arith, λ k h. absurd (omega arith))

pub overflow_add-at-then-column-kinds : goal.overflow_add-at-then-column-kinds
overflow_add-at-then-column-kinds c =
    let inside : c.loop-column.column < length c.args.kinds.now = omega arith in
    omega (arith, c.loop-column.invariant.1, c.width-at.ensures, offset_of_next c.args.kinds.now c.loop-column.column inside, offset_of_most c.args.kinds.now (c.loop-column.column + 1), width_of_most c.args.kinds.now c.requires)

pub loop-column-preserved : goal.loop-column-preserved
loop-column-preserved c = (
  length-set c.loop-column.places c.loop-column.column c.loop-column.at ∙ c.loop-column.invariant.0,
  elim c.if-column-kinds.branch [
    | then-column-kinds w ↦ w.at-is ∙ omega (arith, c.loop-column.invariant.1, w.width-at.ensures, offset_of_next c.args.kinds.now c.loop-column.column w.if-column-kinds.true)
    | else-column-kinds w ↦ w.at-is ∙ omega (arith, c.loop-column.invariant.1, offset_of_past c.args.kinds.now c.loop-column.column w.if-column-kinds.false, offset_of_past c.args.kinds.now (c.loop-column.column + 1) (omega (arith, w.if-column-kinds.false)))
  ],
  below_more _ _
      (λ k h. let ne : k ≢ c.loop-column.column = omega arith in rw get_or-set_other (c.loop-column.invariant.2 k h))
      (let lt : c.loop-column.column < length c.loop-column.places = omega (arith, c.loop-column.invariant.0) in rw get_or-set_same (c.loop-column.invariant.1)),
)

pub returns : goal.returns
unfolding offsets_of
returns c = fill_by_all (λ column. offset_of c.args.kinds.now column) c.loop-column.places 66 0 c.loop-column.invariant.0 (λ k h. c.loop-column.invariant.2 k (omega arith))
