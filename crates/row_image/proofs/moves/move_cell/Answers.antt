use Rattle.std.proofs.Common.{arith, ap, sym, ◌∙◌}
use Rattle.row_image.specs.Layout.{cell_width}
use Rattle.row_image.proofs.LayoutLemmas.{offset_of_next}
use Rattle.row_image.proofs.MoveLemmas.{long_kind, long_ends}
use Rattle.row_image.proofs.moves.move_cell.Goals as goal

pub overflow_add-place : goal.overflow_add-place
overflow_add-place c = omega (arith, c.requires.room, c.offset.ensures, long_ends c.args.layout.now c.args.image.now c.args.at c.args.column (sym c.is_long.ensures ∙ c.if-is_long.true) c.requires.column)

pub overflow_add-place-then-is_long : goal.overflow_add-place-then-is_long
overflow_add-place-then-is_long c = omega (arith, c.requires.room, c.offset.ensures, long_ends c.args.layout.now c.args.image.now c.args.at c.args.column (sym c.is_long.ensures ∙ c.if-is_long.true) c.requires.column)

pub long_at-address-requires : goal.long_at-address-requires
long_at-address-requires c = omega (arith, c.requires.room, c.offset.ensures, long_ends c.args.layout.now c.args.image.now c.args.at c.args.column (sym c.is_long.ensures ∙ c.if-is_long.true) c.requires.column)

pub set_long-requires : goal.set_long-requires
set_long-requires c = omega (arith, c.requires.room, c.offset.ensures, long_ends c.args.layout.now c.args.image.now c.args.at c.args.column (sym c.is_long.ensures ∙ c.if-is_long.true) c.requires.column)

pub returns-then-is_long-clause-others : goal.returns-then-is_long-clause-others
returns-then-is_long-clause-others c =
    let kinds = c.args.layout.now in
    let wide = ap cell_width (long_kind kinds c.args.image.now c.args.at c.args.column (sym c.is_long.ensures ∙ c.if-is_long.true)) in
    record {
      before = λ k below. c.set_long.ensures.others.before k (omega (arith, c.offset.ensures));
      after = λ k past. c.set_long.ensures.others.after k (omega (arith, c.offset.ensures, offset_of_next kinds c.args.column c.requires.column, wide));
    }
