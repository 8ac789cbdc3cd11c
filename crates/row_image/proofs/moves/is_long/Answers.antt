use Rattle.std.proofs.Common.{◌+◌, not, get_or, arith, ap, sym, ◌∙◌}
use Rattle.std.specs.Prelude.{◌&&◌, nat_lt}
use Rattle.std.proofs.lemmas.Bool.{and_left, and_right}
use Rattle.row_image.specs.declared.layout.CellKind.TheVariants.{Bit}
use Rattle.row_image.specs.Bytes.{number_at}
use Rattle.row_image.specs.Layout.{cell_width, is_text, offset_of}
use Rattle.row_image.specs.Image.{is_null}
use Rattle.row_image.specs.Flat.{is_long_in}
use Rattle.row_image.proofs.LayoutLemmas.{width_of_least, mask_holds, cell_ends}
use Rattle.row_image.proofs.MoveLemmas.{text_kind}
use Rattle.row_image.proofs.moves.is_long.Goals as goal
use Rattle.row_image.proofs.moves.is_long.Goals.{then-is_null-via-then-is_null, then-is_null-via-else-is_null+then-not-is_text}

pub is_null-requires : goal.is_null-requires
is_null-requires c = omega (arith, c.requires.room, width_of_least c.args.layout.now, mask_holds c.args.layout.now c.args.column c.requires.column)

pub overflow_add-at : goal.overflow_add-at
overflow_add-at c = omega (arith, c.requires.room, c.offset.ensures, cell_ends c.args.layout.now c.args.column c.requires.column)

pub word_at-requires : goal.word_at-requires
word_at-requires c =
    let text = text_kind c.kind.result (sym c.is_text.ensures ∙ c.if-not-is_text.false) in
    omega (arith, c.requires.room, c.offset.ensures, cell_ends c.args.layout.now c.args.column c.requires.column, ap cell_width (sym c.kind.ensures ∙ text))

pub returns-then-is_null : goal.returns-then-is_null
unfolding is_long_in
returns-then-is_null c =
    let kind = get_or c.args.layout.now c.args.column Bit in
    let size = nat_lt 12 (number_at c.args.image.now (c.args.at + offset_of c.args.layout.now c.args.column) 4) in
    elim c.then-is_null.branch [
      | then-is_null-via-then-is_null w ↦ sym (and_left (not (is_null c.args.image.now c.args.at c.args.column)) (is_text kind && size) (ap not (sym c.is_null.ensures ∙ w.if-is_null.true)))
      | then-is_null-via-else-is_null+then-not-is_text w ↦ sym (and_right (not (is_null c.args.image.now c.args.at c.args.column)) (is_text kind && size) (and_left (is_text kind) size (ap is_text (sym w.kind.ensures) ∙ sym w.is_text.ensures ∙ w.if-not-is_text.true)))
    ]

pub returns : goal.returns
unfolding is_long_in
returns c =
    let kind = get_or c.args.layout.now c.args.column Bit in
    let size = nat_lt 12 (number_at c.args.image.now (c.args.at + offset_of c.args.layout.now c.args.column) 4) in
    ap (nat_lt 12) (c.word_at.ensures ∙ ap (λ at. number_at c.args.image.now at 4) (omega (arith, c.offset.ensures)))
    ∙ sym (ap (λ b. b && size) (ap is_text (sym c.kind.ensures) ∙ sym c.is_text.ensures ∙ c.if-not-is_text.false))
    ∙ sym (ap (λ b. not b && (is_text kind && size)) (sym c.is_null.ensures ∙ c.if-is_null.false))
