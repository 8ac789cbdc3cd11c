use Rattle.std.proofs.Common.{◌≡◌, ◌+◌, List, cond, true, false, get_or, arith, ap, sym, subst, ◌∙◌, []}
use Rattle.row_image.specs.declared.layout.CellKind.TheVariants.{Bit}
use Rattle.row_image.specs.Layout.{offset_of, row_place, cell_width}
use Rattle.row_image.specs.Image.{is_null, part_for}
use Rattle.row_image.specs.Rules.{Rule, first_damage, kind_rules, cell_rules, Judges}
use Rattle.row_image.proofs.LayoutLemmas.{width_of_least, mask_holds, cell_ends}
use Rattle.row_image.proofs.check.check_cell.Goals as goal

pub is_null-requires : goal.is_null-requires
is_null-requires c = omega (arith, c.requires.room, c.row_place-at.ensures, width_of_least c.args.layout.now, mask_holds c.args.layout.now c.args.column c.requires.column)

pub overflow_add-at : goal.overflow_add-at
overflow_add-at c = omega (arith, c.requires.room, c.row_place-at.ensures, c.offset.ensures, cell_ends c.args.layout.now c.args.column c.requires.column)

pub check_kind-requires-clause-room : goal.check_kind-requires-clause-room
check_kind-requires-clause-room c = omega (arith, c.requires.room, c.row_place-at.ensures, c.offset.ensures, cell_ends c.args.layout.now c.args.column c.requires.column, ap cell_width c.kind.ensures)

pub returns-then-is_null : goal.returns-then-is_null
unfolding cell_rules
returns-then-is_null c =
    let null : is_null c.args.image.now (row_place c.args.layout.now c.args.row) c.args.column ≡ true = ap (λ at. is_null c.args.image.now at c.args.column) (sym c.row_place-at.ensures) ∙ sym c.is_null.ensures ∙ c.if-is_null.true in
    ap (λ b. first_damage (cond b [] (kind_rules (get_or c.args.layout.now c.args.column Bit) c.args.image.now (row_place c.args.layout.now c.args.row + offset_of c.args.layout.now c.args.column) (part_for c.args.image.now c.args.row)))) null

pub returns : goal.returns
unfolding cell_rules
returns c =
    let kind = get_or c.args.layout.now c.args.column Bit in
    let place = row_place c.args.layout.now c.args.row + offset_of c.args.layout.now c.args.column in
    let part = part_for c.args.image.now c.args.row in
    let null : is_null c.args.image.now (row_place c.args.layout.now c.args.row) c.args.column ≡ false = ap (λ at. is_null c.args.image.now at c.args.column) (sym c.row_place-at.ensures) ∙ sym c.is_null.ensures ∙ c.if-is_null.false in
    let P : List Rule → Type 0 = λ rules. Judges rules c.check_kind.result in
    subst P (ap (λ k. kind_rules k c.args.image.now (c.row_place-at.result + c.offset.result) part) c.kind.ensures
    ∙ ap (λ at. kind_rules kind c.args.image.now at part) (omega (arith, c.row_place-at.ensures, c.offset.ensures))
    ∙ sym (ap (λ b. cond b [] (kind_rules kind c.args.image.now place part)) null)) c.check_kind.ensures
