use Rattle.std.proofs.Common.{◌≡◌, get_or, map, ap, sym, ◌∙◌, arith, rules}
use Rattle.std.proofs.lemmas.List.{length-map, get_or-map, get_or_read}
use Rattle.ooc_types.specs.declared.value.Value.TheVariants as value
use Rattle.row_image.specs.Texts.{NullValue}
use Rattle.rebase_pins.specs.declared.cell_read.CellRead.TheVariants.{Null}
use Rattle.rebase_pins.specs.Seen.{value_read}
use Rattle.row_sets.specs.SetRows.{kept_as}
use Rattle.row_sets.proofs.RowCells.{read_alike, fill_next}
use Rattle.row_cursors.proofs.values.fill_kept.Goals as goal

pub loop-column-preserved : goal.loop-column-preserved
loop-column-preserved c = (
  search rules,
  fill_next (λ k x. value_read x ≡ kept_as (get_or c.args.row.now k value.Null)) c.loop-column.into c.loop-column.column c.kept_in.result Null (let long = c.loop-column.invariant.0 in omega (arith, long, c.loop-column-test.true)) c.loop-column.invariant.1 (c.kept_in.ensures ∙ ap kept_as (get_or_read c.args.row.now c.loop-column.column c.index-row-column.result c.loop-column-test.true c.index-row-column.is value.Null)),
)

pub returns : goal.returns
returns c =
    let row = c.args.row.now in
    let long = c.loop-column.invariant.0 in
    read_alike value_read c.loop-column.into (map kept_as row) Null NullValue (long ∙ sym (length-map row kept_as))
    (λ k less. c.loop-column.invariant.1 k (omega (arith, less, long)) ∙ sym (get_or-map kept_as row k value.Null NullValue (omega (arith, less, long))))
