use Rattle.std.proofs.Common.{◌≤◌, ◌<◌, ◌+◌, List, length, map, take, arith, ap, sym, ◌∙◌, take_all}
use Rattle.std.proofs.lemmas.List.{length-map, get_or-map, map-set}
use Rattle.csv_load.specs.FieldReads.{value_in}
use Rattle.csv_load.specs.declared.field_read.FieldRead.TheVariants as field
use Rattle.ooc_types.specs.declared.value.Value.TheVariants as sql
use Rattle.rebase_pins.specs.Seen.{value_read}
use Rattle.row_image.specs.Texts.{CellValue, NullValue}
use Rattle.row_sets.specs.SetRows.{kept_as}
use Rattle.csv_tables.proofs.RowForms.{fill-more, set-long}
use Rattle.csv_tables.proofs.cells.fill_cells.Goals as goal

pub loop-column-preserved : goal.loop-column-preserved
loop-column-preserved c =
    let fields = c.args.fields.now in
    let into = c.loop-column.into in
    let i = c.loop-column.column in
    let values = map value_in fields in
    let all : List CellValue = map kept_as values in
    let cell = c.cell_of.result in
    let so_far = c.loop-column.invariant in
    let long = length-map fields value_in in
    let room : i < length (map value_read into) = omega (arith, length-map into value_read, so_far.0, c.loop-column-test.true) in
    let inside : i < length values = omega (arith, long, c.loop-column-test.true) in
    let within : i < length all = omega (arith, length-map values kept_as, inside) in (
      set-long into i cell ∙ so_far.0,
      ap (take (i + 1)) (map-set value_read into i cell)
          ∙ fill-more (map value_read into) all i (value_read cell) NullValue room within
          (c.cell_of.ensures ∙ ap kept_as (sym (get_or-map value_in fields i field.Null sql.Null c.loop-column-test.true)) ∙ sym (get_or-map kept_as values i sql.Null NullValue inside)) so_far.1,
    )

pub returns : goal.returns
returns c =
    let fields = c.args.fields.now in
    let into = c.loop-column.into in
    let i = c.loop-column.column in
    let values = map value_in fields in
    let all : List CellValue = map kept_as values in
    let so_far = c.loop-column.invariant in
    let high : length (map value_read into) ≤ i = omega (arith, length-map into value_read, so_far.0, c.loop-column-test.false) in
    let over : length all ≤ i = omega (arith, length-map values kept_as, length-map fields value_in, c.loop-column-test.false) in
    sym (take_all i (map value_read into) high) ∙ so_far.1 ∙ take_all i all over
