use Rattle.std.proofs.Common.{◌≤◌, ◌<◌, List, length, arith, sym, ◌∙◌, take_all}
use Rattle.std.proofs.lemmas.List.{length-map, get_or-map}
use Rattle.ooc_types.specs.declared.schema.Column.{Column}
use Rattle.ooc_types.specs.declared.schema.SqlType.{SqlType}
use Rattle.csv_tables.specs.Stored.{kinds_of}
use Rattle.csv_tables.proofs.RowForms.{fill-more, set-long}
use Rattle.csv_tables.proofs.load.fill_kinds.Goals as goal

pub loop-column-preserved : goal.loop-column-preserved
loop-column-preserved c =
    let columns = c.args.columns.now in
    let into = c.loop-column.into in
    let i = c.loop-column.column in
    let all : List SqlType = kinds_of columns in
    let so_far = c.loop-column.invariant in
    let room : i < length into = omega (arith, so_far.0, c.loop-column-test.true) in
    let within : i < length all = omega (arith, length-map columns (λ (column : Column). column.kind), c.loop-column-test.true) in
    let first = c.index-columns-column.result in (
      set-long into i _ ∙ so_far.0,
      fill-more into all i _ first.kind room within (sym (get_or-map (λ (column : Column). column.kind) columns i first first.kind c.loop-column-test.true)) so_far.1,
    )

pub returns : goal.returns
returns c =
    let columns = c.args.columns.now in
    let into = c.loop-column.into in
    let i = c.loop-column.column in
    let all : List SqlType = kinds_of columns in
    let so_far = c.loop-column.invariant in
    let high : length into ≤ i = omega (arith, so_far.0, c.loop-column-test.false) in
    let over : length all ≤ i = omega (arith, length-map columns (λ (column : Column). column.kind), c.loop-column-test.false) in
    sym (take_all i into high) ∙ so_far.1 ∙ take_all i all over
