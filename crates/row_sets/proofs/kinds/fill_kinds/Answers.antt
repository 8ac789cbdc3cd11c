use Rattle.std.proofs.Common.{◌≡◌, get_or, arith, rules}
use Rattle.ooc_types.specs.declared.schema.SqlType.TheVariants.{Boolean}
use Rattle.row_image.specs.declared.layout.CellKind.TheVariants.{Bit}
use Rattle.row_sets.specs.SetRows.{cell_kind}
use Rattle.row_sets.proofs.RowCells.{map_by, fill_next}
use Rattle.row_sets.proofs.kinds.fill_kinds.Goals as goal

pub returns : goal.returns
returns c = map_by cell_kind c.args.kinds.now c.loop-column.into Boolean Bit c.loop-column.invariant.0 (λ k less. c.loop-column.invariant.1 k (omega (arith, less)))

pub loop-column-preserved : goal.loop-column-preserved
loop-column-preserved c = (
  search rules,
  fill_next (λ k x. x ≡ cell_kind (get_or c.args.kinds.now k Boolean)) c.loop-column.into c.loop-column.column c.cell_kind.result Bit (let long = c.loop-column.invariant.0 in omega (arith, long, c.loop-column-test.true)) c.loop-column.invariant.1 c.cell_kind.ensures,
)
