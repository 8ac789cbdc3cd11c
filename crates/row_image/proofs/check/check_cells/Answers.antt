use Rattle.std.proofs.Common.{arith, length}
use Rattle.std.proofs.lemmas.Result.{err_from_is_err_and}
use Rattle.row_image.specs.Image.{row_count}
use Rattle.row_image.specs.Rules.{row_rules}
use Rattle.row_image.proofs.LayoutLemmas.{width_of_least}
use Rattle.row_image.proofs.AcceptedLemmas.{row_fits}
use Rattle.row_image.proofs.RuleLemmas.{each_sound, each_damaged}
use Rattle.row_image.proofs.check.check_cells.Goals as goal

pub check_row-requires-clause-room : goal.check_row-requires-clause-room
check_row-requires-clause-room c = row_fits c.args.layout.now (length c.args.image.now) c.loop-row.row (omega (arith, c.requires.page.least)) (omega (arith, width_of_least c.args.layout.now)) (omega (arith, c.requires.rows))

pub returns-in_err-check_row : goal.returns-in_err-check_row
returns-in_err-check_row c =
    let p = err_from_is_err_and c.from_residual.result c.from_residual.ensures.1 in
    rw (p.1, p.2) (each_damaged (λ row. row_rules c.args.layout.now c.args.image.now row) (row_count c.args.image.now) c.loop-row.row _ (omega arith) c.loop-row.invariant c.in_err-check_row.ensures)

pub returns : goal.returns
returns c = each_sound (λ row. row_rules c.args.layout.now c.args.image.now row) (row_count c.args.image.now) (λ k inside. c.loop-row.invariant k (omega arith))
