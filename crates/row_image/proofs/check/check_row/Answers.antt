use Rattle.std.proofs.Common.{arith, length}
use Rattle.std.proofs.lemmas.Result.{err_from_is_err_and}
use Rattle.row_image.specs.Rules.{cell_rules, row_rules}
use Rattle.row_image.proofs.RuleLemmas.{each_sound, each_damaged}
use Rattle.row_image.proofs.check.check_row.Goals as goal

pub returns-in_err-check_cell : goal.returns-in_err-check_cell
unfolding row_rules
returns-in_err-check_cell c =
    let p = err_from_is_err_and c.from_residual.result c.from_residual.ensures.1 in
    rw (p.1, p.2) (each_damaged (λ column. cell_rules c.args.layout.now c.args.image.now c.args.row column) (length c.args.layout.now) c.loop-column.column _ (omega arith) c.loop-column.invariant c.in_err-check_cell.ensures)

pub returns : goal.returns
unfolding row_rules
returns c = each_sound (λ column. cell_rules c.args.layout.now c.args.image.now c.args.row column) (length c.args.layout.now) (λ k inside. c.loop-column.invariant k (omega arith))
