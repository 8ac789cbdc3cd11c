use Rattle.std.proofs.Common.{◌+◌, sym, ◌∙◌, subst, get_or, Fits, w32}
use Rattle.mem_division.proofs.Filling.{risen_fits}
use Rattle.mem_division.proofs.level.fill.Goals as goal

pub overflow_add-into : goal.overflow_add-into
overflow_add-into c =
    let want = get_or c.args.wants.now c.loop-i.i (0, 0) in
    subst (λ k. Fits w32 (k + 1)) (sym c.grant_at-grant.ensures)
    (record { fits = risen_fits c.args.level want.0 want.1 4294967296 (sym c.if-rises.true ∙ c.rises.ensures) c.loop-i-test.element_fits2.fits })
