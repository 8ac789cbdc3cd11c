use Rattle.std.proofs.Common.{ap, sym, ◌∙◌}
use Rattle.std.specs.Prelude.{◌*ℤ◌}
use Rattle.std.proofs.lemmas.Int.{to_z-of_z}
use Rattle.ooc_decimal.specs.Exact.{IsExact}
use Rattle.sql_expr.specs.Outcomes.{amount_meaning}
use Rattle.sql_expr.proofs.Exactness.{exact_told}
use Rattle.sql_expr.proofs.Linked.{product_numbers}
use Rattle.sql_expr.proofs.arithmetic.product.Goals as goal

pub returns : goal.returns
returns c =
    let fa = c.ranges.a in
    let fb = c.ranges.b in
    let linked = c.requires.linked in
    let n = product_numbers c.args.left c.args.right c.args.kind linked.left_proper linked.right_proper linked.gives in
    let e : IsExact c.args.kind (c.args.a *ℤ c.args.b) c.mul.result = simp to_z-of_z at c.mul.ensures in
    exact_told c.args.kind _ c.mul.result n.numbers.result e ∙ ap (amount_meaning c.args.kind) (sym c.number_or_fault.ensures)
