use Rattle.std.proofs.Common.{ap, sym, ◌∙◌}
use Rattle.std.specs.Prelude.{◌+ℤ◌}
use Rattle.std.proofs.lemmas.Int.{to_z-of_z}
use Rattle.ooc_decimal.specs.Exact.{IsExact, at_scale}
use Rattle.ooc_decimal.specs.Numeric.{scale_of}
use Rattle.sql_expr.specs.Outcomes.{amount_meaning}
use Rattle.sql_expr.proofs.Exactness.{exact_told}
use Rattle.sql_expr.proofs.Linked.{plus_numbers}
use Rattle.sql_expr.proofs.arithmetic.sum.Goals as goal

pub returns : goal.returns
returns c =
    let fa = c.ranges.a in
    let fb = c.ranges.b in
    let linked = c.requires.linked in
    let n = plus_numbers c.args.left c.args.right c.args.kind c.requires.number linked.left_proper linked.right_proper linked.gives in
    let e : IsExact c.args.kind (at_scale c.args.a (scale_of c.args.left) (scale_of c.args.kind) +ℤ at_scale c.args.b (scale_of c.args.right) (scale_of c.args.kind)) c.add.result =
    simp (to_z-of_z, c.scale.ensures, c.scale-2.ensures) at c.add.ensures in
    exact_told c.args.kind _ c.add.result n.numbers.result e ∙ ap (amount_meaning c.args.kind) (sym c.number_or_fault.ensures)
