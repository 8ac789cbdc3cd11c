use Rattle.std.proofs.Common.{ap, sym, ◌∙◌, of_z}
use Rattle.std.specs.Prelude.{int_div}
use Rattle.std.specs.Int.{w128}
use Rattle.std.proofs.lemmas.Int.{to_z-of_z}
use Rattle.ooc_decimal.specs.Exact.{IsExact}
use Rattle.sql_expr.specs.Arithmetic.{exact}
use Rattle.sql_expr.specs.Outcomes.{amount_meaning}
use Rattle.sql_expr.proofs.Exactness.{exact_told, unless_not_zero}
use Rattle.sql_expr.proofs.arithmetic.whole_quotient.Goals as goal

pub returns : goal.returns
returns c =
    let fa = c.ranges.a in
    let fb = c.ranges.b in
    let e : IsExact c.args.kind (int_div c.args.a c.args.b) c.quotient.result = simp to_z-of_z at c.quotient.ensures in
    unless_not_zero c.args.b (exact c.args.kind (int_div c.args.a c.args.b)) (λ h. c.if-b-eq0.false (ap (of_z w128) h))
    ∙ exact_told c.args.kind _ c.quotient.result c.requires e ∙ ap (amount_meaning c.args.kind) (sym c.number_or_fault.ensures)
