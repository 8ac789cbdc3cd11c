use Rattle.std.proofs.Common.{◌≡◌, ap, sym, ◌∙◌, int_cmp}
use Rattle.std.proofs.lemmas.Int.{to_z-of_z}
use Rattle.ooc_types.specs.declared.schema.SqlType.{SqlType}
use Rattle.ooc_types.specs.declared.schema.SqlType.TheVariants.{Date}
use Rattle.ooc_types.specs.Order.{value_cmp}
use Rattle.ooc_types.proofs.ValueOrder.{value_cmp-Day}
use Rattle.sql_expr.specs.Arithmetic.{amount}
use Rattle.sql_expr.proofs.Dates.{date_beside}
use Rattle.sql_expr.proofs.compare.cmp_amounts.Goals as goal

pub returns-in-Date : goal.returns-in-Date
returns-in-Date c =
    let fa = c.ranges.a in
    let fb = c.ranges.b in
    let e : c.cmp.result ≡ int_cmp c.args.a c.args.b = simp to_z-of_z at c.cmp.ensures in
    let right = date_beside c.args.left c.args.right c.in-Date.is c.requires.comparable in
    e ∙ sym (value_cmp-Day c.args.a c.args.b)
    ∙ ap (λ (k : SqlType). value_cmp (amount k c.args.a) (amount Date c.args.b)) (sym c.in-Date.is)
    ∙ ap (λ (k : SqlType). value_cmp (amount c.args.left c.args.a) (amount k c.args.b)) (sym right)
