use Rattle.std.proofs.Common.{◌≡◌, ap, ◌∙◌, rules, arith, SFits}
use Rattle.std.specs.Prelude.{Ok}
use Rattle.std.specs.Int.{w128}
use Rattle.std.proofs.lemmas.Int.{ints}
use Rattle.ooc_types.specs.declared.value.Value.TheVariants.{Day}
use Rattle.ooc_types.specs.declared.schema.SqlType.{SqlType}
use Rattle.sql_expr.specs.Arithmetic.{amount}
use Rattle.sql_expr.specs.Kinds.{kind_of}
use Rattle.sql_expr.specs.Meaning.{value_of}
use Rattle.sql_expr.proofs.ValueForms.{day_fits_of}
use Rattle.sql_expr.proofs.evaluate.date.Goals as goal

pub overflow_cast-result : goal.overflow_cast-result
overflow_cast-result c =
    let value : value_of c.args.row.now c.args.expr.now ≡ Ok (amount (kind_of c.args.expr.now) c.in-Ok-Some.day) = rw c.in-Ok-Some.field-0-is at c.in-Ok-Some.ensures in
    let fits = day_fits_of c.args.expr.now c.args.row.now c.in-Ok-Some.day c.requires.fits c.requires.date value in
    let wide : SFits w128 c.in-Ok-Some.day = search rules in
    omega (arith, ints)

pub returns-in-Ok-Some : goal.returns-in-Ok-Some
returns-in-Ok-Some c =
    let value : value_of c.args.row.now c.args.expr.now ≡ Ok (amount (kind_of c.args.expr.now) c.in-Ok-Some.day) = rw c.in-Ok-Some.field-0-is at c.in-Ok-Some.ensures in
    let fits = day_fits_of c.args.expr.now c.args.row.now c.in-Ok-Some.day c.requires.fits c.requires.date value in
    let wide : SFits w128 c.in-Ok-Some.day = search rules in
    value ∙ ap (λ (k : SqlType). Ok (amount k c.in-Ok-Some.day)) c.requires.date ∙ ap (λ d. Ok (Day d)) (omega (arith, ints))
