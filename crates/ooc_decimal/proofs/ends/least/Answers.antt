use Rattle.std.proofs.Common.{◌≡◌, ℕ, ◌-◌, ◌^◌, ◌<◌, pos, sym, ap, ◌∙◌, arith}
use Rattle.std.proofs.lemmas.Int.{ints}
use Rattle.ooc_types.specs.declared.schema.SqlType.{SqlType}
use Rattle.ooc_decimal.specs.Ends.{below_of}
use Rattle.ooc_decimal.proofs.EndLemmas.{width_fits, below-Decimal}
use Rattle.ooc_decimal.proofs.ends.least.Goals as goal

pub returns-then-width-le-MAX_WIDTH : goal.returns-then-width-le-MAX_WIDTH
returns-then-width-le-MAX_WIDTH c =
    let w = c.in-Decimal.width in
    let fits = width_fits w c.if-width-le-MAX_WIDTH.true in
    let small : 10 ^ w - 1 < 2 ^ 127 = fits.sfits in
    let value = c.greatest_of_width.ensures.value in
    let below : below_of c.args.kind ≡ 10 ^ w - 1 = ap below_of c.in-Decimal.is ∙ below-Decimal w c.in-Decimal.scale c.if-width-le-MAX_WIDTH.true in
    omega (arith, ints)
