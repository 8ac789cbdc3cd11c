use Rattle.std.proofs.Common.{◌≡◌, ℤ, ◌*◌, pos, SFits, rules, cond, sym, ap, ap₂, ◌∙◌}
use Rattle.std.specs.Prelude.{neg_ℤ}
use Rattle.std.specs.Int.{w128}
use Rattle.std.proofs.lemmas.Bool.{eq-eqb}
use Rattle.std.proofs.lemmas.Int.{to_z-of_z}
use Rattle.ooc_types.specs.declared.value.Value.TheVariants.{Null, Number}
use Rattle.ooc_decimal.specs.Numeric.{scale_of}
use Rattle.ooc_decimal.specs.Ends.{below_of, most_of, between}
use Rattle.agg_states.specs.Tally.{restored_sum}
use Rattle.agg_states.proofs.restore.restored_sum.Goals as goal

pub returns-in-Number : goal.returns-in-Number
returns-in-Number c =
    let of = c.args.of in
    let rows = c.args.rows in
    let places = c.in-Number.places in
    let digits = c.in-Number.digits in
    let digits_fit : SFits w128 digits = search rules in
    let low_fits : SFits w128 c.lowest_sum.result = search rules in
    let high_fits : SFits w128 c.highest_sum.result = search rules in
    let fits : SFits w128 c.between.result = search rules in
    let e : c.between.result ≡ between c.lowest_sum.result c.highest_sum.result digits = simp to_z-of_z at c.between.ensures in
    let own : c.between.result ≡ between (neg_ℤ (pos (rows * below_of of))) (pos (rows * most_of of)) digits =
    e ∙ ap₂ (λ (low high : ℤ). between low high digits) c.lowest_sum.ensures c.highest_sum.ensures in
    let same = eq-eqb places (scale_of of) (c.if-places-scale.true ∙ c.scale.ensures) in
    ap (λ (z : ℤ). Number z places) (to_z-of_z w128 c.between.result fits ∙ own)
    ∙ sym (ap (restored_sum of rows) c.in-Number.is ∙ ap (λ b. cond b (Number (between (neg_ℤ (pos (rows * below_of of))) (pos (rows * most_of of)) digits) places) Null) same)
