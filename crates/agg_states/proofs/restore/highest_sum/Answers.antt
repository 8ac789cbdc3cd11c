use Rattle.std.proofs.Common.{◌≡◌, ℤ, pos, SFits, rules, ◌∙◌, to_z, arith}
use Rattle.std.specs.Int.{w128}
use Rattle.std.proofs.lemmas.Int.{ints, to_z-of_z}
use Rattle.agg_states.proofs.Sound.{high_product_fits, product_high}
use Rattle.ooc_decimal.specs.Ends.{most_of}
use Rattle.agg_states.proofs.restore.highest_sum.Goals as goal

pub overflow_mul-result : goal.overflow_mul-result
overflow_mul-result c =
    let fits : SFits w128 c.greatest.result = search rules in
    let rows : to_z w128 c.args.rows ≡ pos c.args.rows = omega (arith, ints, c.requires.few) in
    rw (rows, to_z-of_z w128 c.greatest.result fits, c.greatest.ensures) (high_product_fits c.args.of c.args.rows c.requires.summable c.requires.few)

pub returns : goal.returns
returns c =
    let fits : SFits w128 c.greatest.result = search rules in
    let rows : to_z w128 c.args.rows ≡ pos c.args.rows = omega (arith, ints, c.requires.few) in
    rw (rows, to_z-of_z w128 c.greatest.result fits, c.greatest.ensures)
    (to_z-of_z w128 _ (high_product_fits c.args.of c.args.rows c.requires.summable c.requires.few) ∙ product_high c.args.rows (most_of c.args.of))
