use Rattle.std.proofs.Common.{◌≡◌, ℤ, pos, SFits, rules, ◌∙◌, to_z, arith}
use Rattle.std.specs.Int.{w128}
use Rattle.std.proofs.lemmas.Int.{ints, to_z-of_z}
use Rattle.agg_states.proofs.Sound.{low_product_fits, product_low}
use Rattle.ooc_decimal.specs.Ends.{below_of}
use Rattle.agg_states.proofs.restore.lowest_sum.Goals as goal

pub overflow_mul-result : goal.overflow_mul-result
overflow_mul-result c =
    let fits : SFits w128 c.least.result = search rules in
    let rows : to_z w128 c.args.rows ≡ pos c.args.rows = omega (arith, ints, c.requires.few) in
    rw (rows, to_z-of_z w128 c.least.result fits, c.least.ensures) (low_product_fits c.args.of c.args.rows c.requires.summable c.requires.few)

pub returns : goal.returns
returns c =
    let fits : SFits w128 c.least.result = search rules in
    let rows : to_z w128 c.args.rows ≡ pos c.args.rows = omega (arith, ints, c.requires.few) in
    rw (rows, to_z-of_z w128 c.least.result fits, c.least.ensures)
    (to_z-of_z w128 _ (low_product_fits c.args.of c.args.rows c.requires.summable c.requires.few) ∙ product_low c.args.rows (below_of c.args.of))
