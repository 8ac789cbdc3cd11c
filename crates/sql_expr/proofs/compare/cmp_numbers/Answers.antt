use Rattle.std.proofs.Common.{◌≡◌, ◌^◌, ap, sym, ◌∙◌, int_cmp, arith}
use Rattle.std.specs.Prelude.{pos, ◌*ℤ◌}
use Rattle.std.proofs.lemmas.Int.{to_z-of_z}
use Rattle.std.proofs.Math.Nat.{one-le-pow}
use Rattle.ooc_types.proofs.Scaled.{times}
use Rattle.sql_expr.proofs.compare.cmp_numbers.Goals as goal

pub returns-then-a_scale-b_scale : goal.returns-then-a_scale-b_scale
returns-then-a_scale-b_scale c =
    let fa = c.ranges.a in
    let fb = c.ranges.b in
    let b : c.cmp.result ≡ int_cmp c.args.a c.args.b = simp to_z-of_z at c.cmp.ensures in
    let a = c.numbers_compare_by_value.ensures c.args.a c.args.b c.args.a_scale c.args.b_scale c.ranges.a_scale.fits c.ranges.b_scale.fits in
    let k = times c.args.a c.args.b (10 ^ c.args.a_scale) (one-le-pow c.args.a_scale 10 (omega arith)) in
    b ∙ sym k ∙ ap (λ n. int_cmp (c.args.a *ℤ pos (10 ^ n)) (c.args.b *ℤ pos (10 ^ c.args.a_scale))) c.if-a_scale-b_scale.true ∙ sym a
