use Rattle.std.proofs.Common.{◌≡◌, ℕ, length, decimal, sym, ap, ◌∙◌, arith, subst}
use Rattle.ooc_decimal.specs.Printed.{places, magnitude_text}
use Rattle.ooc_decimal.proofs.Point.{length_whole, length_pointed}
use Rattle.ooc_decimal.proofs.print.magnitude_length.Goals as goal

pub returns-then-scale-eq0-clause-length : goal.returns-then-scale-eq0-clause-length
returns-then-scale-eq0-clause-length c =
    c.from.ensures ∙ length_whole c.args.n c.digit_count.result c.digit_count.ensures.digits ∙ ap (λ k. length (magnitude_text c.args.n k)) (sym c.if-scale-eq0.true)

pub returns-clause-length : goal.returns-clause-length
returns-clause-length c =
    let P : ℕ → Type 0 = λ w. decimal w ≡ places c.digit_count-2.result w in
    let e = length_pointed c.args.n c.digit_count-2.result c.args.scale c.if-scale-eq0.false (subst P c.split_at_point-whole.ensures.whole c.digit_count-2.ensures.digits) in
    omega (arith, e, c.from-2.ensures, c.from-3.ensures)
