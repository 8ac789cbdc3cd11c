use Rattle.std.proofs.Common.{◌^◌, ap, arith}
use Rattle.ooc_decimal.proofs.LastPlaces.{counted}
use Rattle.ooc_decimal.proofs.places.digit_count.Goals.{then-n-lt10, else-n-lt10+then-n, else-n-lt10+else-n}
use Rattle.ooc_decimal.proofs.places.digit_count.Goals as goal

pub returns-clause-digits : goal.returns-clause-digits
returns-clause-digits c =
    let last = c.if-n-lt10.last in
    let n = c.args.n in
    elim c.if-n-lt10.branch [
      | then-n-lt10 w ↦ counted last n c.requires (λ some. omega arith) (omega (arith, ap (λ k. 10 ^ k) w.last-is))
      | else-n-lt10+then-n w ↦ counted last n c.requires (λ some. omega (arith, ap (λ k. 10 ^ k) w.last-is)) (omega (arith, ap (λ k. 10 ^ k) w.last-is))
      | else-n-lt10+else-n w ↦ counted last n c.requires (λ some. omega (arith, ap (λ k. 10 ^ k) w.last-is)) (omega (arith, ap (λ k. 10 ^ k) w.last-is))
    ]
