use Rattle.std.proofs.Common.{arith}
use Rattle.std.proofs.lemmas.Grind.{common_steps}
use Rattle.ooc_decimal.proofs.LastPlaces.{low_digits, high_digits}
use Rattle.ooc_decimal.proofs.places.push_places.Goals as goal

pub returns-then-count-gt19-clause-ok : goal.returns-then-count-gt19-clause-ok
returns-then-count-gt19-clause-ok c =
    let e = high_digits c.args.count c.args.n (omega arith) in
    grind (arith, common_steps, e)

pub returns-clause-ok : goal.returns-clause-ok
returns-clause-ok c =
    let e = low_digits c.args.count c.args.n (omega arith) in
    rw e at c.push_narrow_places-2.ensures.ok
