use Rattle.std.proofs.Common.{◌++◌, ◌<◌, length, arith}
use Rattle.std.proofs.lemmas.List.{length-append}
use Rattle.std.proofs.lemmas.Bool.Decides.{nat_tests}
use Rattle.ooc_decimal.proofs.Spelled.{magnitude_exact}
use Rattle.ooc_decimal.proofs.read.read_magnitude.Goals.{else-is_empty-via-then-is_empty+else-is_empty-2, else-is_empty-via-else-is_empty}
use Rattle.ooc_decimal.proofs.read.read_magnitude.Goals as goal

pub returns-then-part-places : goal.returns-then-part-places
returns-then-part-places c =
    let whole = c.args.whole.now in
    let part = c.args.part.now in
    let both = length-append whole part in
    let some : 0 < length (whole ++ part) = elim c.else-is_empty.branch [
      | else-is_empty-via-then-is_empty+else-is_empty-2 w ↦ let last : 0 < length part = grind (arith, nat_tests) in omega arith
      | else-is_empty-via-else-is_empty w ↦ let first : 0 < length whole = grind (arith, nat_tests) in omega arith
    ] in
    magnitude_exact whole part c.args.scale c.read_exact.result some (omega arith) c.read_exact.ensures
