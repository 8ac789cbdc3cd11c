use Rattle.std.proofs.Common.{length, ap, arith}
use Rattle.std.proofs.lemmas.List.{take_all}
use Rattle.std.specs.List.{flat_map}
use Rattle.result_print.specs.Printed.{doubled}
use Rattle.result_print.proofs.Lengths.{length_quoted}
use Rattle.result_print.proofs.length.quoted_length.Goals as goal

pub returns-clause-length : goal.returns-clause-length
returns-clause-length c =
    let bytes = c.args.bytes.now in
    let all = ap (λ l. length (flat_map doubled l)) (take_all c.loop-byte.byte-index bytes (omega arith)) in
    omega (arith, length_quoted bytes, all)
