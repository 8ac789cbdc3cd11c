use Rattle.std.proofs.Common.{arith}
use Rattle.run_settings.proofs.Sums.{times_ten, number_short, digit_small}
use Rattle.run_settings.proofs.numbers.value_of.Goals as goal

pub overflow_mul-value : goal.overflow_mul-value
overflow_mul-value c =
    let short = number_short c.args.text.now c.requires in
    let top = times_ten c.loop-byte.value c.loop-byte.byte-index (omega arith) c.loop-byte.invariant.small in
    omega arith

pub overflow_add-value : goal.overflow_add-value
overflow_add-value c =
    let short = number_short c.args.text.now c.requires in
    let digit = digit_small c.args.text.now c.loop-byte.byte-index c.requires c.loop-byte-test.true in
    let top = times_ten c.loop-byte.value c.loop-byte.byte-index (omega arith) c.loop-byte.invariant.small in
    omega arith
