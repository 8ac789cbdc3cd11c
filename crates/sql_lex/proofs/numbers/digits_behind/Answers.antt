use Rattle.std.proofs.Common.{arith, length, get_or, ◌∙◌, ◌*◌, ◌+◌, ◌^◌}
use Rattle.sql_lex.proofs.DecimalLemmas.{digit-bounds, behind-step, room-at, small-at}
use Rattle.sql_lex.proofs.numbers.digits_behind.Goals as goal

pub overflow_mul-number : goal.overflow_mul-number
overflow_mul-number c = omega (arith, room-at c.loop-byte.number c.loop-byte.byte-index (length c.args.digits.now) ((c.args.value + 1) * 10 ^ length c.args.digits.now) (omega arith) c.loop-byte.invariant.small, c.requires.room)

pub overflow_add-number : goal.overflow_add-number
overflow_add-number c = omega (arith, c.from.ensures, digit-bounds (get_or c.args.digits.now c.loop-byte.byte-index 0) (c.requires.digits c.loop-byte.byte-index (omega arith)), room-at c.loop-byte.number c.loop-byte.byte-index (length c.args.digits.now) ((c.args.value + 1) * 10 ^ length c.args.digits.now) (omega arith) c.loop-byte.invariant.small, c.requires.room)

pub loop-byte-preserved : goal.loop-byte-preserved
loop-byte-preserved c = record {
  whole = behind-step c.args.digits.now c.loop-byte.byte-index c.loop-byte.number c.from.result (omega arith) (c.requires.digits c.loop-byte.byte-index (omega arith)) c.from.ensures ∙ c.loop-byte.invariant.whole;
  small = small-at c.loop-byte.number c.from.result c.loop-byte.byte-index (length c.args.digits.now) ((c.args.value + 1) * 10 ^ length c.args.digits.now)
      (omega (arith, c.from.ensures, digit-bounds (get_or c.args.digits.now c.loop-byte.byte-index 0) (c.requires.digits c.loop-byte.byte-index (omega arith)))) (omega arith) c.loop-byte.invariant.small;
}
