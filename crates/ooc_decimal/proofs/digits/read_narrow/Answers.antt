use Rattle.std.proofs.Common.{◌≡◌, ◌+◌, ◌-◌, ◌*◌, length, get_or, drop, sym, ◌∙◌, ap, arith, ◌&&◌}
use Rattle.std.proofs.lemmas.List.{at_drop_more}
use Rattle.std.specs.Str.{all_ascii_digits}
use Rattle.ooc_decimal.specs.Numeral.{number_after}
use Rattle.ooc_decimal.proofs.Point.{unit_below}
use Rattle.ooc_decimal.proofs.NumberAfter.{is_digit, narrow_step}
use Rattle.ooc_decimal.proofs.digits.read_narrow.Goals as goal

pub overflow_mul-value : goal.overflow_mul-value
overflow_mul-value c =
    let places = 18 - length c.args.digits.now + c.loop-byte.byte-index in
    omega (arith, c.loop-byte.invariant.small, unit_below places 17 (omega arith))

pub overflow_add-value : goal.overflow_add-value
overflow_add-value c =
    let places = 18 - length c.args.digits.now + c.loop-byte.byte-index in
    let digit = is_digit (get_or c.args.digits.now c.loop-byte.byte-index 0) (sym c.is_ascii_digit.ensures.value ∙ c.if-not-is_ascii_digit.false) in
    omega (arith, c.loop-byte.invariant.small, unit_below places 17 (omega arith), digit.1, c.from.ensures)

pub loop-byte-preserved : goal.loop-byte-preserved
loop-byte-preserved c =
    let l = c.loop-byte in
    let ds = c.args.digits.now in
    let are = sym c.is_ascii_digit.ensures.value ∙ c.if-not-is_ascii_digit.false in
    let digit = is_digit (get_or ds l.byte-index 0) are in
    let places = 18 - length ds + l.byte-index in
    let next : 18 - length ds + (l.byte-index + 1) ≡ places + 1 = omega arith in
    let step = narrow_step l.value c.from.result places l.invariant.small (omega (arith, digit.1, c.from.ensures)) in
    record {
      number = ap (λ d. number_after (l.value * 10 + d) (drop (l.byte-index + 1) ds)) c.from.ensures
          ∙ sym (at_drop_more (number_after l.value) ds l.byte-index 0 c.loop-byte-test.true) ∙ l.invariant.number;
      digits = ap (λ b. b && all_ascii_digits (drop (l.byte-index + 1) ds)) (sym are)
          ∙ sym (at_drop_more all_ascii_digits ds l.byte-index 0 c.loop-byte-test.true) ∙ l.invariant.digits;
      small = rw next step;
    }
