use Rattle.std.proofs.Common.{arith, refl, sym, ◌∙◌, ap, Some}
use Rattle.sql_lex.proofs.NumbersLemmas.{zeros-digits}
use Rattle.sql_lex.proofs.DecimalLemmas.{kept-digits, kept-room, fraction-digits, fraction-room, decimal-is}
use Rattle.sql_lex.proofs.values.decimal_value.Goals as goal

pub slice_bounds-digits_behind-count : goal.slice_bounds-digits_behind-count
slice_bounds-digits_behind-count c = omega (arith, zeros-digits c.args.text.now)

pub slice_bounds-digits_behind-start : goal.slice_bounds-digits_behind-start
slice_bounds-digits_behind-start c = omega (arith, zeros-digits c.args.text.now)

pub digits_behind-before-requires-clause-digits : goal.digits_behind-before-requires-clause-digits
digits_behind-before-requires-clause-digits c = λ k within.
    kept-digits c.args.text.now c.zeros_length-zeros.result c.digits_length-whole.result k c.digits_length-whole.ensures.digits (omega (arith, zeros-digits c.args.text.now)) within

pub digits_behind-before-requires-clause-room : goal.digits_behind-before-requires-clause-room
digits_behind-before-requires-clause-room c =
    kept-room c.args.text.now c.zeros_length-zeros.result c.digits_length-whole.result (sym c.is_decimal.ensures ∙ c.if-not-is_decimal.false) c.digits_length-whole.ensures.digits c.zeros_length-zeros.ensures

pub digits_behind-digits-requires-clause-digits : goal.digits_behind-digits-requires-clause-digits
digits_behind-digits-requires-clause-digits c = λ k within.
    fraction-digits c.args.text.now _ c.digits_length-whole.result k (sym c.is_decimal.ensures ∙ c.if-not-is_decimal.false) c.digits_length-whole.ensures.digits refl within

pub digits_behind-digits-requires-clause-room : goal.digits_behind-digits-requires-clause-room
digits_behind-digits-requires-clause-room c =
    fraction-room c.args.text.now _ _ c.zeros_length-zeros.result c.digits_length-whole.result c.digits_behind-before.result (sym c.is_decimal.ensures ∙ c.if-not-is_decimal.false) c.digits_length-whole.ensures.digits c.zeros_length-zeros.ensures refl refl c.digits_behind-before.ensures.small

pub decimal_of-requires : goal.decimal_of-requires
decimal_of-requires c = omega (
  arith,
  c.digits_behind-digits.ensures.small,
  fraction-room c.args.text.now _ _ c.zeros_length-zeros.result c.digits_length-whole.result c.digits_behind-before.result (sym c.is_decimal.ensures ∙ c.if-not-is_decimal.false) c.digits_length-whole.ensures.digits c.zeros_length-zeros.ensures refl refl c.digits_behind-before.ensures.small,
)

pub returns : goal.returns
returns c = ap Some c.decimal_of.ensures ∙ decimal-is c.args.text.now _ _ c.zeros_length-zeros.result c.digits_length-whole.result c.digits_behind-before.result c.digits_behind-digits.result c.decimal_width-width.result
    (sym c.is_decimal.ensures ∙ c.if-not-is_decimal.false) c.digits_length-whole.ensures.digits c.zeros_length-zeros.ensures refl refl c.digits_behind-before.ensures.number c.digits_behind-digits.ensures.number c.decimal_width-width.ensures
