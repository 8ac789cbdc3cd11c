use Rattle.std.proofs.Common.{arith}
use Rattle.sql_lex.proofs.NumbersLemmas.{all_digits}
use Rattle.sql_lex.proofs.values.integer_value.Goals as goal

pub integer_of-requires : goal.integer_of-requires
integer_of-requires c = λ k within. all_digits c.args.text.now k (omega (arith, c.digits_length.ensures.digits, c.if-digits_length-text.false)) within
