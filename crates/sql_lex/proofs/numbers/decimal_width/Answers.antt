use Rattle.std.proofs.Common.{arith}
use Rattle.sql_lex.proofs.NumbersLemmas.{zeros-digits}
use Rattle.sql_lex.proofs.numbers.decimal_width.Goals as goal

pub overflow_sub-whole : goal.overflow_sub-whole
overflow_sub-whole c = omega (arith, zeros-digits c.args.text.now)
