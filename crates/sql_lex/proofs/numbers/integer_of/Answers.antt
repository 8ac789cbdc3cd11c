use Rattle.std.proofs.Common.{arith, ◌∙◌, ◌+◌}
use Rattle.sql_lex.proofs.NumbersLemmas.{next_value, no_integer, an_integer}
use Rattle.sql_lex.proofs.numbers.integer_of.Goals as goal

pub returns-in-None : goal.returns-in-None
returns-in-None c = no_integer c.args.digits.now (c.loop-byte.byte-index + 1)
    (omega (arith, c.in-None.ensures, next_value c.args.digits.now c.loop-byte.byte-index c.loop-byte.value (omega arith) (c.requires c.loop-byte.byte-index (omega arith)) c.loop-byte.invariant.0))

pub loop-byte-preserved : goal.loop-byte-preserved
loop-byte-preserved c =
    (c.in-Some.ensures.0 ∙ next_value c.args.digits.now c.loop-byte.byte-index c.loop-byte.value (omega arith) (c.requires c.loop-byte.byte-index (omega arith)) c.loop-byte.invariant.0, c.in-Some.ensures.1)

pub returns : goal.returns
returns c = an_integer c.args.digits.now c.loop-byte.byte-index c.loop-byte.value (omega arith) c.loop-byte.invariant.0 c.loop-byte.invariant.1
