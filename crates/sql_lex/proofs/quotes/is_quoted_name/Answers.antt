use Rattle.std.proofs.Common.{drop}
use Rattle.sql_lex.specs.Quotes.{undoubled}
use Rattle.sql_lex.proofs.QuotesLemmas.{no_name}
use Rattle.sql_lex.proofs.quotes.is_quoted_name.Goals as goal

pub returns-then-inside-at-lt32 : goal.returns-then-inside-at-lt32
returns-then-inside-at-lt32 c = no_name (undoubled 34 c.args.inside.now) (undoubled 34 (drop c.loop-at.at c.args.inside.now)) _ _ c.loop-at.invariant.passed c.written_length-written.ensures.byte c.if-inside-at-lt32.true
