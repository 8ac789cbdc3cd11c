use Rattle.std.proofs.Common.{arith}
use Rattle.sql_lex.proofs.QuotesLemmas.{undoubled-at_doubled}
use Rattle.sql_lex.proofs.quotes.written_length.Goals as goal

pub returns-then-at-inside-clause-byte : goal.returns-then-at-inside-clause-byte
returns-then-at-inside-clause-byte c = undoubled-at_doubled c.args.quote c.args.inside.now c.args.at (omega arith) c.if-inside-at.true
