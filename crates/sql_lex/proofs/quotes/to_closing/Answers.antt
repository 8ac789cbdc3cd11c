use Rattle.std.proofs.Common.{arith, rules}
use Rattle.sql_lex.proofs.QuotesLemmas.{to_closing-step_plain, to_closing-step_doubled}
use Rattle.sql_lex.proofs.quotes.to_closing.Goals as goal

pub loop-at-preserved-then-inside-at : goal.loop-at-preserved-then-inside-at
loop-at-preserved-then-inside-at c = (omega arith, to_closing-step_plain c.args.quote c.args.inside.now c.loop-at.at _ (omega arith) (search rules) c.loop-at.invariant.1)

pub loop-at-preserved : goal.loop-at-preserved
loop-at-preserved c = (omega arith, to_closing-step_doubled c.args.quote c.args.inside.now c.loop-at.at _ (omega arith) (search rules) (search rules) c.loop-at.invariant.1)
