use Rattle.std.proofs.Common.{arith}
use Rattle.sql_lex.proofs.GapsLemmas.{before_close-step}
use Rattle.sql_lex.proofs.gaps.before_close.Goals as goal

pub loop-at-preserved : goal.loop-at-preserved
loop-at-preserved c = before_close-step c.args.text.now c.loop-at.at _ _ (omega arith) c.starts_with.ensures.value c.if-starts_with.false c.loop-at.invariant
