use Rattle.sql_lex.proofs.ProperLemmas.{decimal-proper}
use Rattle.sql_lex.proofs.laws.a_decimal_is_proper.Goals as goal

pub returns : goal.returns
returns c = decimal-proper
