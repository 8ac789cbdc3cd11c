use Rattle.std.proofs.Common.{◌∙◌}
use Rattle.sql_lex.proofs.LexedLemmas.{lexed-utf8, lexed-ill_formed}
use Rattle.sql_lex.proofs.lexer.ill_formed.Goals as goal

pub returns-in-Ok : goal.returns-in-Ok
returns-in-Ok c = lexed-utf8 c.args.script.now c.in-Ok.ensures.cases.1

pub returns-in-Err : goal.returns-in-Err
returns-in-Err c = lexed-ill_formed c.args.script.now c.valid_up_to.result c.in-Err.ensures.cases.0 (c.valid_up_to.ensures ∙ c.in-Err.ensures.valid_len)
