use Rattle.std.proofs.Common.{Some, None}
use Rattle.sql_lex.proofs.FrontsLemmas.{sign_front-pair, sign_front-byte}
use Rattle.sql_lex.proofs.rules.sign_front.Goals as goal

pub returns-in-Some : goal.returns-in-Some
returns-in-Some c = sign_front-pair c.args.text.now c.in-Some.sign (cc)

pub returns-in-Some-byte_sign : goal.returns-in-Some-byte_sign
returns-in-Some-byte_sign c = sign_front-byte c.args.text.now (Some c.in-Some-byte_sign.sign) c.requires (cc) (cc)

pub returns-in-None : goal.returns-in-None
returns-in-None c = sign_front-byte c.args.text.now None c.requires (cc) (cc)
