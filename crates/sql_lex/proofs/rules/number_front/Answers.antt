use Rattle.sql_lex.proofs.NumbersLemmas.{digits-front}
use Rattle.sql_lex.proofs.rules.number_front.Goals as goal

pub integer_of-requires : goal.integer_of-requires
integer_of-requires c = λ k within. digits-front c.args.text.now c.digits_length-whole.result k c.digits_length-whole.ensures.digits within
