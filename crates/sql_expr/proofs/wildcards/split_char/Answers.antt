use Rattle.sql_expr.proofs.Taken.{parts}
use Rattle.sql_expr.proofs.wildcards.split_char.Goals as goal

pub returns-clause-parts : goal.returns-clause-parts
returns-clause-parts c =
    parts c.char_len-end.result c.args.bytes.now c.char_len-end.ensures.value c.char_len-end.ensures.some c.char_len-end.ensures.within c.requires
