use Rattle.sql_expr.specs.Characters.{characters}
use Rattle.sql_expr.proofs.Fronts.{nowhere, none_left}
use Rattle.sql_expr.proofs.wildcards.next_place.Goals as goal

pub returns-then-is_empty : goal.returns-then-is_empty
returns-then-is_empty c =
    nowhere (characters c.args.pattern.now) (characters c.args.text.now) (none_left c.args.text.now c.if-is_empty.ensures) c.requires
