use Rattle.std.proofs.Common.{sym, ◌∙◌}
use Rattle.sql_expr.specs.Characters.{characters}
use Rattle.sql_expr.proofs.Greedy.{found_none}
use Rattle.sql_expr.proofs.Fronts.{goes_on_now, ends}
use Rattle.sql_expr.proofs.wildcards.like.Goals as goal

pub returns-then-is_empty : goal.returns-then-is_empty
returns-then-is_empty c =
    let e = c.in-Some.ensures in
    c.is_empty-then-is_empty.ensures ∙ sym (ends c.args.pattern.now c.args.text.now c.in-Some.rest.now c.in-Some.behind.now e.0 c.if-is_empty.ensures)

pub returns-else-is_empty : goal.returns-else-is_empty
returns-else-is_empty c =
    let e = c.in-Some.ensures in
    c.like_behind_percent.ensures ∙ goes_on_now c.args.pattern.now c.args.text.now c.in-Some.rest.now c.in-Some.behind.now
    c.split_char.result.1.now c.split_char.result.0.now e.0 c.split_char.ensures.parts

pub returns-in-None : goal.returns-in-None
returns-in-None c = sym (found_none (characters c.args.pattern.now) (characters c.args.text.now) c.in-None.ensures)
