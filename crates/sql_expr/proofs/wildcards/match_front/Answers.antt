use Rattle.std.proofs.Common.{sym, ap, ◌∙◌}
use Rattle.std.specs.Str.{bytes_eq}
use Rattle.sql_expr.specs.Characters.{characters}
use Rattle.sql_expr.proofs.Fronts.{front_none, front_all, none_left}
use Rattle.sql_expr.proofs.wildcards.match_front.Goals as goal

pub returns-then-is_empty : goal.returns-then-is_empty
returns-then-is_empty c =
    sym c.loop-sign.invariant.left
    ∙ front_none (characters c.loop-sign.signs.now) (characters c.loop-sign.rest.now) (characters c.split_char.result.1.now) c.split_char.result.0.now
    c.split_char.ensures.parts (ap (bytes_eq c.split_char.result.0.now) (sym c.as_slice.ensures) ∙ sym c.if-eq.ensures) (none_left c.loop-sign.rest.now c.if-is_empty.ensures)

pub returns : goal.returns
returns c = (
  sym c.loop-sign.invariant.left
      ∙ front_all (characters c.loop-sign.signs.now) (characters c.loop-sign.rest.now) (none_left c.loop-sign.signs.now c.loop-sign-test.ensures),
  c.loop-sign.invariant.shorter_rest,
  c.loop-sign.invariant.shorter_signs,
)
