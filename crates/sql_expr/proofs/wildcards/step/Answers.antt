use Rattle.std.proofs.Common.{sym, ◌∙◌, arith}
use Rattle.sql_expr.specs.Characters.{characters}
use Rattle.sql_expr.proofs.Greedy.{found_none, some_now}
use Rattle.sql_expr.proofs.Fronts.{everywhere, none_left, goes_on, ends}
use Rattle.sql_expr.proofs.wildcards.step.Goals as goal

pub returns-then-is_empty : goal.returns-then-is_empty
returns-then-is_empty c =
    everywhere (characters c.args.pattern.now) (characters c.args.text.now) (none_left c.args.pattern.now c.if-is_empty.ensures)

pub returns-then-not-is_empty : goal.returns-then-not-is_empty
returns-then-not-is_empty c =
    let e = c.in-Some.ensures in (
      goes_on c.args.pattern.now c.args.text.now c.in-Some.rest.now c.in-Some.behind.now c.split_char.result.1.now c.split_char.result.0.now
          e.0 c.split_char.ensures.parts,
      let d = c.split_char.ensures.shorter in let f = e.1 in let g = e.2 in omega arith,
    )

pub returns-then-is_empty-2 : goal.returns-then-is_empty-2
returns-then-is_empty-2 c =
    let e = c.in-Some.ensures in
    sym (some_now (characters c.args.pattern.now) (characters c.args.text.now)
    (ends c.args.pattern.now c.args.text.now c.in-Some.rest.now c.in-Some.behind.now e.0 c.if-not-is_empty.ensures ∙ sym c.if-is_empty-2.ensures))

pub next_place-requires : goal.next_place-requires
next_place-requires c =
    let e = c.in-Some.ensures in
    ends c.args.pattern.now c.args.text.now c.in-Some.rest.now c.in-Some.behind.now e.0 c.if-not-is_empty.ensures ∙ sym c.if-is_empty-2.ensures

pub next_place-requires-in-None : goal.next_place-requires-in-None
next_place-requires-in-None c = found_none (characters c.args.pattern.now) (characters c.args.text.now) c.in-None.ensures
