use Rattle.std.proofs.Common.{List, map, ap, ◌∙◌}
use Rattle.ooc_types.specs.declared.value.Value.{Value}
use Rattle.sql_meaning.specs.Ordered.{value_at}
use Rattle.plain_cores.specs.Known.{member_of_values}
use Rattle.plain_cores.proofs.known.member_over.Goals as goal

pub returns-clause-meant : goal.returns-clause-meant
returns-clause-meant c = ap (λ (values : List Value). member_of_values c.args.negated values c.args.of.now c.args.answer.faults.items) (c.in_ok-values.ensures ∙ ap (map (value_at 0)) c.as_slice.ensures.value)
