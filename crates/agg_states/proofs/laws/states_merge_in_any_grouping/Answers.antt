use Rattle.agg_states.proofs.States.{state_of-append, together-comm, together-assoc, together-none}
use Rattle.agg_states.proofs.laws.states_merge_in_any_grouping.Goals as goal

pub returns-clause-pieces : goal.returns-clause-pieces
returns-clause-pieces c = state_of-append

pub returns-clause-turned : goal.returns-clause-turned
returns-clause-turned c = together-comm

pub returns-clause-grouped : goal.returns-clause-grouped
returns-clause-grouped c = together-assoc

pub returns-clause-none : goal.returns-clause-none
returns-clause-none c = together-none
