use Rattle.agg_states.proofs.Standing.{outcome_is, tally_sides}
use Rattle.agg_states.proofs.laws.aggregates_stand_for_their_values.Goals as goal

pub returns-clause-any_grouping : goal.returns-clause-any_grouping
returns-clause-any_grouping c = outcome_is

pub returns-clause-any_split : goal.returns-clause-any_split
returns-clause-any_split c = tally_sides
