use Rattle.std.proofs.Common.{◌<◌, refl, ap, sym, subst, ◌∙◌}
use Rattle.sql_plan.specs.Chosen.{columns_chosen, columns_limit}
use Rattle.sql_plan.specs.Counted.{counts_in}
use Rattle.sql_plan.specs.Stages.{bound_entries}
use Rattle.std.specs.List.{filter_map}
use Rattle.plan_tree.specs.Split.{linked_columns}
use Rattle.sql_plan.proofs.FreeLemmas.{chosen-columns}
use Rattle.sql_plan.proofs.free.free_from.Goals as goal

pub from_chosen-requires-clause-columns : goal.from_chosen-requires-clause-columns
from_chosen-requires-clause-columns c =
    let total = chosen-columns (counts_in c.args.counts.now) c.args.sources.now (filter_map linked_columns c.as_slice.result.now) (bound_entries (counts_in c.args.counts.now) c.args.sources.now) c.in_ok-chosen.chosen refl c.in_ok-chosen.ensures in
    subst (λ n. n < columns_limit) (sym (ap columns_chosen c.as_slice-2.ensures ∙ total)) c.requires.columns
