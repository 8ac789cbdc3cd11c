use Rattle.std.proofs.Common.{◌<◌, ap, sym, subst, ◌∙◌}
use Rattle.plan_tree.specs.Order.{columns_in}
use Rattle.sql_plan.specs.Chosen.{columns_limit}
use Rattle.sql_plan.specs.Counted.{counts_in}
use Rattle.sql_plan.proofs.FreeLemmas.{entries-columns}
use Rattle.sql_plan.proofs.free.chosen_by.Goals as goal

pub choose-requires : goal.choose-requires
choose-requires c =
    subst (λ n. n < columns_limit) (sym (ap columns_in c.in_ok-entries.ensures ∙ entries-columns (counts_in c.args.counts.now) 0 0 c.args.sources.now)) c.requires
