use Rattle.std.proofs.Common.{◌≡◌, ◌+◌, drop, map}
use Rattle.plan_tree.specs.Plannable.{columns_of_sources}
use Rattle.plan_tree.specs.Planned.{other_conjuncts, plan_of_conjunct, plan_of_source, written_stages}
use Rattle.sql_plan.specs.Cores.{conjunct_by}
use Rattle.sql_plan.specs.Counted.{counts_in}
use Rattle.sql_plan.proofs.Lists.{SoFar}
use Rattle.sql_plan.proofs.select.+plan.Given as goal

abbrev pub invariant-plan_sources-loop-source : goal.invariant-plan_sources-loop-source
invariant-plan_sources-loop-source l = record {
  far : SoFar (written_stages 0 (map (plan_of_source (counts_in l.counts)) l.sources)) l.stages (written_stages l.at (map (plan_of_source (counts_in l.counts)) (drop l.source-index l.sources)));
  columns : l.at + columns_of_sources (drop l.source-index l.sources) ≡ columns_of_sources l.sources;
}

abbrev pub invariant-plan_others-loop-conjunct : goal.invariant-plan_others-loop-conjunct
invariant-plan_others-loop-conjunct l =
    SoFar (map (conjunct_by l.places) (other_conjuncts (map (plan_of_conjunct (counts_in l.counts)) l.conjuncts))) l.others
    (map (conjunct_by l.places) (other_conjuncts (map (plan_of_conjunct (counts_in l.counts)) (drop l.conjunct-index l.conjuncts))))
