use Rattle.sql_plan.specs.Numbered.{AreNumberedConjunct, AreNumberedSource}
use Rattle.plan_runs.proofs.Made.{SoFar}
use Rattle.plan_runs.proofs.numbered.+numbered.Given as goal

abbrev pub invariant-are_numbered_sources-loop-source : goal.invariant-are_numbered_sources-loop-source
invariant-are_numbered_sources-loop-source l = SoFar AreNumberedSource l.sources l.source-index l.all

abbrev pub invariant-are_numbered_conjuncts-loop-conjunct : goal.invariant-are_numbered_conjuncts-loop-conjunct
invariant-are_numbered_conjuncts-loop-conjunct l = SoFar AreNumberedConjunct l.conjuncts l.conjunct-index l.all
