use Rattle.std.proofs.Common.{◌≡◌, drop}
use Rattle.std.specs.Prelude.{filter}
use Rattle.plan_tree.specs.Split.{own_places}
use Rattle.sql_plan.specs.Conjuncts.{all_parts, is_ready}
use Rattle.sql_plan.specs.declared.places.Places.TheVariants.{Moved}
use Rattle.sql_plan.proofs.split.split_ready.Given as goal

abbrev pub invariant-loop-expr : goal.invariant-loop-expr
invariant-loop-expr l = record {
  own : l.own ≡ Moved (own_places l.at l.width);
  so_far : all_parts l.own l.at l.parts (filter (is_ready l.low l.end) (drop l.expr-index l.conjuncts)) ≡ all_parts l.own l.at l.initial.parts (filter (is_ready l.low l.end) l.conjuncts);
}
