use Rattle.std.proofs.Common.{◌≡◌, drop}
use Rattle.std.specs.Prelude.{filter}
use Rattle.plan_tree.specs.Split.{is_plain_expr, own_places}
use Rattle.sql_plan.specs.Conjuncts.{all_parts}
use Rattle.sql_plan.specs.declared.places.Places.TheVariants.{Moved}
use Rattle.sql_plan.proofs.split.plain_parts.Given as goal

abbrev pub invariant-loop-expr : goal.invariant-loop-expr
invariant-loop-expr l = record {
  own : l.own ≡ Moved (own_places l.at l.width);
  so_far : all_parts l.own l.at l.parts (filter is_plain_expr (drop l.expr-index l.on)) ≡ all_parts l.own l.at l.initial.parts (filter is_plain_expr l.on);
}
