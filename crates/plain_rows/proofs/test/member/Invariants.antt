use Rattle.std.proofs.Common.{◌≡◌, drop}
use Rattle.std.specs.Prelude.{fold}
use Rattle.sql_expr.specs.Comparison.{compared}
use Rattle.sql_expr.specs.Logic.{truth_in, or_truth}
use Rattle.sql_expr.specs.declared.tree.CompareSign.TheVariants.{Equal}
use Rattle.sql_meaning.specs.Sets.{member}
use Rattle.plain_rows.proofs.test.member.Given as goal

abbrev pub invariant-loop-other : goal.invariant-loop-other
invariant-loop-other l = fold (λ found value. or_truth found (truth_in (compared Equal l.value value))) l.found (drop l.other-index l.values) ≡ member l.value l.values
