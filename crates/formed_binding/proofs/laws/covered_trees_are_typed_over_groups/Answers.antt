use Rattle.formed_binding.proofs.GatherLemmas.{group-typed}
use Rattle.formed_binding.proofs.TreeLemmas.{over-kind, over-short}
use Rattle.formed_binding.proofs.laws.covered_trees_are_typed_over_groups.Goals as goal

pub returns : goal.returns
returns c = record { kind = over-kind; texts = over-short; typed = group-typed }
