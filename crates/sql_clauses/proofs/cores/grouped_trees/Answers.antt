use Rattle.std.proofs.Common.{length}
use Rattle.sql_clauses.specs.Grouping.{group_place, list_over}
use Rattle.sql_clauses.proofs.MakesLaws.{same_made}
use Rattle.sql_clauses.proofs.cores.grouped_trees.Goals as goal

pub returns : goal.returns
returns c =
    same_made _ _ c.list_over.result
    (λ i. list_over (c.as_slice-keys.ensures i) (group_place (length (c.as_slice-keys.ensures i)) (c.len-width.ensures i) (c.as_slice-calls.ensures i)) (c.as_slice-list.ensures i))
    c.list_over.ensures
