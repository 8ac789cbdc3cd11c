use Rattle.std.proofs.Common.{◌++◌, ◌∷◌, []}
use Rattle.sql_clauses.proofs.MakesLaws.{through_item}
use Rattle.sql_clauses.proofs.grouping.one_link.Goals as goal

pub returns : goal.returns
returns c =
    through_item (λ list item. list ++ item ∷ []) (λ right. record { sign = c.args.sign; right = right; kind = c.args.kind }) c.args.links c.args.right c.link.result c.item_behind.result
    c.link.ensures c.item_behind.ensures
