use Rattle.std.proofs.Common.{map, rules}
use Rattle.sql_meaning.specs.Statements.{key_of}
use Rattle.table_scan.proofs.Ordering.{sorted-by_calls}
use Rattle.table_scan.proofs.order.sort_rows.Goals as goal

pub returns : goal.returns
returns c =
    sorted-by_calls (map key_of c.args.keys.now) c.args.rows.now.items c.sort_unstable_by.new.self.items
    c.sort_unstable_by.ensures.permutation c.sort_unstable_by.ensures.sorted (λ a r f' called. search rules)
