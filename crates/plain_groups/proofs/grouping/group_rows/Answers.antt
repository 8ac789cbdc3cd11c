use Rattle.std.proofs.Common.{◌∷◌, ◌++◌, [], map, ap, ◌∙◌, All}
use Rattle.sql_meaning.specs.Found.{Row}
use Rattle.sql_meaning.specs.Groups.{group_row, rows_of}
use Rattle.sql_meaning.specs.Statements.{aggregation_of}
use Rattle.plain_groups.specs.Keys.{one_in}
use Rattle.plain_groups.specs.Sums.{CanAggregate}
use Rattle.plain_rows.proofs.Collecting.{flat-next}
use Rattle.plain_groups.proofs.Keying.{at-item}
use Rattle.plain_groups.proofs.grouping.group_rows.Goals as goal

pub key_row-requires : goal.key_row-requires
key_row-requires c =
    at-item (λ key. All (CanAggregate (rows_of key (map one_in c.args.keyed.now))) c.args.aggregates.now) c.args.keys.now c.loop-key.key-index c.key-item.result c.requires c.loop-key-test.true c.key-item.is

pub loop-key-preserved : goal.loop-key-preserved
loop-key-preserved c =
    flat-next (λ key. group_row (map aggregation_of c.args.aggregates.now) key (rows_of key (map one_in c.args.keyed.now)) ∷ []) c.args.keys.now c.loop-key.key-index c.key-item.result
    c.loop-key.rows.items c.push.new.self.items c.loop-key-test.true c.key-item.is c.loop-key.invariant
    (c.in_ok-push.ensures.items ∙ ap (λ (row : Row). c.loop-key.rows.items ++ row ∷ []) c.in_ok-key_row.ensures)
