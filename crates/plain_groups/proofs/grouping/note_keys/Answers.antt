use Rattle.std.proofs.Common.{map, All}
use Rattle.sql_meaning.specs.Groups.{group_faults, rows_of}
use Rattle.sql_meaning.specs.Statements.{aggregation_of}
use Rattle.plain_groups.specs.Keys.{one_in}
use Rattle.plain_groups.specs.Sums.{FitsRows}
use Rattle.plain_groups.proofs.Keying.{at-item, flat-behind}
use Rattle.plain_groups.proofs.grouping.note_keys.Goals as goal

pub note_key-requires : goal.note_key-requires
note_key-requires c =
    at-item (λ key. All (FitsRows (rows_of key (map one_in c.args.keyed.now))) c.args.aggregates.now) c.args.keys.now c.loop-key.key-index c.key-item.result c.requires c.loop-key-test.true c.key-item.is

pub loop-key-preserved : goal.loop-key-preserved
loop-key-preserved c =
    flat-behind (λ key. group_faults (map aggregation_of c.args.aggregates.now) (rows_of key (map one_in c.args.keyed.now))) c.args.keys.now c.loop-key.key-index c.key-item.result
    c.args.into.now.items c.loop-key.into.items c.note_key.new.into.items c.loop-key-test.true c.key-item.is c.loop-key.invariant c.in_ok-note_key.ensures
