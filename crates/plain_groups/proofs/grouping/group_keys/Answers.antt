use Rattle.std.proofs.Common.{◌≡◌, length, map, sym, ◌∙◌, arith}
use Rattle.sql_meaning.specs.Groups.{group_faults, rows_of}
use Rattle.sql_meaning.specs.Statements.{aggregation_of}
use Rattle.plain_groups.specs.Keys.{one_in}
use Rattle.std.specs.Prelude.{flat_map}
use Rattle.std.proofs.lemmas.List.{nil_from_length}
use Rattle.std.proofs.lemmas.Grind.{common_steps}
use Rattle.plain_groups.proofs.Keying.{back-empty}
use Rattle.plain_groups.proofs.grouping.group_keys.Goals as goal

pub group_rows-requires : goal.group_rows-requires
group_rows-requires c =
    let ones = map one_in c.args.keyed.now in
    let none : length c.note_keys.new.into.items ≡ 0 = grind (arith, common_steps, c.is_empty.ensures, c.if-is_empty.true) in
    c.requires.sums (back-empty c.args.noted.items (flat_map (λ key. group_faults (map aggregation_of c.args.aggregates.now) (rows_of key ones)) c.args.keys.now)
    (sym c.in_ok-note_keys.ensures ∙ nil_from_length c.note_keys.new.into.items none))
