use Rattle.std.proofs.Common.{map, subst, sym, ap, ◌∙◌, All, List}
use Rattle.sql_meaning.specs.Found.{Row}
use Rattle.sql_meaning.specs.Groups.{rows_of}
use Rattle.plain_groups.specs.Keys.{one_in}
use Rattle.plain_groups.specs.Sums.{FitsRows}
use Rattle.plain_groups.proofs.grouping.note_key.Goals as goal

pub note_group-requires : goal.note_group-requires
note_group-requires c =
    let are = c.as_slice-2.ensures.value ∙ c.in_ok-rows.ensures ∙ ap (λ (key : Row). rows_of key (map one_in c.args.keyed.now)) c.as_slice.ensures in
    subst (λ (rows : List Row). All (FitsRows rows) c.args.aggregates.now) (sym are) c.requires
