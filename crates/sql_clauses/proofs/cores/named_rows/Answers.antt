use Rattle.std.proofs.Common.{◌≡◌, true, ◌∙◌, sym}
use Rattle.sql_clauses.specs.Cores.{is_narrow}
use Rattle.sql_clauses.specs.Grouping.{most_places}
use Rattle.sql_clauses.proofs.Gathering.{more_among, narrow_few}
use Rattle.std.specs.Prelude.{length}
use Rattle.sql_clauses.proofs.cores.named_rows.Goals as goal

pub narrow_rows-requires-clause-calls : goal.narrow_rows-requires-clause-calls
narrow_rows-requires-clause-calls c =
    let narrow : is_narrow c.args.core c.args.all ≡ true = sym c.is_narrow.ensures ∙ c.if-not-is_narrow.false in
    more_among (length c.args.all.aggregates) most_places c.args.all.calls
    (narrow_few (length c.args.core.selected.outputs.trees) (length c.args.core.keys) (length c.args.all.aggregates) narrow) c.requires
