use Rattle.std.proofs.Common.{◌≡◌, rules, arith}
use Rattle.std.proofs.lemmas.Grind.{common_steps}
use Rattle.sql_clauses.specs.Aggregates.{gathered}
use Rattle.sql_clauses.proofs.Gathering.{among_same, are_among}
use Rattle.sql_clauses.proofs.aggregates.gather.Goals as goal

pub returns-clause-among : goal.returns-clause-among
returns-clause-among c =
    let is : c.loop-call.all ≡ gathered c.args.calls = first_of (search rules, grind (arith, common_steps)) in
    among_same c.loop-call.all (gathered c.args.calls) is (are_among c.args.calls)
