use Rattle.std.proofs.Common.{arith}
use Rattle.std.proofs.lemmas.Grind.{common_steps}
use Rattle.result_print.proofs.Joined.{in_quotes}
use Rattle.result_print.proofs.field.push_quoted.Goals as goal

pub returns-clause-ok : goal.returns-clause-ok
returns-clause-ok c =
    let e = in_quotes c.args.into.now.items c.args.bytes.now in
    grind (arith, common_steps, e)
