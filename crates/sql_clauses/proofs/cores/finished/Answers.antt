use Rattle.std.proofs.Common.{◌≡◌, ap, ◌∙◌}
use Rattle.sql_scope.proofs.Going.{same_answer}
use Rattle.sql_clauses.specs.Aggregates.{gathered}
use Rattle.sql_clauses.specs.Cores.{named_rows, finished}
use Rattle.sql_clauses.proofs.cores.finished.Goals as goal

pub returns : goal.returns
returns c =
    let calls : c.replace-calls.result ≡ c.args.core.selected.outputs.calls = c.replace-calls.ensures.value in
    let all : c.in_ok-all.all ≡ gathered c.replace-calls.result = c.in_ok-all.ensures.gathered in
    same_answer (named_rows c.args.core c.in_ok-all.all) (finished c.args.core) c.named_rows.result
    (ap (named_rows c.args.core) (all ∙ ap gathered calls)) c.named_rows.ensures
