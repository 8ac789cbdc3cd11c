use Rattle.std.proofs.Common.{◌≡◌, ap, ◌∙◌}
use Rattle.sql_scope.specs.Texts.{folded_at}
use Rattle.sql_scope.proofs.Going.{same_answer}
use Rattle.sql_clauses.specs.Items.{known_source}
use Rattle.sql_clauses.proofs.items.columns_of_source.Goals as goal

pub returns : goal.returns
returns c =
    let name : c.in_ok-name.name ≡ folded_at c.args.scope.now.script c.args.source = c.in_ok-name.ensures in
    same_answer _ _ c.known_source.result
    (ap (λ n. known_source c.args.scope.now c.args.grouped c.args.source.start n c.args.outputs) (c.as_bytes.ensures ∙ name))
    c.known_source.ensures
