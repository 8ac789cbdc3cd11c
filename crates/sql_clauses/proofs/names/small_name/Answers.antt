use Rattle.std.proofs.Common.{◌≡◌, ap, ◌∙◌}
use Rattle.sql_scope.specs.Texts.{folded_at}
use Rattle.sql_clauses.proofs.names.small_name.Goals as goal

pub returns : goal.returns
returns c =
    let name : c.in_ok-name.name.items ≡ folded_at c.script.result.now c.args.span = c.in_ok-name.ensures in
    c.from_vec.ensures ∙ name ∙ ap (λ s. folded_at s c.args.span) c.script.ensures.script
