use Rattle.std.proofs.Common.{◌≡◌, ap, ◌∙◌}
use Rattle.sql_lex.specs.Values.{unquoted}
use Rattle.sql_scope.specs.Texts.{text_at}
use Rattle.sql_clauses.proofs.names.literal_text.Goals as goal

pub returns : goal.returns
returns c =
    let text : c.in_ok-text.text.items ≡ unquoted c.text_at.result.now = c.in_ok-text.ensures in
    c.from_vec.ensures ∙ text ∙ ap unquoted (c.text_at.ensures ∙ ap (λ s. text_at s c.args.span) c.script.ensures.script)
