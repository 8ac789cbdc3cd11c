use Rattle.std.proofs.Common.{◌≡◌, ap, ◌∙◌}
use Rattle.sql_lex.specs.Values.{unquoted}
use Rattle.sql_scope.specs.Texts.{text_at}
use Rattle.sql_scope.proofs.Going.{same_answer}
use Rattle.sql_scope.proofs.Finding.{one_text}
use Rattle.sql_scope.proofs.literals.text_literal.Goals as goal

pub returns : goal.returns
returns c =
    let text : c.in_ok-text.text.items ≡ unquoted c.text_at.result.now = c.in_ok-text.ensures in
    let is = c.from_vec.ensures ∙ text ∙ ap unquoted (c.text_at.ensures ∙ ap (λ s. text_at s c.args.span) c.script.ensures.script) in
    same_answer _ _ c.limited.result (one_text c.limit.result _ c.args.span.start c.from_vec.result _ c.limit.ensures is) c.limited.ensures
