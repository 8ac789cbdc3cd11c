use Rattle.std.proofs.Common.{◌≡◌, ap, ◌∙◌}
use Rattle.sql_scope.specs.Texts.{folded_at}
use Rattle.sql_scope.proofs.Going.{same_answer}
use Rattle.sql_scope.proofs.Finding.{one_name}
use Rattle.sql_scope.proofs.names.unqualified.Goals as goal

pub returns : goal.returns
returns c =
    let text : c.in_ok-text.text.items ≡ folded_at c.script.result.now c.args.name = c.in_ok-text.ensures in
    same_answer _ _ c.only.result
    (one_name c.args.name.start c.find_named.result c.as_slice.result.now _ c.columns.result.now _ c.find_named.ensures
    (c.as_slice.ensures.value ∙ text ∙ ap (λ s. folded_at s c.args.name) c.script.ensures.script) c.columns.ensures.columns)
    c.only.ensures
