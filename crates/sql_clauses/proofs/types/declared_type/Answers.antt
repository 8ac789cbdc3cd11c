use Rattle.std.proofs.Common.{◌≡◌, ap, ◌∙◌}
use Rattle.sql_scope.proofs.Going.{same_answer}
use Rattle.sql_scope.specs.Texts.{folded_at}
use Rattle.sql_clauses.specs.Types.{type_word, type_of_word}
use Rattle.sql_clauses.proofs.types.declared_type.Goals as goal

pub returns : goal.returns
returns c =
    let name : c.in_ok-name.name ≡ folded_at c.args.scope.now.script c.args.written.name = c.in_ok-name.ensures in
    same_answer _ _ c.type_of_word.result
    (ap (type_of_word c.args.scope.now c.args.written.name.start c.args.written.sizes) (c.type_word-word.ensures ∙ ap type_word (c.as_bytes.ensures ∙ name)))
    c.type_of_word.ensures
