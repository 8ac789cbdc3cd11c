use Rattle.std.proofs.Common.{◌≡◌, ap, ◌∙◌}
use Rattle.sql_scope.specs.Texts.{folded_at}
use Rattle.sql_scope.proofs.Going.{same_answer}
use Rattle.sql_clauses.specs.Order.{output_of}
use Rattle.sql_clauses.proofs.order.qualified_key.Goals as goal

pub returns : goal.returns
returns c =
    let wanted : c.in_ok-wanted.wanted ≡ folded_at c.args.scope.now.script c.args.source = c.in_ok-wanted.ensures in
    let text : c.in_ok-text.text ≡ folded_at c.args.scope.now.script c.args.name = c.in_ok-text.ensures in
    same_answer _ _ c.output_of.result
    (ap (λ s. output_of c.args.sources.now c.args.source.start s c.as_bytes-2.result.now c.args.plain.now) (c.as_bytes.ensures ∙ wanted)
    ∙ ap (λ n. output_of c.args.sources.now c.args.source.start (folded_at c.args.scope.now.script c.args.source) n c.args.plain.now) (c.as_bytes-2.ensures ∙ text))
    c.output_of.ensures
