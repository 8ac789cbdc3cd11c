use Rattle.std.proofs.Common.{◌≡◌, ap, sym, ◌∙◌}
use Rattle.sql_scope.specs.Texts.{folded_at}
use Rattle.sql_scope.specs.Scopes.{found, spots, is_in}
use Rattle.sql_scope.proofs.Going.{same_answer}
use Rattle.sql_scope.proofs.Finding.{two_names}
use Rattle.sql_scope.proofs.names.qualified.Goals as goal

pub returns : goal.returns
returns c =
    let wanted : c.in_ok-wanted.wanted.items ≡ folded_at c.script.result.now c.args.source = c.in_ok-wanted.ensures in
    let text : c.in_ok-text.text.items ≡ folded_at c.script-2.result.now c.args.name = c.in_ok-text.ensures in
    same_answer _ _ c.in_source.result
    (two_names c.args.source.start c.find_source-found.result c.find_in-named.result c.as_slice.result.now c.as_slice-3.result.now _ _ c.columns.result.now c.columns-2.result.now _
    c.find_source-found.ensures (c.find_in-named.ensures ∙ ap (λ n. found (spots (is_in n c.as_slice-3.result.now) 0 c.columns-2.result.now)) (c.as_slice-2.ensures.value ∙ sym c.as_slice.ensures.value))
    (c.as_slice.ensures.value ∙ wanted ∙ ap (λ s. folded_at s c.args.source) c.script.ensures.script)
    (c.as_slice-3.ensures.value ∙ text ∙ ap (λ s. folded_at s c.args.name) c.script-2.ensures.script) c.columns.ensures.columns c.columns-2.ensures.columns)
    c.in_source.ensures
