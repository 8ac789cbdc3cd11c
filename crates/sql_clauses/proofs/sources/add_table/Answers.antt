use Rattle.std.proofs.Common.{◌≡◌, ap, ◌∙◌}
use Rattle.sql_scope.specs.Texts.{folded_at}
use Rattle.sql_scope.proofs.Going.{same_answer}
use Rattle.sql_clauses.specs.Names.{name_of}
use Rattle.sql_clauses.specs.Sources.{named_table}
use Rattle.sql_clauses.proofs.sources.add_table.Goals as goal

pub returns : goal.returns
returns c =
    let table : c.in_ok-table.table ≡ folded_at c.args.scope.now.script c.args.name = c.in_ok-table.ensures in
    let text : c.in_ok-text.text ≡ name_of c.args.scope.now c.source_name-called.result = c.in_ok-text.ensures in
    same_answer _ _ c.named_table.result
    (ap (λ t. named_table c.args.scope.now c.args.name.start t c.source_name-called.result.start c.in_ok-text.text c.args.join c.args.sources) table
    ∙ ap (λ n. named_table c.args.scope.now c.args.name.start (folded_at c.args.scope.now.script c.args.name) c.source_name-called.result.start n c.args.join c.args.sources) text
    ∙ ap (λ s. named_table c.args.scope.now c.args.name.start (folded_at c.args.scope.now.script c.args.name) s.start (name_of c.args.scope.now s) c.args.join c.args.sources) c.source_name-called.ensures)
    c.named_table.ensures
