use Rattle.std.proofs.Common.{ap, sym, ◌∙◌}
use Rattle.sql_grammar.specs.declared.tree.expr.Argument.TheOpen.{Source-F}
use Rattle.sql_grammar.specs.declared.tree.expr.Argument.TheViews.{out-Source, outs-Table, outs-Query}
use Rattle.bind_rules.specs.Bindings.{SourceBinding}
use Rattle.bind_rules.proofs.Nodes.{source_is}
use Rattle.bind_rules.proofs.sources.first_token.Goals as goal

pub returns-in-Table : goal.returns-in-Table
returns-in-Table c =
    sym (ap (λ (b : SourceBinding). b.place) (source_is c.args.source.now (Source-F.Table c.in-Table.name c.in-Table.alias)
    (ap out-Source c.in-Table.is ∙ outs-Table c.in-Table.name c.in-Table.alias)))

pub returns-in-Query : goal.returns-in-Query
returns-in-Query c =
    sym (ap (λ (b : SourceBinding). b.place) (source_is c.args.source.now (Source-F.Query c.in-Query.place c.in-Query.query c.in-Query.alias)
    (ap out-Source c.in-Query.is ∙ outs-Query c.in-Query.place c.in-Query.query c.in-Query.alias)))
