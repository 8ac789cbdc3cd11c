use Rattle.std.proofs.Common.{refl, ap, ◌∙◌, false, Ok}
use Rattle.sql_grammar.specs.declared.tree.expr.Argument.TheOpen.{Item-F}
use Rattle.sql_grammar.specs.declared.tree.expr.Argument.TheViews.{out-Item, outs-Item::Star, outs-SourceStar, outs-Item::Value}
use Rattle.bind_rules.proofs.AggregateArms.{item_stands, stands_at}
use Rattle.bind_rules.proofs.aggregates.in_item.Goals as goal

pub returns-in-Star : goal.returns-in-Star
returns-in-Star c =
    item_stands c.args.scope.now.script c.args.item.now (Item-F.Item::Star c.in-Star._place) (Ok false) (ap out-Item c.in-Star.is ∙ outs-Item::Star c.in-Star._place) refl

pub returns-in-SourceStar : goal.returns-in-SourceStar
returns-in-SourceStar c =
    item_stands c.args.scope.now.script c.args.item.now (Item-F.SourceStar c.in-SourceStar._source) (Ok false) (ap out-Item c.in-SourceStar.is ∙ outs-SourceStar c.in-SourceStar._source) refl

pub returns-in-Value : goal.returns-in-Value
returns-in-Value c =
    item_stands c.args.scope.now.script c.args.item.now (Item-F.Item::Value c.in-Value.value c.in-Value.alias) c.in_expression.result
    (ap out-Item c.in-Value.is ∙ outs-Item::Value c.in-Value.value c.in-Value.alias)
    (stands_at c.args.scope.now.script c.in-Value.value c.get.result.now c.in_expression.result c.get.ensures c.in_expression.ensures)
