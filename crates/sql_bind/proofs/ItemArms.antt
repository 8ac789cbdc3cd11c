-- Items and joins in the walk.
use Rattle.std.proofs.Common.{◌≡◌, Bool, subst}
use Rattle.std.specs.Prelude.{Option, Result}
use Rattle.bound_tree.specs.declared.kinds.JoinKind.{JoinKind}
use Rattle.sql_grammar.specs.declared.tree.expr.Span.{Span}
use Rattle.sql_grammar.specs.declared.tree.expr.Expr.{Expr}
use Rattle.sql_grammar.specs.declared.tree.select.Condition.{Condition}
use Rattle.sql_grammar.specs.declared.tree.select.Item.{Item}
use Rattle.sql_grammar.specs.declared.tree.select.Join.{Join}
use Rattle.sql_grammar.specs.declared.tree.select.Source.{Source}
use Rattle.sql_grammar.specs.declared.tree.expr.Argument.TheOpen.{Item-F, Join-F}
use Rattle.sql_grammar.specs.declared.tree.expr.Argument.TheViews.{out-Item, out-Join}
use Rattle.sql_scope.specs.declared.fault.BindFault.{BindFault}
use Rattle.sql_scope.specs.declared.part.Part.{Part}
use Rattle.sql_scope.specs.Answer.{Gives, GoesOn, GoesOnBoth}
use Rattle.sql_scope.specs.Scopes.{View}
use Rattle.sql_clauses.specs.declared.items.Outputs.{Outputs}
use Rattle.sql_clauses.specs.declared.sources.Sources.{Sources}
use Rattle.sql_clauses.specs.Items.{value_item}
use Rattle.bind_rules.specs.Bound.{expr_binding, item_binding, join_binding, source_binding}
use Rattle.bind_rules.specs.From.{join_kind}
use Rattle.bind_rules.proofs.Arms.{item_goes, join_goes}
use Rattle.bind_rules.proofs.Going.{on_beside}
use Rattle.bind_rules.proofs.Steps.{part_at}

pub value_item_arm : (view : View) (grouped : Bool) (e : Item) (value lent : Expr) (alias : Option Span) (before result : Result Outputs BindFault) (part : Result Part BindFault)
    → out-Item e ≡ Item-F.Item::Value value alias → lent ≡ value → Gives ((expr_binding lent).part view) part → GoesOnBoth (value_item view grouped alias) before part result
    → GoesOn ((item_binding e).outputs view grouped) before result
value_item_arm view grouped e value lent alias before result part is at given on =
    item_goes view grouped e (Item-F.Item::Value value alias) before result is
    (on_beside ((expr_binding value).part view) (value_item view grouped alias) before part result (part_at view value lent part at given) on)

pub joined_arm : (view : View) (e : Join) (outer : Bool) (source : Source) (on : Condition) (kind : JoinKind) (before result : Result Sources BindFault)
    → out-Join e ≡ Join-F.On outer source on → kind ≡ join_kind outer → GoesOn ((source_binding source).sources view kind) before result → GoesOn ((join_binding e).sources view) before result
joined_arm view e outer source on kind before result is same goes =
    join_goes view e (Join-F.On outer source on) before result is (subst (λ k. GoesOn ((source_binding source).sources view k) before result) same goes)
