-- A node of the tree in the walk: what its children were bound to makes what it is bound to.
use Rattle.std.proofs.Common.{◌≡◌, ℕ, Bool, List, map, sym, ap, subst, ◌∙◌, refl}
use Rattle.std.specs.Prelude.{Result, Ok}
use Rattle.bound_tree.specs.declared.kinds.JoinKind.{JoinKind}
use Rattle.sql_grammar.specs.declared.tree.expr.Span.{Span}
use Rattle.sql_grammar.specs.declared.tree.expr.Argument.{Argument}
use Rattle.sql_grammar.specs.declared.tree.expr.Expr.{Expr}
use Rattle.sql_grammar.specs.declared.tree.expr.Expr.TheVariants.{rolls-Member, rolls-Every}
use Rattle.sql_grammar.specs.declared.tree.expr.Expr.TheVariants as variant
use Rattle.sql_grammar.specs.declared.tree.expr.Link.{Link}
use Rattle.sql_grammar.specs.declared.tree.expr.Operand.{Operand}
use Rattle.sql_grammar.specs.declared.tree.select.Condition.{Condition}
use Rattle.sql_grammar.specs.declared.tree.select.Item.{Item}
use Rattle.sql_grammar.specs.declared.tree.select.Join.{Join}
use Rattle.sql_grammar.specs.declared.tree.select.Rows.{Rows}
use Rattle.sql_grammar.specs.declared.tree.select.Select.{Select}
use Rattle.sql_grammar.specs.declared.tree.select.SetOperand.{SetOperand}
use Rattle.sql_grammar.specs.declared.tree.select.Source.{Source}
use Rattle.sql_grammar.specs.declared.tree.expr.Argument.TheOpen.{Argument-F, Expr-F, Item-F, Join-F, Rows-F, Source-F}
use Rattle.sql_grammar.specs.declared.tree.expr.Argument.TheViews.{roll-Expr, roll-out-Expr, out-Argument, out-Expr, out-Item, out-Join, out-Rows, out-Source}
use Rattle.sql_scope.specs.declared.fault.BindFault.{BindFault}
use Rattle.sql_scope.specs.declared.part.Part.{Part}
use Rattle.sql_scope.specs.Answer.{Answer, Gives, GoesOn, each, ◌>>=◌}
use Rattle.sql_scope.specs.Scopes.{View}
use Rattle.sql_scope.proofs.Each.{each-map}
use Rattle.sql_scope.proofs.Going.{same_answer, goes_on}
use Rattle.sql_clauses.specs.declared.conditions.FilterOperand.{FilterOperand}
use Rattle.sql_clauses.specs.declared.conditions.Filter.{Filter}
use Rattle.sql_clauses.specs.declared.items.Outputs.{Outputs}
use Rattle.sql_clauses.specs.Conditions.{plain_operand, begun}
use Rattle.sql_clauses.specs.declared.joins.Joined.{Joined}
use Rattle.sql_clauses.specs.declared.rows.Unordered.{Unordered}
use Rattle.sql_clauses.specs.declared.sources.Sources.{Sources}
use Rattle.bind_rules.specs.Bindings.{ArgumentBinding, ExprBinding, ItemBinding, JoinBinding, RowsBinding, SourceBinding}
use Rattle.bind_rules.specs.Bound.{argument_binding, expr_binding, item_binding, join_binding, rows_binding, source_binding}
use Rattle.bind_rules.specs.Expressions as expressions
use Rattle.bind_rules.specs.Selects as selects
use Rattle.bind_rules.proofs.Going.{same_on}
use Rattle.bind_rules.proofs.Nodes.{argument_children, argument_is, expr_children, expr_is, item_children, item_is, join_children, join_is, rows_children, rows_is, source_children, source_is}

pub expr_gives : (view : View) (e : Expr) (x : Expr-F Argument Expr Item Join Rows Source Link Operand Condition Select SetOperand) (result : Result Part BindFault) → out-Expr e ≡ x
    → Gives (expressions.part_over view (expr_children x)) result → Gives ((expr_binding e).part view) result
expr_gives view e x result is on = subst (λ (b : ExprBinding). Gives (b.part view) result) (sym (expr_is e x is)) on

pub operand_gives : (view : View) (e : Expr) (x : Expr-F Argument Expr Item Join Rows Source Link Operand Condition Select SetOperand) (result : Result FilterOperand BindFault) → out-Expr e ≡ x
    → Gives (expressions.operand_over view (expr_children x)) result → Gives ((expr_binding e).operand view) result
operand_gives view e x result is on = subst (λ (b : ExprBinding). Gives (b.operand view) result) (sym (expr_is e x is)) on

pub filter_gives : (view : View) (e : Expr) (x : Expr-F Argument Expr Item Join Rows Source Link Operand Condition Select SetOperand) (result : Result Filter BindFault) → out-Expr e ≡ x
    → Gives (expressions.filter_over view (expr_children x)) result → Gives ((expr_binding e).filter view) result
filter_gives view e x result is on = subst (λ (b : ExprBinding). Gives (b.filter view) result) (sym (expr_is e x is)) on

pub argument_gives : (view : View) (name : Span) (e : Argument) (x : Argument-F Argument Expr Item Join Rows Source Link Operand Condition Select SetOperand) (result : Result Part BindFault) → out-Argument e ≡ x
    → Gives (expressions.call_over view name (argument_children x)) result → Gives ((argument_binding e).call view name) result
argument_gives view name e x result is on = subst (λ (b : ArgumentBinding). Gives (b.call view name) result) (sym (argument_is e x is)) on

pub item_goes : (view : View) (grouped : Bool) (e : Item) (x : Item-F Argument Expr Item Join Rows Source Link Operand Condition Select SetOperand) (before result : Result Outputs BindFault) → out-Item e ≡ x
    → GoesOn (selects.item_over view grouped (item_children x)) before result → GoesOn ((item_binding e).outputs view grouped) before result
item_goes view grouped e x before result is on = subst (λ (b : ItemBinding). GoesOn (b.outputs view grouped) before result) (sym (item_is e x is)) on

pub source_goes : (view : View) (join : JoinKind) (e : Source) (x : Source-F Argument Expr Item Join Rows Source Link Operand Condition Select SetOperand) (before result : Result Sources BindFault) → out-Source e ≡ x
    → GoesOn (selects.source_over view join (source_children x)) before result → GoesOn ((source_binding e).sources view join) before result
source_goes view join e x before result is on = subst (λ (b : SourceBinding). GoesOn (b.sources view join) before result) (sym (source_is e x is)) on

pub join_goes : (view : View) (e : Join) (x : Join-F Argument Expr Item Join Rows Source Link Operand Condition Select SetOperand) (before result : Result Sources BindFault) → out-Join e ≡ x
    → GoesOn (selects.joined_source view (join_children x)) before result → GoesOn ((join_binding e).sources view) before result
join_goes view e x before result is on = subst (λ (b : JoinBinding). GoesOn (b.sources view) before result) (sym (join_is e x is)) on

pub on_goes : (view : View) (e : Join) (x : Join-F Argument Expr Item Join Rows Source Link Operand Condition Select SetOperand) (before result : Result Joined BindFault) → out-Join e ≡ x
    → GoesOn (selects.on_over view (join_children x)) before result → GoesOn ((join_binding e).on view) before result
on_goes view e x before result is on = subst (λ (b : JoinBinding). GoesOn (b.on view) before result) (sym (join_is e x is)) on

pub rows_gives : (view : View) (e : Rows) (x : Rows-F Argument Expr Item Join Rows Source Link Operand Condition Select SetOperand) (result : Result Unordered BindFault) → out-Rows e ≡ x
    → Gives (selects.rows_over view (rows_children x)) result → Gives ((rows_binding e).rows view) result
rows_gives view e x result is on = subst (λ (b : RowsBinding). Gives (b.rows view) result) (sym (rows_is e x is)) on

-- a loop over the tree is one over what its nodes are bound to
pub over_bound : {A X Y : Type 0} (step : Y → A → Answer A) (f : X → Y) (list : List X) (first result : Result A BindFault)
    → GoesOn (λ a. each (λ x. step (f x)) (Ok a) list) first result → GoesOn (λ a. each step (Ok a) (map f list)) first result
over_bound step f list first result on = same_on (λ a. each (λ x. step (f x)) (Ok a) list) (λ a. each step (Ok a) (map f list)) first result (λ a. each-map step f (Ok a) list) on

-- IN with a subquery alone is more than a part
plain_node : (view : View) (e : Expr) (x : Expr-F Argument Expr Item Join Rows Source Link Operand Condition Select SetOperand) → out-Expr e ≡ x
    → ((place : ℕ) (negated : Bool) (operand : Expr) (query : Select) → e ≡ variant.Member place negated operand query → ⊥)
    → expressions.operand_over view (expr_children x) ≡ (expressions.part_over view (expr_children x) >>= plain_operand)
plain_node view e (Expr-F.Literal written) is other = refl
plain_node view e (Expr-F.Column written) is other = refl
plain_node view e (Expr-F.Call name argument) is other = refl
plain_node view e (Expr-F.Minus place operand) is other = refl
plain_node view e (Expr-F.Not place operand) is other = refl
plain_node view e (Expr-F.Chain first links) is other = refl
plain_node view e (Expr-F.Every first others) is other = refl
plain_node view e (Expr-F.Either first others) is other = refl
plain_node view e (Expr-F.Compare place sign left right) is other = refl
plain_node view e (Expr-F.IsNull place negated operand) is other = refl
plain_node view e (Expr-F.Like place negated operand pattern) is other = refl
plain_node view e (Expr-F.OneOf place negated operand list) is other = refl
plain_node view e (Expr-F.Member place negated operand query) is other = absurd (other place negated operand query (sym (roll-out-Expr e) ∙ ap roll-Expr is ∙ rolls-Member place negated operand query))
plain_node view e (Expr-F.Between place negated operand low high) is other = refl

pub plain_arm : (view : View) (e : Expr) (part : Result Part BindFault) (result : Result FilterOperand BindFault)
    → ((place : ℕ) (negated : Bool) (operand : Expr) (query : Select) → e ≡ variant.Member place negated operand query → ⊥)
    → Gives ((expr_binding e).part view) part → GoesOn plain_operand part result → Gives ((expr_binding e).operand view) result
plain_arm view e part result other given on =
    operand_gives view e (out-Expr e) result refl
    (same_answer (expressions.part_over view (expr_children (out-Expr e)) >>= plain_operand) (expressions.operand_over view (expr_children (out-Expr e))) result (sym (plain_node view e (out-Expr e) refl other))
    (goes_on (expressions.part_over view (expr_children (out-Expr e))) plain_operand part result (subst (λ (b : ExprBinding). Gives (b.part view) part) (expr_is e (out-Expr e) refl) given) on))

-- AND alone has several operands
filter_node : (view : View) (e : Expr) (x : Expr-F Argument Expr Item Join Rows Source Link Operand Condition Select SetOperand) → out-Expr e ≡ x
    → ((first : Expr) (others : List Operand) → e ≡ variant.Every first others → ⊥)
    → expressions.filter_over view (expr_children x) ≡ (expressions.operand_over view (expr_children x) >>= begun)
filter_node view e (Expr-F.Literal written) is other = refl
filter_node view e (Expr-F.Column written) is other = refl
filter_node view e (Expr-F.Call name argument) is other = refl
filter_node view e (Expr-F.Minus place operand) is other = refl
filter_node view e (Expr-F.Not place operand) is other = refl
filter_node view e (Expr-F.Chain first links) is other = refl
filter_node view e (Expr-F.Every first others) is other = absurd (other first others (sym (roll-out-Expr e) ∙ ap roll-Expr is ∙ rolls-Every first others))
filter_node view e (Expr-F.Either first others) is other = refl
filter_node view e (Expr-F.Compare place sign left right) is other = refl
filter_node view e (Expr-F.IsNull place negated operand) is other = refl
filter_node view e (Expr-F.Like place negated operand pattern) is other = refl
filter_node view e (Expr-F.OneOf place negated operand list) is other = refl
filter_node view e (Expr-F.Member place negated operand query) is other = refl
filter_node view e (Expr-F.Between place negated operand low high) is other = refl

pub filter_arm : (view : View) (e : Expr) (operand : Result FilterOperand BindFault) (result : Result Filter BindFault) → ((first : Expr) (others : List Operand) → e ≡ variant.Every first others → ⊥)
    → Gives ((expr_binding e).operand view) operand → GoesOn begun operand result → Gives ((expr_binding e).filter view) result
filter_arm view e operand result other given on =
    filter_gives view e (out-Expr e) result refl
    (same_answer (expressions.operand_over view (expr_children (out-Expr e)) >>= begun) (expressions.filter_over view (expr_children (out-Expr e))) result (sym (filter_node view e (out-Expr e) refl other))
    (goes_on (expressions.operand_over view (expr_children (out-Expr e))) begun operand result (subst (λ (b : ExprBinding). Gives (b.operand view) operand) (expr_is e (out-Expr e) refl) given) on))
