-- Whether an aggregate stands in a node, by whether one stands in its children.
use Rattle.std.proofs.Common.{◌≡◌, Bool, List, ℕ, sym, ap, subst}
use Rattle.std.specs.Prelude.{◌||◌, Result, IfOk}
use Rattle.ooc_types.specs.declared.memory.OutOfMemory.{OutOfMemory}
use Rattle.sql_grammar.specs.declared.tree.expr.Argument.{Argument}
use Rattle.sql_grammar.specs.declared.tree.expr.Expr.{Expr}
use Rattle.sql_grammar.specs.declared.tree.expr.Link.{Link}
use Rattle.sql_grammar.specs.declared.tree.expr.Operand.{Operand}
use Rattle.sql_grammar.specs.declared.tree.select.Condition.{Condition}
use Rattle.sql_grammar.specs.declared.tree.select.Item.{Item}
use Rattle.sql_grammar.specs.declared.tree.select.Join.{Join}
use Rattle.sql_grammar.specs.declared.tree.select.Rows.{Rows}
use Rattle.sql_grammar.specs.declared.tree.select.Select.{Select}
use Rattle.sql_grammar.specs.declared.tree.select.SetOperand.{SetOperand}
use Rattle.sql_grammar.specs.declared.tree.select.Source.{Source}
use Rattle.sql_grammar.specs.declared.tree.expr.Argument.TheOpen.{Argument-F, Expr-F, Item-F}
use Rattle.sql_grammar.specs.declared.tree.expr.Argument.TheViews.{out-Argument, out-Expr, out-Item}
use Rattle.sql_clauses.specs.Makes.{MakesBoth}
use Rattle.sql_clauses.proofs.MakesLaws.{same_made, makes_both}
use Rattle.bind_rules.specs.Bindings.{ArgumentBinding, ExprBinding, ItemBinding}
use Rattle.bind_rules.specs.Bound.{argument_binding, expr_binding, item_binding, link_aggregates, operand_aggregates}
use Rattle.bind_rules.specs.Expressions as expressions
use Rattle.bind_rules.specs.Selects as selects
use Rattle.bind_rules.proofs.Nodes.{argument_children, argument_is, expr_children, expr_is, item_children, item_is, link_is, operand_is}

-- that one stands in it, or not, is known where memory suffices
abbrev pub Stands : Bool → Result Bool OutOfMemory → Type 0
Stands holds got = IfOk got (λ s. s ≡ holds)

pub expr_stands : (script : List ℕ) (e : Expr) (x : Expr-F Argument Expr Item Join Rows Source Link Operand Condition Select SetOperand) (got : Result Bool OutOfMemory) → out-Expr e ≡ x
    → Stands (expressions.aggregates_in script (expr_children x)) got → Stands ((expr_binding e).aggregates script) got
expr_stands script e x got is stands =
    same_made (expressions.aggregates_in script (expr_children x)) ((expr_binding e).aggregates script) got (sym (ap (λ (b : ExprBinding). b.aggregates script) (expr_is e x is))) stands

pub argument_stands : (script : List ℕ) (e : Argument) (x : Argument-F Argument Expr Item Join Rows Source Link Operand Condition Select SetOperand) (got : Result Bool OutOfMemory) → out-Argument e ≡ x
    → Stands (expressions.argument_aggregates script (argument_children x)) got → Stands ((argument_binding e).aggregates script) got
argument_stands script e x got is stands =
    same_made (expressions.argument_aggregates script (argument_children x)) ((argument_binding e).aggregates script) got (sym (ap (λ (b : ArgumentBinding). b.aggregates script) (argument_is e x is))) stands

pub item_stands : (script : List ℕ) (e : Item) (x : Item-F Argument Expr Item Join Rows Source Link Operand Condition Select SetOperand) (got : Result Bool OutOfMemory) → out-Item e ≡ x
    → Stands (selects.item_aggregates script (item_children x)) got → Stands ((item_binding e).aggregates script) got
item_stands script e x got is stands =
    same_made (selects.item_aggregates script (item_children x)) ((item_binding e).aggregates script) got (sym (ap (λ (b : ItemBinding). b.aggregates script) (item_is e x is))) stands

-- an expression that was lent
pub stands_at : (script : List ℕ) (e lent : Expr) (got : Result Bool OutOfMemory) → lent ≡ e → Stands ((expr_binding lent).aggregates script) got → Stands ((expr_binding e).aggregates script) got
stands_at script e lent got is stands = subst (λ x. Stands ((expr_binding x).aggregates script) got) is stands

pub either_stands : (a b : Bool) (got other result : Result Bool OutOfMemory) → Stands a got → Stands b other → MakesBoth (λ x y. x || y) got other result → Stands (a || b) result
either_stands a b got other result stands there made = makes_both (λ x y. x || y) a b got other result stands there made

pub link_stands : (script : List ℕ) (link : Link) (lent : Expr) (got : Result Bool OutOfMemory) → lent ≡ link.right → Stands ((expr_binding lent).aggregates script) got → Stands (link_aggregates script link) got
link_stands script link lent got is stands =
    same_made ((expr_binding link.right).aggregates script) (link_aggregates script link) got (sym (ap (expressions.link_aggregates script) (link_is link))) (stands_at script link.right lent got is stands)

pub operand_stands : (script : List ℕ) (operand : Operand) (lent : Expr) (got : Result Bool OutOfMemory) → lent ≡ operand.right → Stands ((expr_binding lent).aggregates script) got
    → Stands (operand_aggregates script operand) got
operand_stands script operand lent got is stands =
    same_made ((expr_binding operand.right).aggregates script) (operand_aggregates script operand) got (sym (ap (expressions.operand_aggregates script) (operand_is operand))) (stands_at script operand.right lent got is stands)
