-- What a node is bound to, by what its children are bound to.
use Rattle.std.proofs.Common.{◌≡◌, ap, ◌∙◌}
use Rattle.sql_grammar.specs.declared.tree.expr.Argument.{Argument}
use Rattle.sql_grammar.specs.declared.tree.expr.Expr.{Expr}
use Rattle.sql_grammar.specs.declared.tree.expr.Link.{Link}
use Rattle.sql_grammar.specs.declared.tree.expr.Operand.{Operand}
use Rattle.sql_grammar.specs.declared.tree.select.Condition.{Condition}
use Rattle.sql_grammar.specs.declared.tree.select.Item.{Item}
use Rattle.sql_grammar.specs.declared.tree.select.Join.{Join}
use Rattle.sql_grammar.specs.declared.tree.select.Rows.{Rows}
use Rattle.sql_grammar.specs.declared.tree.select.Select.{Select}
use Rattle.sql_grammar.specs.declared.tree.select.SetOperand.{SetOperand}
use Rattle.sql_grammar.specs.declared.tree.select.Source.{Source}
use Rattle.sql_grammar.specs.declared.tree.expr.Argument.TheOpen.{Argument-F, Expr-F, Item-F, Join-F, Rows-F, Source-F}
use Rattle.sql_grammar.specs.declared.tree.expr.Argument.TheViews.{out-Argument, out-Expr, out-Item, out-Join, out-Rows, out-Source}
use Rattle.sql_grammar.specs.declared.tree.expr.Argument.TheFolds.{map-Argument, map-Expr, map-Item, map-Join, map-Rows, map-Source, fold_out-Argument, fold_out-Expr, fold_out-Item, fold_out-Join, fold_out-Rows, fold_out-Source, fold_out-Link, fold_out-Operand, fold_out-Condition, fold_out-Select, fold_out-SetOperand}
use Rattle.bind_rules.specs.Bindings.{ArgumentBinding, ExprBinding, ItemBinding, JoinBinding, RowsBinding, SourceBinding, LinkBinding, OperandBinding, ConditionBinding, SelectBinding, SetBinding}
use Rattle.bind_rules.specs.Bound.{argument_binding, expr_binding, item_binding, join_binding, rows_binding, source_binding, link_binding, operand_binding, condition_binding, select_binding, set_binding}
use Rattle.bind_rules.specs.Expressions as expressions
use Rattle.bind_rules.specs.Selects as selects

abbrev pub argument_children : Argument-F Argument Expr Item Join Rows Source Link Operand Condition Select SetOperand → Argument-F ArgumentBinding ExprBinding ItemBinding JoinBinding RowsBinding SourceBinding LinkBinding OperandBinding ConditionBinding SelectBinding SetBinding
argument_children x = map-Argument Argument Expr Item Join Rows Source Link Operand Condition Select SetOperand ArgumentBinding ExprBinding ItemBinding JoinBinding RowsBinding SourceBinding LinkBinding OperandBinding ConditionBinding SelectBinding SetBinding argument_binding expr_binding item_binding join_binding rows_binding source_binding link_binding operand_binding condition_binding select_binding set_binding x

pub argument_is : (e : Argument) (x : Argument-F Argument Expr Item Join Rows Source Link Operand Condition Select SetOperand) → out-Argument e ≡ x → argument_binding e ≡ expressions.argument_step (argument_children x)
unfolding argument_binding expr_binding item_binding join_binding rows_binding source_binding link_binding operand_binding condition_binding select_binding set_binding
argument_is e x is =
    fold_out-Argument ArgumentBinding ExprBinding ItemBinding JoinBinding RowsBinding SourceBinding LinkBinding OperandBinding ConditionBinding SelectBinding SetBinding expressions.argument_step expressions.expr_step selects.item_step selects.join_step selects.rows_step selects.source_step expressions.link_step expressions.operand_step selects.condition_step selects.select_step selects.set_step e
    ∙ ap (λ y. expressions.argument_step (argument_children y)) is

abbrev pub expr_children : Expr-F Argument Expr Item Join Rows Source Link Operand Condition Select SetOperand → Expr-F ArgumentBinding ExprBinding ItemBinding JoinBinding RowsBinding SourceBinding LinkBinding OperandBinding ConditionBinding SelectBinding SetBinding
expr_children x = map-Expr Argument Expr Item Join Rows Source Link Operand Condition Select SetOperand ArgumentBinding ExprBinding ItemBinding JoinBinding RowsBinding SourceBinding LinkBinding OperandBinding ConditionBinding SelectBinding SetBinding argument_binding expr_binding item_binding join_binding rows_binding source_binding link_binding operand_binding condition_binding select_binding set_binding x

pub expr_is : (e : Expr) (x : Expr-F Argument Expr Item Join Rows Source Link Operand Condition Select SetOperand) → out-Expr e ≡ x → expr_binding e ≡ expressions.expr_step (expr_children x)
unfolding argument_binding expr_binding item_binding join_binding rows_binding source_binding link_binding operand_binding condition_binding select_binding set_binding
expr_is e x is =
    fold_out-Expr ArgumentBinding ExprBinding ItemBinding JoinBinding RowsBinding SourceBinding LinkBinding OperandBinding ConditionBinding SelectBinding SetBinding expressions.argument_step expressions.expr_step selects.item_step selects.join_step selects.rows_step selects.source_step expressions.link_step expressions.operand_step selects.condition_step selects.select_step selects.set_step e
    ∙ ap (λ y. expressions.expr_step (expr_children y)) is

abbrev pub item_children : Item-F Argument Expr Item Join Rows Source Link Operand Condition Select SetOperand → Item-F ArgumentBinding ExprBinding ItemBinding JoinBinding RowsBinding SourceBinding LinkBinding OperandBinding ConditionBinding SelectBinding SetBinding
item_children x = map-Item Argument Expr Item Join Rows Source Link Operand Condition Select SetOperand ArgumentBinding ExprBinding ItemBinding JoinBinding RowsBinding SourceBinding LinkBinding OperandBinding ConditionBinding SelectBinding SetBinding argument_binding expr_binding item_binding join_binding rows_binding source_binding link_binding operand_binding condition_binding select_binding set_binding x

pub item_is : (e : Item) (x : Item-F Argument Expr Item Join Rows Source Link Operand Condition Select SetOperand) → out-Item e ≡ x → item_binding e ≡ selects.item_step (item_children x)
unfolding argument_binding expr_binding item_binding join_binding rows_binding source_binding link_binding operand_binding condition_binding select_binding set_binding
item_is e x is =
    fold_out-Item ArgumentBinding ExprBinding ItemBinding JoinBinding RowsBinding SourceBinding LinkBinding OperandBinding ConditionBinding SelectBinding SetBinding expressions.argument_step expressions.expr_step selects.item_step selects.join_step selects.rows_step selects.source_step expressions.link_step expressions.operand_step selects.condition_step selects.select_step selects.set_step e
    ∙ ap (λ y. selects.item_step (item_children y)) is

abbrev pub join_children : Join-F Argument Expr Item Join Rows Source Link Operand Condition Select SetOperand → Join-F ArgumentBinding ExprBinding ItemBinding JoinBinding RowsBinding SourceBinding LinkBinding OperandBinding ConditionBinding SelectBinding SetBinding
join_children x = map-Join Argument Expr Item Join Rows Source Link Operand Condition Select SetOperand ArgumentBinding ExprBinding ItemBinding JoinBinding RowsBinding SourceBinding LinkBinding OperandBinding ConditionBinding SelectBinding SetBinding argument_binding expr_binding item_binding join_binding rows_binding source_binding link_binding operand_binding condition_binding select_binding set_binding x

pub join_is : (e : Join) (x : Join-F Argument Expr Item Join Rows Source Link Operand Condition Select SetOperand) → out-Join e ≡ x → join_binding e ≡ selects.join_step (join_children x)
unfolding argument_binding expr_binding item_binding join_binding rows_binding source_binding link_binding operand_binding condition_binding select_binding set_binding
join_is e x is =
    fold_out-Join ArgumentBinding ExprBinding ItemBinding JoinBinding RowsBinding SourceBinding LinkBinding OperandBinding ConditionBinding SelectBinding SetBinding expressions.argument_step expressions.expr_step selects.item_step selects.join_step selects.rows_step selects.source_step expressions.link_step expressions.operand_step selects.condition_step selects.select_step selects.set_step e
    ∙ ap (λ y. selects.join_step (join_children y)) is

abbrev pub rows_children : Rows-F Argument Expr Item Join Rows Source Link Operand Condition Select SetOperand → Rows-F ArgumentBinding ExprBinding ItemBinding JoinBinding RowsBinding SourceBinding LinkBinding OperandBinding ConditionBinding SelectBinding SetBinding
rows_children x = map-Rows Argument Expr Item Join Rows Source Link Operand Condition Select SetOperand ArgumentBinding ExprBinding ItemBinding JoinBinding RowsBinding SourceBinding LinkBinding OperandBinding ConditionBinding SelectBinding SetBinding argument_binding expr_binding item_binding join_binding rows_binding source_binding link_binding operand_binding condition_binding select_binding set_binding x

pub rows_is : (e : Rows) (x : Rows-F Argument Expr Item Join Rows Source Link Operand Condition Select SetOperand) → out-Rows e ≡ x → rows_binding e ≡ selects.rows_step (rows_children x)
unfolding argument_binding expr_binding item_binding join_binding rows_binding source_binding link_binding operand_binding condition_binding select_binding set_binding
rows_is e x is =
    fold_out-Rows ArgumentBinding ExprBinding ItemBinding JoinBinding RowsBinding SourceBinding LinkBinding OperandBinding ConditionBinding SelectBinding SetBinding expressions.argument_step expressions.expr_step selects.item_step selects.join_step selects.rows_step selects.source_step expressions.link_step expressions.operand_step selects.condition_step selects.select_step selects.set_step e
    ∙ ap (λ y. selects.rows_step (rows_children y)) is

abbrev pub source_children : Source-F Argument Expr Item Join Rows Source Link Operand Condition Select SetOperand → Source-F ArgumentBinding ExprBinding ItemBinding JoinBinding RowsBinding SourceBinding LinkBinding OperandBinding ConditionBinding SelectBinding SetBinding
source_children x = map-Source Argument Expr Item Join Rows Source Link Operand Condition Select SetOperand ArgumentBinding ExprBinding ItemBinding JoinBinding RowsBinding SourceBinding LinkBinding OperandBinding ConditionBinding SelectBinding SetBinding argument_binding expr_binding item_binding join_binding rows_binding source_binding link_binding operand_binding condition_binding select_binding set_binding x

pub source_is : (e : Source) (x : Source-F Argument Expr Item Join Rows Source Link Operand Condition Select SetOperand) → out-Source e ≡ x → source_binding e ≡ selects.source_step (source_children x)
unfolding argument_binding expr_binding item_binding join_binding rows_binding source_binding link_binding operand_binding condition_binding select_binding set_binding
source_is e x is =
    fold_out-Source ArgumentBinding ExprBinding ItemBinding JoinBinding RowsBinding SourceBinding LinkBinding OperandBinding ConditionBinding SelectBinding SetBinding expressions.argument_step expressions.expr_step selects.item_step selects.join_step selects.rows_step selects.source_step expressions.link_step expressions.operand_step selects.condition_step selects.select_step selects.set_step e
    ∙ ap (λ y. selects.source_step (source_children y)) is

pub link_is : (e : Link) → link_binding e ≡ record { place = e.place; sign = e.sign; right = expr_binding e.right }
unfolding argument_binding expr_binding item_binding join_binding rows_binding source_binding link_binding operand_binding condition_binding select_binding set_binding
link_is e = fold_out-Link ArgumentBinding ExprBinding ItemBinding JoinBinding RowsBinding SourceBinding LinkBinding OperandBinding ConditionBinding SelectBinding SetBinding expressions.argument_step expressions.expr_step selects.item_step selects.join_step selects.rows_step selects.source_step expressions.link_step expressions.operand_step selects.condition_step selects.select_step selects.set_step e

pub operand_is : (e : Operand) → operand_binding e ≡ record { place = e.place; right = expr_binding e.right }
unfolding argument_binding expr_binding item_binding join_binding rows_binding source_binding link_binding operand_binding condition_binding select_binding set_binding
operand_is e = fold_out-Operand ArgumentBinding ExprBinding ItemBinding JoinBinding RowsBinding SourceBinding LinkBinding OperandBinding ConditionBinding SelectBinding SetBinding expressions.argument_step expressions.expr_step selects.item_step selects.join_step selects.rows_step selects.source_step expressions.link_step expressions.operand_step selects.condition_step selects.select_step selects.set_step e

pub condition_is : (e : Condition) → condition_binding e ≡ record { place = e.place; test = expr_binding e.test }
unfolding argument_binding expr_binding item_binding join_binding rows_binding source_binding link_binding operand_binding condition_binding select_binding set_binding
condition_is e = fold_out-Condition ArgumentBinding ExprBinding ItemBinding JoinBinding RowsBinding SourceBinding LinkBinding OperandBinding ConditionBinding SelectBinding SetBinding expressions.argument_step expressions.expr_step selects.item_step selects.join_step selects.rows_step selects.source_step expressions.link_step expressions.operand_step selects.condition_step selects.select_step selects.set_step e

pub select_is : (e : Select) → select_binding e ≡ selects.select_step (record { place = e.place; rows = rows_binding e.rows; order = e.order; limit = e.limit; offset = e.offset })
unfolding argument_binding expr_binding item_binding join_binding rows_binding source_binding link_binding operand_binding condition_binding select_binding set_binding
select_is e = fold_out-Select ArgumentBinding ExprBinding ItemBinding JoinBinding RowsBinding SourceBinding LinkBinding OperandBinding ConditionBinding SelectBinding SetBinding expressions.argument_step expressions.expr_step selects.item_step selects.join_step selects.rows_step selects.source_step expressions.link_step expressions.operand_step selects.condition_step selects.select_step selects.set_step e

pub set_is : (e : SetOperand) → set_binding e ≡ record { kind = e.kind; all = e.all; place = e.place; right = rows_binding e.right }
unfolding argument_binding expr_binding item_binding join_binding rows_binding source_binding link_binding operand_binding condition_binding select_binding set_binding
set_is e = fold_out-SetOperand ArgumentBinding ExprBinding ItemBinding JoinBinding RowsBinding SourceBinding LinkBinding OperandBinding ConditionBinding SelectBinding SetBinding expressions.argument_step expressions.expr_step selects.item_step selects.join_step selects.rows_step selects.source_step expressions.link_step expressions.operand_step selects.condition_step selects.select_step selects.set_step e
