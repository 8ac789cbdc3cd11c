-- What a statement is bound to: the first refusal with its place, or the bound statement.
use Rattle.std.specs.Prelude.{ℕ, Bool, false, List, [], Option, Some, None, Ok}
use Rattle.bound_tree.specs.declared.select.BoundSelect.{BoundSelect}
use Rattle.bound_tree.specs.declared.select.Conjunct.{Conjunct}
use Rattle.bound_tree.specs.declared.statement.Bound.{Bound}
use Rattle.bound_tree.specs.declared.statement.Bound.TheVariants as bound
use Rattle.sql_expr.specs.declared.tree.Expr.{Expr as Tree}
use Rattle.sql_grammar.specs.declared.tree.expr.Argument.{Argument}
use Rattle.sql_grammar.specs.declared.tree.expr.Expr.{Expr}
use Rattle.sql_grammar.specs.declared.tree.expr.Link.{Link}
use Rattle.sql_grammar.specs.declared.tree.expr.Operand.{Operand}
use Rattle.sql_grammar.specs.declared.tree.select.Condition.{Condition}
use Rattle.sql_grammar.specs.declared.tree.select.Item.{Item}
use Rattle.sql_grammar.specs.declared.tree.select.Join.{Join}
use Rattle.sql_grammar.specs.declared.tree.select.Rows.{Rows}
use Rattle.sql_grammar.specs.declared.tree.select.Select.{Select}
use Rattle.sql_grammar.specs.declared.tree.select.SetOperand.{SetOperand}
use Rattle.sql_grammar.specs.declared.tree.select.Source.{Source}
use Rattle.sql_grammar.specs.declared.tree.statement.Statement.{Statement}
use Rattle.sql_grammar.specs.declared.tree.statement.Statement.TheVariants as statement
use Rattle.sql_grammar.specs.declared.tree.expr.Argument.TheFolds.{fold-Argument, fold-Expr, fold-Item, fold-Join, fold-Rows, fold-Source, fold-Link, fold-Operand, fold-Condition, fold-Select, fold-SetOperand}
use Rattle.sql_scope.specs.declared.chain.Chain.{Chain}
use Rattle.sql_scope.specs.declared.chain.Conditions.{Conditions}
use Rattle.sql_scope.specs.declared.scope.TableColumns.{TableColumns}
use Rattle.sql_scope.specs.Answer.{Answer, ◌>>=◌}
use Rattle.sql_scope.specs.Scopes.{View}
use Rattle.sql_clauses.specs.declared.conditions.Filter.{Filter}
use Rattle.sql_clauses.specs.declared.cores.NamedRows.{NamedRows}
use Rattle.sql_clauses.specs.declared.cores.Selected.{Selected}
use Rattle.sql_clauses.specs.declared.items.Outputs.{Outputs}
use Rattle.sql_clauses.specs.declared.joins.Joined.{Joined}
use Rattle.sql_clauses.specs.declared.sources.Sources.{Sources}
use Rattle.sql_clauses.specs.Copies.{copy_table}
use Rattle.sql_clauses.specs.Tables.{create_table, drop_table}
pub use Rattle.sql_clauses.specs.Items.{no_outputs}
use Rattle.bind_rules.specs.Bindings.{ExprBinding, ArgumentBinding, LinkBinding, OperandBinding, ConditionBinding, SelectBinding, RowsBinding, SetBinding, ItemBinding, SourceBinding, JoinBinding}
use Rattle.bind_rules.specs.Expressions as expressions
use Rattle.bind_rules.specs.Selects as selects

-- ---- the tree, from its leaves on

unfoldable pub expr_binding : Expr → ExprBinding
expr_binding = fold-Expr ArgumentBinding ExprBinding ItemBinding JoinBinding RowsBinding SourceBinding LinkBinding OperandBinding ConditionBinding SelectBinding SetBinding
    expressions.argument_step expressions.expr_step selects.item_step selects.join_step selects.rows_step selects.source_step
    expressions.link_step expressions.operand_step selects.condition_step selects.select_step selects.set_step

unfoldable pub argument_binding : Argument → ArgumentBinding
argument_binding = fold-Argument ArgumentBinding ExprBinding ItemBinding JoinBinding RowsBinding SourceBinding LinkBinding OperandBinding ConditionBinding SelectBinding SetBinding
    expressions.argument_step expressions.expr_step selects.item_step selects.join_step selects.rows_step selects.source_step
    expressions.link_step expressions.operand_step selects.condition_step selects.select_step selects.set_step

unfoldable pub link_binding : Link → LinkBinding
link_binding = fold-Link ArgumentBinding ExprBinding ItemBinding JoinBinding RowsBinding SourceBinding LinkBinding OperandBinding ConditionBinding SelectBinding SetBinding
    expressions.argument_step expressions.expr_step selects.item_step selects.join_step selects.rows_step selects.source_step
    expressions.link_step expressions.operand_step selects.condition_step selects.select_step selects.set_step

unfoldable pub operand_binding : Operand → OperandBinding
operand_binding = fold-Operand ArgumentBinding ExprBinding ItemBinding JoinBinding RowsBinding SourceBinding LinkBinding OperandBinding ConditionBinding SelectBinding SetBinding
    expressions.argument_step expressions.expr_step selects.item_step selects.join_step selects.rows_step selects.source_step
    expressions.link_step expressions.operand_step selects.condition_step selects.select_step selects.set_step

unfoldable pub item_binding : Item → ItemBinding
item_binding = fold-Item ArgumentBinding ExprBinding ItemBinding JoinBinding RowsBinding SourceBinding LinkBinding OperandBinding ConditionBinding SelectBinding SetBinding
    expressions.argument_step expressions.expr_step selects.item_step selects.join_step selects.rows_step selects.source_step
    expressions.link_step expressions.operand_step selects.condition_step selects.select_step selects.set_step

unfoldable pub join_binding : Join → JoinBinding
join_binding = fold-Join ArgumentBinding ExprBinding ItemBinding JoinBinding RowsBinding SourceBinding LinkBinding OperandBinding ConditionBinding SelectBinding SetBinding
    expressions.argument_step expressions.expr_step selects.item_step selects.join_step selects.rows_step selects.source_step
    expressions.link_step expressions.operand_step selects.condition_step selects.select_step selects.set_step

unfoldable pub rows_binding : Rows → RowsBinding
rows_binding = fold-Rows ArgumentBinding ExprBinding ItemBinding JoinBinding RowsBinding SourceBinding LinkBinding OperandBinding ConditionBinding SelectBinding SetBinding
    expressions.argument_step expressions.expr_step selects.item_step selects.join_step selects.rows_step selects.source_step
    expressions.link_step expressions.operand_step selects.condition_step selects.select_step selects.set_step

unfoldable pub source_binding : Source → SourceBinding
source_binding = fold-Source ArgumentBinding ExprBinding ItemBinding JoinBinding RowsBinding SourceBinding LinkBinding OperandBinding ConditionBinding SelectBinding SetBinding
    expressions.argument_step expressions.expr_step selects.item_step selects.join_step selects.rows_step selects.source_step
    expressions.link_step expressions.operand_step selects.condition_step selects.select_step selects.set_step

unfoldable pub condition_binding : Condition → ConditionBinding
condition_binding = fold-Condition ArgumentBinding ExprBinding ItemBinding JoinBinding RowsBinding SourceBinding LinkBinding OperandBinding ConditionBinding SelectBinding SetBinding
    expressions.argument_step expressions.expr_step selects.item_step selects.join_step selects.rows_step selects.source_step
    expressions.link_step expressions.operand_step selects.condition_step selects.select_step selects.set_step

unfoldable pub select_binding : Select → SelectBinding
select_binding = fold-Select ArgumentBinding ExprBinding ItemBinding JoinBinding RowsBinding SourceBinding LinkBinding OperandBinding ConditionBinding SelectBinding SetBinding
    expressions.argument_step expressions.expr_step selects.item_step selects.join_step selects.rows_step selects.source_step
    expressions.link_step expressions.operand_step selects.condition_step selects.select_step selects.set_step

unfoldable pub set_binding : SetOperand → SetBinding
set_binding = fold-SetOperand ArgumentBinding ExprBinding ItemBinding JoinBinding RowsBinding SourceBinding LinkBinding OperandBinding ConditionBinding SelectBinding SetBinding
    expressions.argument_step expressions.expr_step selects.item_step selects.join_step selects.rows_step selects.source_step
    expressions.link_step expressions.operand_step selects.condition_step selects.select_step selects.set_step

-- ---- statements

abbrev pub explained : BoundSelect → Answer Bound
explained select = Ok (bound.Explain select)

abbrev pub selected_rows : BoundSelect → Answer Bound
selected_rows select = Ok (bound.Select select)

-- no columns are seen yet
abbrev pub view_of : List ℕ → List TableColumns → ℕ → View
view_of script tables limit = record { script = script; tables = tables; columns = []; keys = []; limit = limit; aggregates = false }

abbrev pub bound_over : View → Statement → Answer Bound
bound_over view (statement.CreateTable name columns) = create_table view name columns
bound_over view (statement.DropTable name) = drop_table view name
bound_over view (statement.Copy name file options) = copy_table view name file options
bound_over view (statement.Explain select) = (select_binding select).select view >>= explained
bound_over view (statement.Select select) = (select_binding select).select view >>= selected_rows

-- a statement of a script, over these tables, where a text has so many bytes at most
abbrev pub bound_of : Statement → List ℕ → List TableColumns → ℕ → Answer Bound
bound_of written script tables limit = bound_over (view_of script tables limit) written

-- ---- what the walk goes through, over the tree as it is written

abbrev pub link_behind : View → Link → Chain → Answer Chain
link_behind view link = expressions.linked view (link_binding link)

abbrev pub operand_behind : View → Operand → Conditions → Answer Conditions
operand_behind view operand = expressions.conditioned view (operand_binding operand)

abbrev pub filter_behind : View → Operand → Filter → Answer Filter
filter_behind view operand = expressions.filtered view (operand_binding operand)

abbrev pub source_behind : View → Join → Sources → Answer Sources
source_behind view join = selects.source_behind view (join_binding join)

abbrev pub on_behind : View → Join → Joined → Answer Joined
on_behind view join = selects.on_behind view (join_binding join)

abbrev pub key_behind : View → Expr → List Tree → Answer (List Tree)
key_behind view key = selects.key_over view (expr_binding key)

abbrev pub item_behind : View → Bool → Item → Outputs → Answer Outputs
item_behind view grouped item = selects.item_behind view grouped (item_binding item)

abbrev pub set_behind : View → SetOperand → NamedRows → Answer NamedRows
set_behind view operand = selects.set_behind view (set_binding operand)

abbrev pub condition_of : Option Condition → Option ConditionBinding
condition_of None = None
condition_of (Some condition) = Some (condition_binding condition)

abbrev pub conjuncts : View → Option Condition → Answer (List Conjunct)
conjuncts view condition = selects.conjuncts_over view (condition_of condition)

abbrev pub selected : View → Option Condition → Outputs → Answer Selected
selected view having outputs = selects.having_over view (condition_of having) outputs

abbrev pub first_token : Source → ℕ
first_token source = (source_binding source).place

-- ---- whether an aggregate stands somewhere

abbrev pub link_aggregates : List ℕ → Link → Bool
link_aggregates script link = expressions.link_aggregates script (link_binding link)

abbrev pub operand_aggregates : List ℕ → Operand → Bool
operand_aggregates script operand = expressions.operand_aggregates script (operand_binding operand)

abbrev pub item_aggregates : List ℕ → Item → Bool
item_aggregates script item = (item_binding item).aggregates script
