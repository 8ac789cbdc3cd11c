-- Expressions: the operands first, from left to right, and then the operation.
use Rattle.std.specs.Prelude.{ℕ, Bool, false, ◌||◌, List, [], ◌∷◌, Option, Ok, is_some}
use Rattle.sql_grammar.specs.declared.tree.expr.Span.{Span}
use Rattle.sql_grammar.specs.declared.tree.expr.Argument.TheOpen.{Argument-F, Expr-F, Link-F, Operand-F}
use Rattle.sql_scope.specs.declared.call.Function.{Function}
use Rattle.sql_scope.specs.declared.chain.Chain.{Chain}
use Rattle.sql_scope.specs.declared.chain.Conditions.{Conditions}
use Rattle.sql_scope.specs.declared.part.Part.{Part}
use Rattle.sql_scope.specs.Answer.{Answer, ◌>>=◌, each}
use Rattle.sql_scope.specs.Calls.{function_of, argument_view, star_call, value_call, distinct_call}
use Rattle.sql_scope.specs.Parts as parts
use Rattle.sql_scope.specs.Scopes.{View}
use Rattle.sql_scope.specs.Texts.{folded_at}
use Rattle.sql_scope.specs.Trees.{constants_from}
use Rattle.sql_clauses.specs.declared.conditions.FilterOperand.{FilterOperand}
use Rattle.sql_clauses.specs.declared.conditions.Filter.{Filter}
use Rattle.sql_clauses.specs.Conditions.{plain_operand, begun, joined}
use Rattle.sql_clauses.specs.Membership.{member, misplaced}
use Rattle.bind_rules.specs.Bindings.{ExprBinding, ArgumentBinding, LinkBinding, OperandBinding, ConditionBinding, SelectBinding, RowsBinding, SetBinding, ItemBinding, SourceBinding, JoinBinding}

-- a node, once its children are bound
abbrev pub ExprNode : Type 0
ExprNode = Expr-F ArgumentBinding ExprBinding ItemBinding JoinBinding RowsBinding SourceBinding LinkBinding OperandBinding ConditionBinding SelectBinding SetBinding

abbrev pub ArgumentNode : Type 0
ArgumentNode = Argument-F ArgumentBinding ExprBinding ItemBinding JoinBinding RowsBinding SourceBinding LinkBinding OperandBinding ConditionBinding SelectBinding SetBinding

abbrev pub LinkNode : Type 0
LinkNode = Link-F ArgumentBinding ExprBinding ItemBinding JoinBinding RowsBinding SourceBinding LinkBinding OperandBinding ConditionBinding SelectBinding SetBinding

abbrev pub OperandNode : Type 0
OperandNode = Operand-F ArgumentBinding ExprBinding ItemBinding JoinBinding RowsBinding SourceBinding LinkBinding OperandBinding ConditionBinding SelectBinding SetBinding

-- ---- calls

abbrev pub function_at : View → Span → Option Function
function_at view name = function_of (folded_at view.script name)

abbrev pub call_over : View → Span → ArgumentNode → Answer Part
call_over view name Argument-F.Argument::Star = star_call view name.start (function_at view name)
call_over view name (Argument-F.Argument::Value value) =
    value.part (argument_view (function_at view name) view) >>= value_call view name.start (function_at view name)
call_over view name (Argument-F.Distinct value) =
    value.part (argument_view (function_at view name) view) >>= distinct_call view name.start (function_at view name)

abbrev pub argument_aggregates : List ℕ → ArgumentNode → Bool
argument_aggregates script Argument-F.Argument::Star = false
argument_aggregates script (Argument-F.Argument::Value value) = value.aggregates script
argument_aggregates script (Argument-F.Distinct value) = value.aggregates script

abbrev pub argument_step : ArgumentNode → ArgumentBinding
argument_step x = record { call = λ view name. call_over view name x; aggregates = λ script. argument_aggregates script x }

-- ---- chains act from left to right

abbrev pub link_step : LinkNode → LinkBinding
link_step x = record { place = x.place; sign = x.sign; right = x.right }

abbrev pub operand_step : OperandNode → OperandBinding
operand_step x = record { place = x.place; right = x.right }

abbrev pub linked : View → LinkBinding → Chain → Answer Chain
linked view link chain = link.right.part view >>= parts.linked link.place link.sign chain

abbrev pub conditioned : View → OperandBinding → Conditions → Answer Conditions
conditioned view operand conditions = operand.right.part view >>= parts.joined operand.place conditions

abbrev pub begin_chain : Part → Answer Chain
begin_chain first = Ok (parts.begun first)

abbrev pub begin_conditions : Part → Answer Conditions
begin_conditions first = Ok (parts.started first)

abbrev pub chain_behind : View → List LinkBinding → Chain → Answer Chain
chain_behind view links chain = each (linked view) (Ok chain) links

abbrev pub conditions_behind : View → List OperandBinding → Conditions → Answer Conditions
conditions_behind view others conditions = each (conditioned view) (Ok conditions) others

-- ---- an expression as a part of another

abbrev pub part_over : View → ExprNode → Answer Part
part_over view (Expr-F.Literal written) = parts.literal view written
part_over view (Expr-F.Column written) = parts.column view written
part_over view (Expr-F.Call name argument) = argument.call view name
part_over view (Expr-F.Minus place operand) = operand.part view >>= parts.minus view place
part_over view (Expr-F.Not place operand) = operand.part view >>= parts.negation view place
part_over view (Expr-F.Chain first links) = first.part view >>= begin_chain >>= chain_behind view links >>= parts.ended view
part_over view (Expr-F.Every first others) = first.part view >>= begin_conditions >>= conditions_behind view others >>= parts.every view
part_over view (Expr-F.Either first others) = first.part view >>= begin_conditions >>= conditions_behind view others >>= parts.either view
part_over view (Expr-F.Compare place sign left right) = left.part view >>= (λ l. right.part view >>= parts.comparison view place sign l)
part_over view (Expr-F.IsNull place negated operand) = operand.part view >>= parts.null_test view negated
part_over view (Expr-F.Like place negated operand pattern) = operand.part view >>= parts.like view place negated pattern
part_over view (Expr-F.OneOf place negated operand list) =
    operand.part view >>= (λ of. constants_from view (Ok []) list >>= parts.one_of view place negated of)
part_over view (Expr-F.Member place negated operand query) = operand.part view >>= (λ of. query.select view >>= misplaced place query.place of)
part_over view (Expr-F.Between place negated operand low high) =
    operand.part view >>= (λ of. low.part view >>= (λ l. high.part view >>= parts.between view place negated of l))

-- ---- WHERE, operand by operand of its outermost AND

-- IN with a subquery stands here
abbrev pub operand_over : View → ExprNode → Answer FilterOperand
operand_over view (Expr-F.Member place negated operand query) =
    operand.part view >>= (λ of. query.select view >>= member place query.place negated of)
operand_over view x = part_over view x >>= plain_operand

abbrev pub filtered : View → OperandBinding → Filter → Answer Filter
filtered view operand filter = operand.right.operand view >>= joined operand.place filter

abbrev pub filter_behind : View → List OperandBinding → Filter → Answer Filter
filter_behind view others filter = each (filtered view) (Ok filter) others

abbrev pub filter_over : View → ExprNode → Answer Filter
filter_over view (Expr-F.Every first others) = first.operand view >>= begun >>= filter_behind view others
filter_over view x = operand_over view x >>= begun

-- ---- whether an aggregate stands in it; what a subquery has counts for the subquery alone

-- whether one of a list does
abbrev pub some_of : {X : Type 0} → (X → Bool) → List X → Bool
some_of test [] = false
some_of test (x ∷ xs) = test x || some_of test xs

abbrev pub link_aggregates : List ℕ → LinkBinding → Bool
link_aggregates script link = link.right.aggregates script

abbrev pub operand_aggregates : List ℕ → OperandBinding → Bool
operand_aggregates script operand = operand.right.aggregates script

abbrev pub aggregates_in : List ℕ → ExprNode → Bool
aggregates_in script (Expr-F.Literal written) = false
aggregates_in script (Expr-F.Column written) = false
aggregates_in script (Expr-F.Call name argument) = is_some (function_of (folded_at script name)) || argument.aggregates script
aggregates_in script (Expr-F.Minus place operand) = operand.aggregates script
aggregates_in script (Expr-F.Not place operand) = operand.aggregates script
aggregates_in script (Expr-F.Chain first links) = first.aggregates script || some_of (link_aggregates script) links
aggregates_in script (Expr-F.Every first others) = first.aggregates script || some_of (operand_aggregates script) others
aggregates_in script (Expr-F.Either first others) = first.aggregates script || some_of (operand_aggregates script) others
aggregates_in script (Expr-F.Compare place sign left right) = left.aggregates script || right.aggregates script
aggregates_in script (Expr-F.IsNull place negated operand) = operand.aggregates script
aggregates_in script (Expr-F.Like place negated operand pattern) = operand.aggregates script
aggregates_in script (Expr-F.OneOf place negated operand list) = operand.aggregates script
aggregates_in script (Expr-F.Member place negated operand query) = operand.aggregates script
aggregates_in script (Expr-F.Between place negated operand low high) =
    operand.aggregates script || (low.aggregates script || high.aggregates script)

abbrev pub expr_step : ExprNode → ExprBinding
expr_step x = record {
  part = λ view. part_over view x;
  operand = λ view. operand_over view x;
  filter = λ view. filter_over view x;
  aggregates = λ script. aggregates_in script x;
}
