-- An expression in the walk: what its operands were bound to makes what it is bound to.
use Rattle.std.proofs.Common.{◌≡◌, List, map, sym, subst}
use Rattle.std.specs.Prelude.{Option, Result, Ok}
use Rattle.sql_grammar.specs.declared.tree.expr.Span.{Span}
use Rattle.sql_grammar.specs.declared.tree.expr.Argument.{Argument}
use Rattle.sql_grammar.specs.declared.tree.expr.Expr.{Expr}
use Rattle.sql_grammar.specs.declared.tree.expr.Link.{Link}
use Rattle.sql_grammar.specs.declared.tree.expr.Operand.{Operand}
use Rattle.sql_grammar.specs.declared.tree.select.Condition.{Condition}
use Rattle.sql_grammar.specs.declared.tree.select.Item.{Item}
use Rattle.sql_grammar.specs.declared.tree.select.Join.{Join}
use Rattle.sql_grammar.specs.declared.tree.select.Rows.{Rows}
use Rattle.sql_grammar.specs.declared.tree.select.Select.{Select}
use Rattle.sql_grammar.specs.declared.tree.select.SetOperand.{SetOperand}
use Rattle.sql_grammar.specs.declared.tree.select.Source.{Source}
use Rattle.sql_grammar.specs.declared.tree.expr.Argument.TheOpen.{Argument-F, Expr-F}
use Rattle.sql_grammar.specs.declared.tree.expr.Argument.TheViews.{out-Argument, out-Expr}
use Rattle.sql_scope.specs.declared.call.Function.{Function}
use Rattle.sql_scope.specs.declared.fault.BindFault.{BindFault}
use Rattle.sql_scope.specs.declared.part.Part.{Part}
use Rattle.sql_scope.specs.Answer.{Answer, Gives, GoesOn, GoesOnBoth, GoesOnThree, each, ◌>>=◌}
use Rattle.sql_scope.specs.Calls.{argument_view, star_call, value_call, distinct_call}
use Rattle.sql_scope.specs.Scopes.{View}
use Rattle.sql_scope.proofs.Going.{same_answer, goes_on, goes_on_both, goes_on_three}
use Rattle.sql_clauses.specs.declared.conditions.FilterOperand.{FilterOperand}
use Rattle.sql_clauses.specs.declared.conditions.Filter.{Filter}
use Rattle.sql_clauses.specs.Conditions.{begun}
use Rattle.bind_rules.specs.Bound.{expr_binding, argument_binding, operand_binding, filter_behind}
use Rattle.bind_rules.specs.Expressions as expressions
use Rattle.bind_rules.proofs.Arms.{expr_gives, filter_gives, argument_gives, over_bound}
use Rattle.bind_rules.proofs.Nodes.{expr_children}
use Rattle.bind_rules.proofs.Steps.{part_at, operand_at}

-- a list that is gone through as a slice
pub over_slice : {A X : Type 0} (step : X → A → Answer A) (slice list : List X) (first result : Result A BindFault) → slice ≡ list
    → GoesOn (λ a. each step (Ok a) slice) first result → GoesOn (λ a. each step (Ok a) list) first result
over_slice step slice list first result is on = subst (λ xs. GoesOn (λ a. each step (Ok a) xs) first result) is on

-- one operand
pub one_arm : (view : View) (e : Expr) (x : Expr-F Argument Expr Item Join Rows Source Link Operand Condition Select SetOperand) (operand lent : Expr) (f : Part → Answer Part) (got result : Result Part BindFault)
    → out-Expr e ≡ x → expressions.part_over view (expr_children x) ≡ ((expr_binding operand).part view >>= f)
    → lent ≡ operand → Gives ((expr_binding lent).part view) got → GoesOn f got result → Gives ((expr_binding e).part view) result
one_arm view e x operand lent f got result is node at given on =
    expr_gives view e x result is
    (same_answer ((expr_binding operand).part view >>= f) (expressions.part_over view (expr_children x)) result (sym node)
    (goes_on ((expr_binding operand).part view) f got result (part_at view operand lent got at given) on))

-- two operands
pub two_arm : (view : View) (e : Expr) (x : Expr-F Argument Expr Item Join Rows Source Link Operand Condition Select SetOperand) (left right lent other : Expr) (f : Part → Part → Answer Part)
    (got there result : Result Part BindFault) → out-Expr e ≡ x
    → expressions.part_over view (expr_children x) ≡ ((expr_binding left).part view >>= (λ l. (expr_binding right).part view >>= f l))
    → lent ≡ left → other ≡ right → Gives ((expr_binding lent).part view) got → Gives ((expr_binding other).part view) there → GoesOnBoth f got there result
    → Gives ((expr_binding e).part view) result
two_arm view e x left right lent other f got there result is node at beside given also on =
    expr_gives view e x result is
    (same_answer ((expr_binding left).part view >>= (λ l. (expr_binding right).part view >>= f l)) (expressions.part_over view (expr_children x)) result (sym node)
    (goes_on_both ((expr_binding left).part view) ((expr_binding right).part view) f got there result (part_at view left lent got at given) (part_at view right other there beside also) on))

-- an operand, and a list of constants
pub listed_arm : {B : Type 0} (view : View) (e : Expr) (x : Expr-F Argument Expr Item Join Rows Source Link Operand Condition Select SetOperand) (operand lent : Expr) (n : Answer B) (f : Part → B → Answer Part)
    (got : Result Part BindFault) (there : Result B BindFault) (result : Result Part BindFault) → out-Expr e ≡ x
    → expressions.part_over view (expr_children x) ≡ ((expr_binding operand).part view >>= (λ of. n >>= f of))
    → lent ≡ operand → Gives ((expr_binding lent).part view) got → Gives n there → GoesOnBoth f got there result → Gives ((expr_binding e).part view) result
listed_arm view e x operand lent n f got there result is node at given also on =
    expr_gives view e x result is
    (same_answer ((expr_binding operand).part view >>= (λ of. n >>= f of)) (expressions.part_over view (expr_children x)) result (sym node)
    (goes_on_both ((expr_binding operand).part view) n f got there result (part_at view operand lent got at given) also on))

-- three operands
pub three_arm : (view : View) (e : Expr) (x : Expr-F Argument Expr Item Join Rows Source Link Operand Condition Select SetOperand) (operand low high lent least most : Expr) (f : Part → Part → Part → Answer Part)
    (got second third result : Result Part BindFault) → out-Expr e ≡ x
    → expressions.part_over view (expr_children x) ≡ ((expr_binding operand).part view >>= (λ of. (expr_binding low).part view >>= (λ l. (expr_binding high).part view >>= f of l)))
    → lent ≡ operand → least ≡ low → most ≡ high → Gives ((expr_binding lent).part view) got → Gives ((expr_binding least).part view) second → Gives ((expr_binding most).part view) third
    → GoesOnThree f got second third result → Gives ((expr_binding e).part view) result
three_arm view e x operand low high lent least most f got second third result is node at under over given also then on =
    expr_gives view e x result is
    (same_answer ((expr_binding operand).part view >>= (λ of. (expr_binding low).part view >>= (λ l. (expr_binding high).part view >>= f of l))) (expressions.part_over view (expr_children x)) result (sym node)
    (goes_on_three ((expr_binding operand).part view) ((expr_binding low).part view) ((expr_binding high).part view) f got second third result
    (part_at view operand lent got at given) (part_at view low least second under also) (part_at view high most third over then) on))

-- a first operand, and those behind it
pub list_arm : {B C X : Type 0} (view : View) (e : Expr) (x : Expr-F Argument Expr Item Join Rows Source Link Operand Condition Select SetOperand) (first lent : Expr) (bind : X → B) (step : B → C → Answer C)
    (begin : Part → Answer C) (end : C → Answer Part) (list slice : List X) (got : Result Part BindFault) (head all : Result C BindFault) (result : Result Part BindFault) → out-Expr e ≡ x
    → expressions.part_over view (expr_children x) ≡ ((expr_binding first).part view >>= begin >>= (λ c. each step (Ok c) (map bind list)) >>= end)
    → lent ≡ first → slice ≡ list → Gives ((expr_binding lent).part view) got → GoesOn begin got head → GoesOn (λ c. each (λ y. step (bind y)) (Ok c) slice) head all → GoesOn end all result
    → Gives ((expr_binding e).part view) result
list_arm view e x first lent bind step begin end list slice got head all result is node at same given begins goes ends =
    expr_gives view e x result is
    (same_answer ((expr_binding first).part view >>= begin >>= (λ c. each step (Ok c) (map bind list)) >>= end) (expressions.part_over view (expr_children x)) result (sym node)
    (goes_on ((expr_binding first).part view >>= begin >>= (λ c. each step (Ok c) (map bind list))) end all result
    (goes_on ((expr_binding first).part view >>= begin) (λ c. each step (Ok c) (map bind list)) head all
    (goes_on ((expr_binding first).part view) begin got head (part_at view first lent got at given) begins)
    (over_bound step bind list head all (over_slice (λ y. step (bind y)) slice list head all same goes))) ends))

-- WHERE with several operands
pub every_filter : (view : View) (e first lent : Expr) (others slice : List Operand) (got : Result FilterOperand BindFault) (head result : Result Filter BindFault)
    → out-Expr e ≡ Expr-F.Every first others → lent ≡ first → slice ≡ others → Gives ((expr_binding lent).operand view) got → GoesOn begun got head
    → GoesOn (λ f. each (filter_behind view) (Ok f) slice) head result → Gives ((expr_binding e).filter view) result
every_filter view e first lent others slice got head result is at same given begins goes =
    filter_gives view e (Expr-F.Every first others) result is
    (goes_on ((expr_binding first).operand view >>= begun) (λ f. expressions.filter_behind view (map operand_binding others) f) head result
    (goes_on ((expr_binding first).operand view) begun got head (operand_at view first lent got at given) begins)
    (over_bound (expressions.filtered view) operand_binding others head result (over_slice (filter_behind view) slice others head result same goes)))

-- ---- calls

pub star_arm : (view : View) (name : Span) (e : Argument) (function : Option Function) (result : Result Part BindFault) → out-Argument e ≡ Argument-F.Argument::Star
    → function ≡ expressions.function_at view name → Gives (star_call view name.start function) result → Gives ((argument_binding e).call view name) result
star_arm view name e function result is known given =
    argument_gives view name e Argument-F.Argument::Star result is (subst (λ f. Gives (star_call view name.start f) result) known given)

pub value_arm : (view inner : View) (name : Span) (e : Argument) (value lent : Expr) (function : Option Function) (got result : Result Part BindFault) → out-Argument e ≡ Argument-F.Argument::Value value
    → function ≡ expressions.function_at view name → inner ≡ argument_view function view → lent ≡ value → Gives ((expr_binding lent).part inner) got
    → GoesOn (value_call view name.start function) got result → Gives ((argument_binding e).call view name) result
value_arm view inner name e value lent function got result is known within at given on =
    argument_gives view name e (Argument-F.Argument::Value value) result is
    (subst (λ f. Gives ((expr_binding value).part (argument_view f view) >>= value_call view name.start f) result) known
    (goes_on ((expr_binding value).part (argument_view function view)) (value_call view name.start function) got result
    (subst (λ v. Gives ((expr_binding value).part v) got) within (part_at inner value lent got at given)) on))

pub distinct_arm : (view inner : View) (name : Span) (e : Argument) (value lent : Expr) (function : Option Function) (got result : Result Part BindFault) → out-Argument e ≡ Argument-F.Distinct value
    → function ≡ expressions.function_at view name → inner ≡ argument_view function view → lent ≡ value → Gives ((expr_binding lent).part inner) got
    → GoesOn (distinct_call view name.start function) got result → Gives ((argument_binding e).call view name) result
distinct_arm view inner name e value lent function got result is known within at given on =
    argument_gives view name e (Argument-F.Distinct value) result is
    (subst (λ f. Gives ((expr_binding value).part (argument_view f view) >>= distinct_call view name.start f) result) known
    (goes_on ((expr_binding value).part (argument_view function view)) (distinct_call view name.start function) got result
    (subst (λ v. Gives ((expr_binding value).part v) got) within (part_at inner value lent got at given)) on))
