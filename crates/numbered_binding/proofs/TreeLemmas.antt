-- What every part of a statement's tree keeps.
use Rattle.std.proofs.Common.{◌≡◌, sym, ap, subst, Some, None}
use Rattle.std.specs.Prelude.{⊤}
use Rattle.sql_grammar.specs.declared.tree.expr.Argument.{Argument}
use Rattle.sql_grammar.specs.declared.tree.expr.Expr.{Expr}
use Rattle.sql_grammar.specs.declared.tree.expr.Link.{Link}
use Rattle.sql_grammar.specs.declared.tree.expr.Operand.{Operand}
use Rattle.sql_grammar.specs.declared.tree.select.Condition.{Condition}
use Rattle.sql_grammar.specs.declared.tree.select.Item.{Item}
use Rattle.sql_grammar.specs.declared.tree.select.Join.{Join}
use Rattle.sql_grammar.specs.declared.tree.select.Rows.{Rows}
use Rattle.sql_grammar.specs.declared.tree.select.Select.{Select}
use Rattle.sql_grammar.specs.declared.tree.select.SetOperand.{SetOperand}
use Rattle.sql_grammar.specs.declared.tree.select.Source.{Source}
use Rattle.sql_grammar.specs.declared.tree.expr.Argument.TheOpen.{Expr-F, Join-F, Rows-F, Source-F, Operand-F, Condition-F, Select-F, SetOperand-F}
use Rattle.sql_grammar.specs.declared.tree.expr.Argument.TheViews.{roll-Expr, roll-Join, roll-Rows, roll-Source, out-roll-Expr, out-roll-Join, out-roll-Rows, out-roll-Source}
use Rattle.sql_grammar.specs.declared.tree.expr.Argument.TheFolds.{ind-Select, map-Expr, map-Join, map-Rows, map-Source}
use Rattle.bind_rules.specs.Bound.{expr_binding, operand_binding, condition_binding, select_binding, rows_binding, set_binding, source_binding, join_binding}
use Rattle.bind_rules.specs.Expressions as expressions
use Rattle.bind_rules.specs.Selects as selects
use Rattle.bind_rules.proofs.Nodes.{condition_is, expr_children, expr_is, join_children, join_is, operand_is, rows_children, rows_is, select_is, set_is, source_children, source_is}
use Rattle.numbered_binding.specs.Kept as kept
use Rattle.numbered_binding.proofs.AnswerLemmas.{all-bound}
use Rattle.numbered_binding.proofs.StepLemmas.{InExpr, InJoin, InRows, InSource, expr-kept, join-kept, rows-kept, source-kept, whole-kept}

-- ---- what is shown of each part

abbrev OfArgument : Argument → Type 0
OfArgument x = ⊤

abbrev OfExpr : Expr → Type 0
OfExpr x = kept.OfExpr (expr_binding x)

abbrev OfItem : Item → Type 0
OfItem x = ⊤

abbrev OfJoin : Join → Type 0
OfJoin x = kept.OfJoin (join_binding x)

abbrev OfRows : Rows → Type 0
OfRows x = kept.OfRows (rows_binding x)

abbrev OfSource : Source → Type 0
OfSource x = kept.OfSource (source_binding x)

abbrev OfLink : Link → Type 0
OfLink x = ⊤

abbrev OfOperand : Operand → Type 0
OfOperand x = kept.OfExpr (expr_binding x.right)

abbrev OfCondition : Condition → Type 0
OfCondition x = kept.OfExpr (expr_binding x.test)

abbrev OfSelect : Select → Type 0
OfSelect x = kept.OfRows (rows_binding x.rows)

abbrev OfSetOperand : SetOperand → Type 0
OfSetOperand x = kept.OfRows (rows_binding x.right)

of-operand : (x : Operand) → OfOperand x → kept.OfOperand (operand_binding x)
of-operand x of = subst kept.OfOperand (sym (operand_is x)) of

of-condition : (x : Condition) → OfCondition x → kept.OfCondition (condition_binding x)
of-condition x of = subst kept.OfCondition (sym (condition_is x)) of

of-select : (x : Select) → OfSelect x → kept.OfSelect (select_binding x)
of-select x of = subst kept.OfSelect (sym (select_is x)) (whole-kept (record { place = x.place; rows = rows_binding x.rows; order = x.order; limit = x.limit; offset = x.offset }) of)

of-set : (x : SetOperand) → OfSetOperand x → kept.OfSet (set_binding x)
of-set x of = subst kept.OfSet (sym (set_is x)) of

-- ---- parts beside what is shown of them

abbrev ArgumentFact : Type 0
ArgumentFact = (x : Argument) × OfArgument x

abbrev ExprFact : Type 0
ExprFact = (x : Expr) × OfExpr x

abbrev ItemFact : Type 0
ItemFact = (x : Item) × OfItem x

abbrev JoinFact : Type 0
JoinFact = (x : Join) × OfJoin x

abbrev RowsFact : Type 0
RowsFact = (x : Rows) × OfRows x

abbrev SourceFact : Type 0
SourceFact = (x : Source) × OfSource x

abbrev LinkFact : Type 0
LinkFact = (x : Link) × OfLink x

abbrev OperandFact : Type 0
OperandFact = (x : Operand) × OfOperand x

abbrev ConditionFact : Type 0
ConditionFact = (x : Condition) × OfCondition x

abbrev SelectFact : Type 0
SelectFact = (x : Select) × OfSelect x

abbrev SetOperandFact : Type 0
SetOperandFact = (x : SetOperand) × OfSetOperand x

abbrev expr_alone : Expr-F ArgumentFact ExprFact ItemFact JoinFact RowsFact SourceFact LinkFact OperandFact ConditionFact SelectFact SetOperandFact → Expr-F Argument Expr Item Join Rows Source Link Operand Condition Select SetOperand
expr_alone = map-Expr ArgumentFact ExprFact ItemFact JoinFact RowsFact SourceFact LinkFact OperandFact ConditionFact SelectFact SetOperandFact Argument Expr Item Join Rows Source Link Operand Condition Select SetOperand (λ e. e.0) (λ e. e.0) (λ e. e.0) (λ e. e.0) (λ e. e.0) (λ e. e.0) (λ e. e.0) (λ e. e.0) (λ e. e.0) (λ e. e.0) (λ e. e.0)

abbrev join_alone : Join-F ArgumentFact ExprFact ItemFact JoinFact RowsFact SourceFact LinkFact OperandFact ConditionFact SelectFact SetOperandFact → Join-F Argument Expr Item Join Rows Source Link Operand Condition Select SetOperand
join_alone = map-Join ArgumentFact ExprFact ItemFact JoinFact RowsFact SourceFact LinkFact OperandFact ConditionFact SelectFact SetOperandFact Argument Expr Item Join Rows Source Link Operand Condition Select SetOperand (λ e. e.0) (λ e. e.0) (λ e. e.0) (λ e. e.0) (λ e. e.0) (λ e. e.0) (λ e. e.0) (λ e. e.0) (λ e. e.0) (λ e. e.0) (λ e. e.0)

abbrev rows_alone : Rows-F ArgumentFact ExprFact ItemFact JoinFact RowsFact SourceFact LinkFact OperandFact ConditionFact SelectFact SetOperandFact → Rows-F Argument Expr Item Join Rows Source Link Operand Condition Select SetOperand
rows_alone = map-Rows ArgumentFact ExprFact ItemFact JoinFact RowsFact SourceFact LinkFact OperandFact ConditionFact SelectFact SetOperandFact Argument Expr Item Join Rows Source Link Operand Condition Select SetOperand (λ e. e.0) (λ e. e.0) (λ e. e.0) (λ e. e.0) (λ e. e.0) (λ e. e.0) (λ e. e.0) (λ e. e.0) (λ e. e.0) (λ e. e.0) (λ e. e.0)

abbrev source_alone : Source-F ArgumentFact ExprFact ItemFact JoinFact RowsFact SourceFact LinkFact OperandFact ConditionFact SelectFact SetOperandFact → Source-F Argument Expr Item Join Rows Source Link Operand Condition Select SetOperand
source_alone = map-Source ArgumentFact ExprFact ItemFact JoinFact RowsFact SourceFact LinkFact OperandFact ConditionFact SelectFact SetOperandFact Argument Expr Item Join Rows Source Link Operand Condition Select SetOperand (λ e. e.0) (λ e. e.0) (λ e. e.0) (λ e. e.0) (λ e. e.0) (λ e. e.0) (λ e. e.0) (λ e. e.0) (λ e. e.0) (λ e. e.0) (λ e. e.0)

expr-facts : (y : Expr-F ArgumentFact ExprFact ItemFact JoinFact RowsFact SourceFact LinkFact OperandFact ConditionFact SelectFact SetOperandFact) → InExpr (expr_children (expr_alone y))
expr-facts (Expr-F.Literal written) = tt
expr-facts (Expr-F.Column written) = tt
expr-facts (Expr-F.Call name argument) = tt
expr-facts (Expr-F.Minus place operand) = tt
expr-facts (Expr-F.Not place operand) = tt
expr-facts (Expr-F.Chain first links) = tt
expr-facts (Expr-F.Every first others) = (first.1, all-bound operand_binding OfOperand kept.OfOperand of-operand others)
expr-facts (Expr-F.Either first others) = tt
expr-facts (Expr-F.Compare place sign left right) = tt
expr-facts (Expr-F.IsNull place negated operand) = tt
expr-facts (Expr-F.Like place negated operand pattern) = tt
expr-facts (Expr-F.OneOf place negated operand list) = tt
expr-facts (Expr-F.Member place negated operand query) = of-select query.0 query.1
expr-facts (Expr-F.Between place negated operand low high) = tt

join-facts : (y : Join-F ArgumentFact ExprFact ItemFact JoinFact RowsFact SourceFact LinkFact OperandFact ConditionFact SelectFact SetOperandFact) → InJoin (join_children (join_alone y))
join-facts (Join-F.Cross source) = source.1
join-facts (Join-F.On outer source on) = source.1

source-facts : (y : Source-F ArgumentFact ExprFact ItemFact JoinFact RowsFact SourceFact LinkFact OperandFact ConditionFact SelectFact SetOperandFact) → InSource (source_children (source_alone y))
source-facts (Source-F.Table name alias) = tt
source-facts (Source-F.Query place query alias) = of-select query.0 query.1

rows-facts : (y : Rows-F ArgumentFact ExprFact ItemFact JoinFact RowsFact SourceFact LinkFact OperandFact ConditionFact SelectFact SetOperandFact) → InRows (rows_children (rows_alone y))
rows-facts (Rows-F.Core place distinct items first joins None group having) = (first.1, (all-bound join_binding OfJoin kept.OfJoin (λ x of. of) joins, tt))
rows-facts (Rows-F.Core place distinct items first joins (Some filter) group having) =
    (first.1, (all-bound join_binding OfJoin kept.OfJoin (λ x of. of) joins, of-condition filter.0 filter.1))
rows-facts (Rows-F.Sets first others) = (first.1, all-bound set_binding OfSetOperand kept.OfSet of-set others)

-- ---- a part, by its parts

expr-step : (x : Expr-F Argument Expr Item Join Rows Source Link Operand Condition Select SetOperand) (y : Expr-F ArgumentFact ExprFact ItemFact JoinFact RowsFact SourceFact LinkFact OperandFact ConditionFact SelectFact SetOperandFact) → expr_alone y ≡ x → OfExpr (roll-Expr x)
expr-step x y is =
    subst kept.OfExpr (sym (expr_is (roll-Expr x) x (out-roll-Expr x)))
    (subst (λ (z : Expr-F Argument Expr Item Join Rows Source Link Operand Condition Select SetOperand). kept.OfExpr (expressions.expr_step (expr_children z))) is (expr-kept (expr_children (expr_alone y)) (expr-facts y)))

join-step : (x : Join-F Argument Expr Item Join Rows Source Link Operand Condition Select SetOperand) (y : Join-F ArgumentFact ExprFact ItemFact JoinFact RowsFact SourceFact LinkFact OperandFact ConditionFact SelectFact SetOperandFact) → join_alone y ≡ x → OfJoin (roll-Join x)
join-step x y is =
    subst kept.OfJoin (sym (join_is (roll-Join x) x (out-roll-Join x)))
    (subst (λ (z : Join-F Argument Expr Item Join Rows Source Link Operand Condition Select SetOperand). kept.OfJoin (selects.join_step (join_children z))) is (join-kept (join_children (join_alone y)) (join-facts y)))

rows-step : (x : Rows-F Argument Expr Item Join Rows Source Link Operand Condition Select SetOperand) (y : Rows-F ArgumentFact ExprFact ItemFact JoinFact RowsFact SourceFact LinkFact OperandFact ConditionFact SelectFact SetOperandFact) → rows_alone y ≡ x → OfRows (roll-Rows x)
rows-step x y is =
    subst kept.OfRows (sym (rows_is (roll-Rows x) x (out-roll-Rows x)))
    (subst (λ (z : Rows-F Argument Expr Item Join Rows Source Link Operand Condition Select SetOperand). kept.OfRows (selects.rows_step (rows_children z))) is (rows-kept (rows_children (rows_alone y)) (rows-facts y)))

source-step : (x : Source-F Argument Expr Item Join Rows Source Link Operand Condition Select SetOperand) (y : Source-F ArgumentFact ExprFact ItemFact JoinFact RowsFact SourceFact LinkFact OperandFact ConditionFact SelectFact SetOperandFact) → source_alone y ≡ x → OfSource (roll-Source x)
source-step x y is =
    subst kept.OfSource (sym (source_is (roll-Source x) x (out-roll-Source x)))
    (subst (λ (z : Source-F Argument Expr Item Join Rows Source Link Operand Condition Select SetOperand). kept.OfSource (selects.source_step (source_children z))) is (source-kept (source_children (source_alone y)) (source-facts y)))

select-rows : (x : Select) → OfSelect x
select-rows = ind-Select OfArgument OfExpr OfItem OfJoin OfRows OfSource OfLink OfOperand OfCondition OfSelect OfSetOperand
    (λ x y is. tt) expr-step (λ x y is. tt) join-step rows-step source-step (λ x y is. tt)
    (λ x y is. subst (λ (e : Expr). kept.OfExpr (expr_binding e)) (ap (λ (l : Operand-F Argument Expr Item Join Rows Source Link Operand Condition Select SetOperand). l.right) is) y.right.1)
    (λ x y is. subst (λ (e : Expr). kept.OfExpr (expr_binding e)) (ap (λ (c : Condition-F Argument Expr Item Join Rows Source Link Operand Condition Select SetOperand). c.test) is) y.test.1)
    (λ x y is. subst (λ (r : Rows). kept.OfRows (rows_binding r)) (ap (λ (s : Select-F Argument Expr Item Join Rows Source Link Operand Condition Select SetOperand). s.rows) is) y.rows.1)
    (λ x y is. subst (λ (r : Rows). kept.OfRows (rows_binding r)) (ap (λ (s : SetOperand-F Argument Expr Item Join Rows Source Link Operand Condition Select SetOperand). s.right) is) y.right.1)

pub every-select : (x : Select) → kept.OfSelect (select_binding x)
every-select x = of-select x (select-rows x)
