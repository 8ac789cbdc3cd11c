-- What every part of a statement's tree keeps.
use Rattle.std.proofs.Common.{◌≡◌, ℕ, Bool, true, false, List, [], ◌∷◌, ◌++◌, map, sym, ap, subst, Option, Some, None}
use Rattle.std.specs.Prelude.{◌&&◌, ◌||◌, is_some}
use Rattle.std.specs.List.{AllByRecursion}
use Rattle.std.proofs.lemmas.Bool.{and_parts}
use Rattle.sql_grammar.specs.declared.tree.expr.Argument.{Argument}
use Rattle.sql_grammar.specs.declared.tree.expr.Expr.{Expr}
use Rattle.sql_grammar.specs.declared.tree.expr.Link.{Link}
use Rattle.sql_grammar.specs.declared.tree.expr.Operand.{Operand}
use Rattle.sql_grammar.specs.declared.tree.select.Condition.{Condition}
use Rattle.sql_grammar.specs.declared.tree.select.Item.{Item}
use Rattle.sql_grammar.specs.declared.tree.select.Join.{Join}
use Rattle.sql_grammar.specs.declared.tree.select.Rows.{Rows}
use Rattle.sql_grammar.specs.declared.tree.select.Select.{Select}
use Rattle.sql_grammar.specs.declared.tree.select.SetOperand.{SetOperand}
use Rattle.sql_grammar.specs.declared.tree.select.Source.{Source}
use Rattle.sql_grammar.specs.declared.tree.expr.Argument.TheOpen.{Argument-F, Expr-F, Item-F, Join-F, Rows-F, Source-F, Link-F, Operand-F, Condition-F, Select-F, SetOperand-F}
use Rattle.sql_grammar.specs.declared.tree.expr.Argument.TheViews.{roll-Argument, roll-Expr, roll-Item, roll-Join, roll-Rows, roll-Source, out-roll-Argument, out-roll-Expr, out-roll-Item, out-roll-Join, out-roll-Rows, out-roll-Source}
use Rattle.sql_grammar.specs.declared.tree.expr.Argument.TheFolds.{ind-Select, map-Argument, map-Expr, map-Item, map-Join, map-Rows, map-Source}
use Rattle.sql_scope.specs.Answer.{◌>>=◌}
use Rattle.sql_scope.specs.Parts as parts
use Rattle.sql_scope.specs.Scopes.{View, columns_of, kinds}
use Rattle.sql_clauses.specs.Conditions.{plain_operand}
use Rattle.sql_clauses.specs.Items.{star_item, source_item, value_item}
use Rattle.sql_clauses.specs.Sources.{query_source}
use Rattle.bind_rules.specs.Bindings.{ExprBinding, ArgumentBinding, ItemBinding, RowsBinding, SourceBinding, JoinBinding, OperandBinding, LinkBinding, ConditionBinding}
use Rattle.bind_rules.specs.Bound.{argument_binding, item_binding, link_binding, expr_binding, operand_binding, condition_binding, select_binding, rows_binding, set_binding, source_binding, join_binding}
use Rattle.bind_rules.specs.Expressions as rules
use Rattle.bind_rules.specs.Expressions.{some_of}
use Rattle.bind_rules.specs.Selects as selects
use Rattle.bind_rules.proofs.Nodes.{argument_children, argument_is, condition_is, expr_children, expr_is, item_children, item_is, join_children, join_is, link_is, operand_is, rows_children, rows_is, select_is, set_is, source_children, source_is}
use Rattle.formed_binding.specs.Answers.{OfAnswer}
use Rattle.formed_binding.specs.Filters.{IsFilter, IsOperand}
use Rattle.formed_binding.specs.Items.{AreOutputs}
use Rattle.formed_binding.specs.Keeps as kept
use Rattle.formed_binding.specs.Keeps.{EachOf}
use Rattle.formed_binding.specs.Named.{AreUnordered, IsSelected}
use Rattle.formed_binding.specs.Parts.{IsPart, IsView}
use Rattle.formed_binding.specs.Placed.{Placed, all_of, are_different, argument_places, both, condition_places, count, expr_places, if_there, item_places, join_places, link_places, operand_places, rows_places, select_places, set_places, source_places}
use Rattle.formed_binding.specs.Placed as placed
use Rattle.formed_binding.proofs.ClauseLemmas.{cross-kept, on-kept}
use Rattle.formed_binding.proofs.EachLemmas.{on-answer}
use Rattle.formed_binding.proofs.ExprLemmas.{begun-kept, between-kept, chain-kept, compare-kept, distinct-kept, either-kept, every-filter, every-kept, member-kept, never, one-of-kept, plainly, star-kept, sum, value-kept}
use Rattle.formed_binding.proofs.Facts.{left-stands, right-stands}
use Rattle.formed_binding.proofs.ItemLemmas.{source-next, star-next, value-next}
use Rattle.formed_binding.proofs.NodeLemmas.{column-part, literal-part}
use Rattle.formed_binding.proofs.OperationLemmas.{like-part, minus-part, negation-part, null-part}
use Rattle.formed_binding.proofs.PlacedNodes.{argument_below, argument_placed, condition_placed, expr_below, expr_placed, item_below, item_placed, join_below, join_placed, link_placed, operand_placed, rows_below, rows_placed, select_placed, set_placed, source_below, source_placed}
use Rattle.formed_binding.proofs.RowsLemmas.{sets-kept, whole-core, whole-kept}
use Rattle.formed_binding.proofs.SourceLemmas.{append-nothing}
use Rattle.formed_binding.proofs.SourceLemmas as sources

-- ---- what is shown of each part, where its cores' calls stand apart

abbrev OfArgument : Argument → Type 0
OfArgument x = (argument_places x).apart ≡ true → kept.OfArgument (argument_binding x) (argument_places x).calls

abbrev OfExpr : Expr → Type 0
OfExpr x = (expr_places x).apart ≡ true → kept.OfExpr (expr_binding x) (expr_places x).calls

abbrev OfItem : Item → Type 0
OfItem x = (item_places x).apart ≡ true → kept.OfItem (item_binding x) (item_places x).calls

abbrev OfJoin : Join → Type 0
OfJoin x = (join_places x).apart ≡ true → kept.OfJoin (join_binding x)

abbrev OfRows : Rows → Type 0
OfRows x = (rows_places x).apart ≡ true → kept.OfRows (rows_binding x)

abbrev OfSource : Source → Type 0
OfSource x = (source_places x).apart ≡ true → kept.OfSource (source_binding x)

abbrev OfLink : Link → Type 0
OfLink x = OfExpr x.right

abbrev OfOperand : Operand → Type 0
OfOperand x = OfExpr x.right

abbrev OfCondition : Condition → Type 0
OfCondition x = OfExpr x.test

abbrev OfSelect : Select → Type 0
OfSelect x = OfRows x.rows

abbrev OfSetOperand : SetOperand → Type 0
OfSetOperand x = OfRows x.right

abbrev KeptExpr : ExprBinding → Placed → Type 0
KeptExpr b c = c.apart ≡ true → kept.OfExpr b c.calls

of-link : (x : Link) → OfLink x → (link_places x).apart ≡ true → kept.OfLink (link_binding x) (link_places x).calls
of-link x of = subst (λ (b : LinkBinding). KeptExpr b.right (link_places x)) (sym (link_is x)) (subst (KeptExpr (expr_binding x.right)) (sym (link_placed x)) of)

of-operand : (x : Operand) → OfOperand x → (operand_places x).apart ≡ true → kept.OfOperand (operand_binding x) (operand_places x).calls
of-operand x of = subst (λ (b : OperandBinding). KeptExpr b.right (operand_places x)) (sym (operand_is x)) (subst (KeptExpr (expr_binding x.right)) (sym (operand_placed x)) of)

of-condition : (x : Condition) → OfCondition x → (condition_places x).apart ≡ true → kept.OfCondition (condition_binding x) (condition_places x).calls
of-condition x of = subst (λ (b : ConditionBinding). KeptExpr b.test (condition_places x)) (sym (condition_is x)) (subst (KeptExpr (expr_binding x.test)) (sym (condition_placed x)) of)

of-select : (x : Select) → OfSelect x → (select_places x).apart ≡ true → kept.OfSelect (select_binding x)
of-select x of apart =
    subst kept.OfSelect (sym (select_is x)) (whole-kept (record { place = x.place; rows = rows_binding x.rows; order = x.order; limit = x.limit; offset = x.offset })
    (of (subst (λ (c : Placed). c.apart ≡ true) (select_placed x) apart)))

of-set : (x : SetOperand) → OfSetOperand x → (set_places x).apart ≡ true → kept.OfSet (set_binding x)
of-set x of apart = subst kept.OfSet (sym (set_is x)) (of (subst (λ (c : Placed). c.apart ≡ true) (set_placed x) apart))

-- ---- lists of parts beside what is shown of them

each-part : {X A : Type 0} (f : X → A) (g : X → Placed) (Q : X → Type 0) (P : A → List ℕ → Type 0) → ((x : X) → Q x → (g x).apart ≡ true → P (f x) (g x).calls) → (ys : List ((x : X) × Q x))
    → (all_of (map g (map (λ y. y.0) ys))).apart ≡ true → EachOf P (map f (map (λ y. y.0) ys)) (map g (map (λ y. y.0) ys))
each-part f g Q P to [] apart = tt
each-part f g Q P to (y ∷ ys) apart =
    let p = and_parts (g y.0).apart (all_of (map g (map (λ y. y.0) ys))).apart apart in
    (to y.0 y.1 p.0, each-part f g Q P to ys p.1)

each-alone : {X A : Type 0} (f : X → A) (g : X → Placed) (Q : X → Type 0) (P : A → Type 0) → ((x : X) → Q x → (g x).apart ≡ true → P (f x)) → (ys : List ((x : X) × Q x))
    → (all_of (map g (map (λ y. y.0) ys))).apart ≡ true → AllByRecursion P (map f (map (λ y. y.0) ys))
each-alone f g Q P to [] apart = tt
each-alone f g Q P to (y ∷ ys) apart =
    let p = and_parts (g y.0).apart (all_of (map g (map (λ y. y.0) ys))).apart apart in
    (to y.0 y.1 p.0, each-alone f g Q P to ys p.1)

abbrev ArgumentFact : Type 0
ArgumentFact = (x : Argument) × OfArgument x

abbrev ExprFact : Type 0
ExprFact = (x : Expr) × OfExpr x

abbrev ItemFact : Type 0
ItemFact = (x : Item) × OfItem x

abbrev JoinFact : Type 0
JoinFact = (x : Join) × OfJoin x

abbrev RowsFact : Type 0
RowsFact = (x : Rows) × OfRows x

abbrev SourceFact : Type 0
SourceFact = (x : Source) × OfSource x

abbrev LinkFact : Type 0
LinkFact = (x : Link) × OfLink x

abbrev OperandFact : Type 0
OperandFact = (x : Operand) × OfOperand x

abbrev ConditionFact : Type 0
ConditionFact = (x : Condition) × OfCondition x

abbrev SelectFact : Type 0
SelectFact = (x : Select) × OfSelect x

abbrev SetOperandFact : Type 0
SetOperandFact = (x : SetOperand) × OfSetOperand x

abbrev argument_alone : Argument-F ArgumentFact ExprFact ItemFact JoinFact RowsFact SourceFact LinkFact OperandFact ConditionFact SelectFact SetOperandFact → Argument-F Argument Expr Item Join Rows Source Link Operand Condition Select SetOperand
argument_alone = map-Argument ArgumentFact ExprFact ItemFact JoinFact RowsFact SourceFact LinkFact OperandFact ConditionFact SelectFact SetOperandFact Argument Expr Item Join Rows Source Link Operand Condition Select SetOperand (λ e. e.0) (λ e. e.0) (λ e. e.0) (λ e. e.0) (λ e. e.0) (λ e. e.0) (λ e. e.0) (λ e. e.0) (λ e. e.0) (λ e. e.0) (λ e. e.0)

abbrev expr_alone : Expr-F ArgumentFact ExprFact ItemFact JoinFact RowsFact SourceFact LinkFact OperandFact ConditionFact SelectFact SetOperandFact → Expr-F Argument Expr Item Join Rows Source Link Operand Condition Select SetOperand
expr_alone = map-Expr ArgumentFact ExprFact ItemFact JoinFact RowsFact SourceFact LinkFact OperandFact ConditionFact SelectFact SetOperandFact Argument Expr Item Join Rows Source Link Operand Condition Select SetOperand (λ e. e.0) (λ e. e.0) (λ e. e.0) (λ e. e.0) (λ e. e.0) (λ e. e.0) (λ e. e.0) (λ e. e.0) (λ e. e.0) (λ e. e.0) (λ e. e.0)

abbrev item_alone : Item-F ArgumentFact ExprFact ItemFact JoinFact RowsFact SourceFact LinkFact OperandFact ConditionFact SelectFact SetOperandFact → Item-F Argument Expr Item Join Rows Source Link Operand Condition Select SetOperand
item_alone = map-Item ArgumentFact ExprFact ItemFact JoinFact RowsFact SourceFact LinkFact OperandFact ConditionFact SelectFact SetOperandFact Argument Expr Item Join Rows Source Link Operand Condition Select SetOperand (λ e. e.0) (λ e. e.0) (λ e. e.0) (λ e. e.0) (λ e. e.0) (λ e. e.0) (λ e. e.0) (λ e. e.0) (λ e. e.0) (λ e. e.0) (λ e. e.0)

abbrev join_alone : Join-F ArgumentFact ExprFact ItemFact JoinFact RowsFact SourceFact LinkFact OperandFact ConditionFact SelectFact SetOperandFact → Join-F Argument Expr Item Join Rows Source Link Operand Condition Select SetOperand
join_alone = map-Join ArgumentFact ExprFact ItemFact JoinFact RowsFact SourceFact LinkFact OperandFact ConditionFact SelectFact SetOperandFact Argument Expr Item Join Rows Source Link Operand Condition Select SetOperand (λ e. e.0) (λ e. e.0) (λ e. e.0) (λ e. e.0) (λ e. e.0) (λ e. e.0) (λ e. e.0) (λ e. e.0) (λ e. e.0) (λ e. e.0) (λ e. e.0)

abbrev rows_alone : Rows-F ArgumentFact ExprFact ItemFact JoinFact RowsFact SourceFact LinkFact OperandFact ConditionFact SelectFact SetOperandFact → Rows-F Argument Expr Item Join Rows Source Link Operand Condition Select SetOperand
rows_alone = map-Rows ArgumentFact ExprFact ItemFact JoinFact RowsFact SourceFact LinkFact OperandFact ConditionFact SelectFact SetOperandFact Argument Expr Item Join Rows Source Link Operand Condition Select SetOperand (λ e. e.0) (λ e. e.0) (λ e. e.0) (λ e. e.0) (λ e. e.0) (λ e. e.0) (λ e. e.0) (λ e. e.0) (λ e. e.0) (λ e. e.0) (λ e. e.0)

abbrev source_alone : Source-F ArgumentFact ExprFact ItemFact JoinFact RowsFact SourceFact LinkFact OperandFact ConditionFact SelectFact SetOperandFact → Source-F Argument Expr Item Join Rows Source Link Operand Condition Select SetOperand
source_alone = map-Source ArgumentFact ExprFact ItemFact JoinFact RowsFact SourceFact LinkFact OperandFact ConditionFact SelectFact SetOperandFact Argument Expr Item Join Rows Source Link Operand Condition Select SetOperand (λ e. e.0) (λ e. e.0) (λ e. e.0) (λ e. e.0) (λ e. e.0) (λ e. e.0) (λ e. e.0) (λ e. e.0) (λ e. e.0) (λ e. e.0) (λ e. e.0)

-- ---- expressions

abbrev KeptPart : rules.ExprNode → Placed → Type 0
KeptPart x c = (view : View) → IsView view → OfAnswer (IsPart view (rules.aggregates_in view.script x) (count c.calls)) (rules.part_over view x)

abbrev node_of : Expr-F ArgumentFact ExprFact ItemFact JoinFact RowsFact SourceFact LinkFact OperandFact ConditionFact SelectFact SetOperandFact → rules.ExprNode
node_of y = expr_children (expr_alone y)

abbrev places_of : Expr-F ArgumentFact ExprFact ItemFact JoinFact RowsFact SourceFact LinkFact OperandFact ConditionFact SelectFact SetOperandFact → Placed
places_of y = placed.expr_step (expr_below (expr_alone y))

part-kept : (y : Expr-F ArgumentFact ExprFact ItemFact JoinFact RowsFact SourceFact LinkFact OperandFact ConditionFact SelectFact SetOperandFact) → (places_of y).apart ≡ true → KeptPart (node_of y) (places_of y)
part-kept (Expr-F.Literal written) apart = λ view sees. literal-part view written
part-kept (Expr-F.Column written) apart = λ view sees. column-part view written sees
part-kept (Expr-F.Call name argument) apart = λ view sees. argument.1 apart view name sees
part-kept (Expr-F.Minus place operand) apart = λ view sees.
    let P = IsPart view ((expr_binding operand.0).aggregates view.script) (count (expr_places operand.0).calls) in
    on-answer P P ((expr_binding operand.0).part view) (parts.minus view place) ((operand.1 apart).part view sees) (λ p is. minus-part view ((expr_binding operand.0).aggregates view.script) (count (expr_places operand.0).calls) place p is)
part-kept (Expr-F.Not place operand) apart = λ view sees.
    let P = IsPart view ((expr_binding operand.0).aggregates view.script) (count (expr_places operand.0).calls) in
    on-answer P P ((expr_binding operand.0).part view) (parts.negation view place) ((operand.1 apart).part view sees) (λ p is. negation-part view ((expr_binding operand.0).aggregates view.script) (count (expr_places operand.0).calls) place p is)
part-kept (Expr-F.Chain first links) apart = λ view sees.
    let cs = map link_places (map (λ (y : LinkFact). y.0) links) in
    let p = and_parts (expr_places first.0).apart (all_of cs).apart apart in
    chain-kept view sees (expr_binding first.0) (expr_places first.0) (map link_binding (map (λ (y : LinkFact). y.0) links)) cs (first.1 p.0) (each-part link_binding link_places OfLink kept.OfLink of-link links p.1)
part-kept (Expr-F.Every first others) apart = λ view sees.
    let cs = map operand_places (map (λ (y : OperandFact). y.0) others) in
    let p = and_parts (expr_places first.0).apart (all_of cs).apart apart in
    every-kept view sees (expr_binding first.0) (expr_places first.0) (map operand_binding (map (λ (y : OperandFact). y.0) others)) cs (first.1 p.0) (each-part operand_binding operand_places OfOperand kept.OfOperand of-operand others p.1)
part-kept (Expr-F.Either first others) apart = λ view sees.
    let cs = map operand_places (map (λ (y : OperandFact). y.0) others) in
    let p = and_parts (expr_places first.0).apart (all_of cs).apart apart in
    either-kept view sees (expr_binding first.0) (expr_places first.0) (map operand_binding (map (λ (y : OperandFact). y.0) others)) cs (first.1 p.0) (each-part operand_binding operand_places OfOperand kept.OfOperand of-operand others p.1)
part-kept (Expr-F.Compare place sign left right) apart = λ view sees.
    let p = and_parts (expr_places left.0).apart (expr_places right.0).apart apart in
    compare-kept view sees place sign (expr_binding left.0) (expr_binding right.0) (expr_places left.0) (expr_places right.0) (left.1 p.0) (right.1 p.1)
part-kept (Expr-F.IsNull place negated operand) apart = λ view sees.
    let P = IsPart view ((expr_binding operand.0).aggregates view.script) (count (expr_places operand.0).calls) in
    on-answer P P ((expr_binding operand.0).part view) (parts.null_test view negated) ((operand.1 apart).part view sees) (λ p is. null-part view ((expr_binding operand.0).aggregates view.script) (count (expr_places operand.0).calls) negated p is)
part-kept (Expr-F.Like place negated operand pattern) apart = λ view sees.
    let P = IsPart view ((expr_binding operand.0).aggregates view.script) (count (expr_places operand.0).calls) in
    on-answer P P ((expr_binding operand.0).part view) (parts.like view place negated pattern) ((operand.1 apart).part view sees) (λ p is. like-part view ((expr_binding operand.0).aggregates view.script) (count (expr_places operand.0).calls) place negated pattern p is)
part-kept (Expr-F.OneOf place negated operand list) apart = λ view sees. one-of-kept view sees place negated (expr_binding operand.0) list (expr_places operand.0).calls (operand.1 apart)
part-kept (Expr-F.Member place negated operand query) apart = λ view sees. never view sees (IsPart view (rules.aggregates_in view.script (node_of (Expr-F.Member place negated operand query))) (count (places_of (Expr-F.Member place negated operand query)).calls)) place (expr_binding operand.0) (select_binding query.0)
part-kept (Expr-F.Between place negated operand low high) apart = λ view sees.
    let p = and_parts (expr_places operand.0).apart ((expr_places low.0).apart && (expr_places high.0).apart) apart in
    let q = and_parts (expr_places low.0).apart (expr_places high.0).apart p.1 in
    between-kept view sees place negated (expr_binding operand.0) (expr_binding low.0) (expr_binding high.0) (expr_places operand.0) (expr_places low.0) (expr_places high.0) (operand.1 p.0) (low.1 q.0) (high.1 q.1)

abbrev KeptOperand : rules.ExprNode → Type 0
KeptOperand x = (view : View) → IsView view → view.aggregates ≡ false → OfAnswer (IsOperand view.limit (columns_of view.tables) (kinds view)) (rules.operand_over view x)

abbrev KeptFilter : rules.ExprNode → Type 0
KeptFilter x = (view : View) → IsView view → view.aggregates ≡ false → OfAnswer (IsFilter view.limit (columns_of view.tables) (kinds view)) (rules.filter_over view x)

as-operand : (x : rules.ExprNode) (c : Placed) (view : View) → IsView view → view.aggregates ≡ false → KeptPart x c → OfAnswer (IsOperand view.limit (columns_of view.tables) (kinds view)) (rules.part_over view x >>= plain_operand)
as-operand x c view sees off part = plainly view sees (rules.aggregates_in view.script x) (count c.calls) (rules.part_over view x) off (part view sees)

operand-kept : (y : Expr-F ArgumentFact ExprFact ItemFact JoinFact RowsFact SourceFact LinkFact OperandFact ConditionFact SelectFact SetOperandFact) → (places_of y).apart ≡ true → KeptOperand (node_of y)
operand-kept (Expr-F.Literal written) apart = λ view sees off. as-operand (node_of (Expr-F.Literal written)) (places_of (Expr-F.Literal written)) view sees off (part-kept (Expr-F.Literal written) apart)
operand-kept (Expr-F.Column written) apart = λ view sees off. as-operand (node_of (Expr-F.Column written)) (places_of (Expr-F.Column written)) view sees off (part-kept (Expr-F.Column written) apart)
operand-kept (Expr-F.Call name argument) apart = λ view sees off. as-operand (node_of (Expr-F.Call name argument)) (places_of (Expr-F.Call name argument)) view sees off (part-kept (Expr-F.Call name argument) apart)
operand-kept (Expr-F.Minus place operand) apart = λ view sees off. as-operand (node_of (Expr-F.Minus place operand)) (places_of (Expr-F.Minus place operand)) view sees off (part-kept (Expr-F.Minus place operand) apart)
operand-kept (Expr-F.Not place operand) apart = λ view sees off. as-operand (node_of (Expr-F.Not place operand)) (places_of (Expr-F.Not place operand)) view sees off (part-kept (Expr-F.Not place operand) apart)
operand-kept (Expr-F.Chain first links) apart = λ view sees off. as-operand (node_of (Expr-F.Chain first links)) (places_of (Expr-F.Chain first links)) view sees off (part-kept (Expr-F.Chain first links) apart)
operand-kept (Expr-F.Every first others) apart = λ view sees off. as-operand (node_of (Expr-F.Every first others)) (places_of (Expr-F.Every first others)) view sees off (part-kept (Expr-F.Every first others) apart)
operand-kept (Expr-F.Either first others) apart = λ view sees off. as-operand (node_of (Expr-F.Either first others)) (places_of (Expr-F.Either first others)) view sees off (part-kept (Expr-F.Either first others) apart)
operand-kept (Expr-F.Compare place sign left right) apart = λ view sees off. as-operand (node_of (Expr-F.Compare place sign left right)) (places_of (Expr-F.Compare place sign left right)) view sees off (part-kept (Expr-F.Compare place sign left right) apart)
operand-kept (Expr-F.IsNull place negated operand) apart = λ view sees off. as-operand (node_of (Expr-F.IsNull place negated operand)) (places_of (Expr-F.IsNull place negated operand)) view sees off (part-kept (Expr-F.IsNull place negated operand) apart)
operand-kept (Expr-F.Like place negated operand pattern) apart = λ view sees off. as-operand (node_of (Expr-F.Like place negated operand pattern)) (places_of (Expr-F.Like place negated operand pattern)) view sees off (part-kept (Expr-F.Like place negated operand pattern) apart)
operand-kept (Expr-F.OneOf place negated operand list) apart = λ view sees off. as-operand (node_of (Expr-F.OneOf place negated operand list)) (places_of (Expr-F.OneOf place negated operand list)) view sees off (part-kept (Expr-F.OneOf place negated operand list) apart)
operand-kept (Expr-F.Between place negated operand low high) apart = λ view sees off. as-operand (node_of (Expr-F.Between place negated operand low high)) (places_of (Expr-F.Between place negated operand low high)) view sees off (part-kept (Expr-F.Between place negated operand low high) apart)
operand-kept (Expr-F.Member place negated operand query) apart = λ view sees off.
    let p = and_parts (expr_places operand.0).apart (select_places query.0).apart apart in
    member-kept view sees place negated (expr_binding operand.0) (select_binding query.0) (expr_places operand.0).calls off (operand.1 p.0) (of-select query.0 query.1 p.1)

filter-kept : (y : Expr-F ArgumentFact ExprFact ItemFact JoinFact RowsFact SourceFact LinkFact OperandFact ConditionFact SelectFact SetOperandFact) → (places_of y).apart ≡ true → KeptFilter (node_of y)
filter-kept (Expr-F.Every first others) apart = λ view sees off.
    let cs = map operand_places (map (λ (y : OperandFact). y.0) others) in
    let p = and_parts (expr_places first.0).apart (all_of cs).apart apart in
    every-filter view sees (expr_binding first.0) (expr_places first.0) (map operand_binding (map (λ (y : OperandFact). y.0) others)) cs off (first.1 p.0) (each-part operand_binding operand_places OfOperand kept.OfOperand of-operand others p.1)
filter-kept (Expr-F.Literal written) apart = λ view sees off. begun-kept view sees (rules.operand_over view (node_of (Expr-F.Literal written))) (operand-kept (Expr-F.Literal written) apart view sees off)
filter-kept (Expr-F.Column written) apart = λ view sees off. begun-kept view sees (rules.operand_over view (node_of (Expr-F.Column written))) (operand-kept (Expr-F.Column written) apart view sees off)
filter-kept (Expr-F.Call name argument) apart = λ view sees off. begun-kept view sees (rules.operand_over view (node_of (Expr-F.Call name argument))) (operand-kept (Expr-F.Call name argument) apart view sees off)
filter-kept (Expr-F.Minus place operand) apart = λ view sees off. begun-kept view sees (rules.operand_over view (node_of (Expr-F.Minus place operand))) (operand-kept (Expr-F.Minus place operand) apart view sees off)
filter-kept (Expr-F.Not place operand) apart = λ view sees off. begun-kept view sees (rules.operand_over view (node_of (Expr-F.Not place operand))) (operand-kept (Expr-F.Not place operand) apart view sees off)
filter-kept (Expr-F.Chain first links) apart = λ view sees off. begun-kept view sees (rules.operand_over view (node_of (Expr-F.Chain first links))) (operand-kept (Expr-F.Chain first links) apart view sees off)
filter-kept (Expr-F.Either first others) apart = λ view sees off. begun-kept view sees (rules.operand_over view (node_of (Expr-F.Either first others))) (operand-kept (Expr-F.Either first others) apart view sees off)
filter-kept (Expr-F.Compare place sign left right) apart = λ view sees off. begun-kept view sees (rules.operand_over view (node_of (Expr-F.Compare place sign left right))) (operand-kept (Expr-F.Compare place sign left right) apart view sees off)
filter-kept (Expr-F.IsNull place negated operand) apart = λ view sees off. begun-kept view sees (rules.operand_over view (node_of (Expr-F.IsNull place negated operand))) (operand-kept (Expr-F.IsNull place negated operand) apart view sees off)
filter-kept (Expr-F.Like place negated operand pattern) apart = λ view sees off. begun-kept view sees (rules.operand_over view (node_of (Expr-F.Like place negated operand pattern))) (operand-kept (Expr-F.Like place negated operand pattern) apart view sees off)
filter-kept (Expr-F.OneOf place negated operand list) apart = λ view sees off. begun-kept view sees (rules.operand_over view (node_of (Expr-F.OneOf place negated operand list))) (operand-kept (Expr-F.OneOf place negated operand list) apart view sees off)
filter-kept (Expr-F.Between place negated operand low high) apart = λ view sees off. begun-kept view sees (rules.operand_over view (node_of (Expr-F.Between place negated operand low high))) (operand-kept (Expr-F.Between place negated operand low high) apart view sees off)
filter-kept (Expr-F.Member place negated operand query) apart = λ view sees off. begun-kept view sees (rules.operand_over view (node_of (Expr-F.Member place negated operand query))) (operand-kept (Expr-F.Member place negated operand query) apart view sees off)

-- ---- a part, by its parts

expr-step : (x : Expr-F Argument Expr Item Join Rows Source Link Operand Condition Select SetOperand) (y : Expr-F ArgumentFact ExprFact ItemFact JoinFact RowsFact SourceFact LinkFact OperandFact ConditionFact SelectFact SetOperandFact) → expr_alone y ≡ x → OfExpr (roll-Expr x)
expr-step x y is =
    subst (λ (b : ExprBinding). KeptExpr b (expr_places (roll-Expr x))) (sym (expr_is (roll-Expr x) x (out-roll-Expr x)))
    (subst (KeptExpr (rules.expr_step (expr_children x))) (sym (expr_placed (roll-Expr x) x (out-roll-Expr x)))
    (subst (λ (z : Expr-F Argument Expr Item Join Rows Source Link Operand Condition Select SetOperand). KeptExpr (rules.expr_step (expr_children z)) (placed.expr_step (expr_below z))) is
    (λ apart. record { part = part-kept y apart; operand = operand-kept y apart; filter = filter-kept y apart })))

abbrev KeptArgument : ArgumentBinding → Placed → Type 0
KeptArgument b c = c.apart ≡ true → kept.OfArgument b c.calls

argument-kept : (y : Argument-F ArgumentFact ExprFact ItemFact JoinFact RowsFact SourceFact LinkFact OperandFact ConditionFact SelectFact SetOperandFact) → KeptArgument (rules.argument_step (argument_children (argument_alone y))) (placed.argument_step (argument_below (argument_alone y)))
argument-kept Argument-F.Argument::Star apart = λ view name sees. star-kept view name
argument-kept (Argument-F.Argument::Value value) apart = λ view name sees. value-kept view name.start (rules.function_at view name) (expr_binding value.0) (expr_places value.0).calls sees (value.1 apart)
argument-kept (Argument-F.Distinct value) apart = λ view name sees. distinct-kept view name.start (rules.function_at view name) (expr_binding value.0) (expr_places value.0).calls sees (value.1 apart)

argument-step : (x : Argument-F Argument Expr Item Join Rows Source Link Operand Condition Select SetOperand) (y : Argument-F ArgumentFact ExprFact ItemFact JoinFact RowsFact SourceFact LinkFact OperandFact ConditionFact SelectFact SetOperandFact) → argument_alone y ≡ x → OfArgument (roll-Argument x)
argument-step x y is =
    subst (λ (b : ArgumentBinding). KeptArgument b (argument_places (roll-Argument x))) (sym (argument_is (roll-Argument x) x (out-roll-Argument x)))
    (subst (KeptArgument (rules.argument_step (argument_children x))) (sym (argument_placed (roll-Argument x) x (out-roll-Argument x)))
    (subst (λ (z : Argument-F Argument Expr Item Join Rows Source Link Operand Condition Select SetOperand). KeptArgument (rules.argument_step (argument_children z)) (placed.argument_step (argument_below z))) is (argument-kept y)))

abbrev KeptItem : ItemBinding → Placed → Type 0
KeptItem b c = c.apart ≡ true → kept.OfItem b c.calls

item-kept : (y : Item-F ArgumentFact ExprFact ItemFact JoinFact RowsFact SourceFact LinkFact OperandFact ConditionFact SelectFact SetOperandFact) → KeptItem (selects.item_step (item_children (item_alone y))) (placed.item_step (item_below (item_alone y)))
item-kept (Item-F.Item::Star place) apart = λ view grouped done outputs sees to are.
    subst (λ (places : List ℕ). OfAnswer (AreOutputs view grouped (count places)) (star_item view grouped place outputs)) (sym (append-nothing done)) (star-next view grouped (count done) place sees outputs are)
item-kept (Item-F.SourceStar source) apart = λ view grouped done outputs sees to are.
    subst (λ (places : List ℕ). OfAnswer (AreOutputs view grouped (count places)) (source_item view grouped source outputs)) (sym (append-nothing done)) (source-next view grouped (count done) source outputs sees are)
item-kept (Item-F.Item::Value value alias) apart = λ view grouped done outputs sees to are.
    let c = (expr_places value.0).calls in
    let f = (expr_binding value.0).aggregates view.script in
    on-answer (IsPart view f (count c)) (AreOutputs view grouped (count (done ++ c))) ((expr_binding value.0).part view) (value_item view grouped alias outputs) ((value.1 apart).part view sees)
    (λ part is. value-next view grouped f (count (done ++ c)) (count done) (count c) alias outputs part are is to (sum done c))

item-step : (x : Item-F Argument Expr Item Join Rows Source Link Operand Condition Select SetOperand) (y : Item-F ArgumentFact ExprFact ItemFact JoinFact RowsFact SourceFact LinkFact OperandFact ConditionFact SelectFact SetOperandFact) → item_alone y ≡ x → OfItem (roll-Item x)
item-step x y is =
    subst (λ (b : ItemBinding). KeptItem b (item_places (roll-Item x))) (sym (item_is (roll-Item x) x (out-roll-Item x)))
    (subst (KeptItem (selects.item_step (item_children x))) (sym (item_placed (roll-Item x) x (out-roll-Item x)))
    (subst (λ (z : Item-F Argument Expr Item Join Rows Source Link Operand Condition Select SetOperand). KeptItem (selects.item_step (item_children z)) (placed.item_step (item_below z))) is (item-kept y)))

abbrev KeptSource : SourceBinding → Placed → Type 0
KeptSource b c = c.apart ≡ true → kept.OfSource b

source-kept : (y : Source-F ArgumentFact ExprFact ItemFact JoinFact RowsFact SourceFact LinkFact OperandFact ConditionFact SelectFact SetOperandFact) → KeptSource (selects.source_step (source_children (source_alone y))) (placed.source_step (source_below (source_alone y)))
source-kept (Source-F.Table name alias) apart = λ view join before joins schemas are. sources.table-next view join name alias before joins schemas are
source-kept (Source-F.Query place query alias) apart = λ view join before joins schemas are.
    on-answer (IsSelected view.limit (columns_of view.tables)) _ ((select_binding query.0).select view) (query_source view join place alias before) (of-select query.0 query.1 apart view schemas)
    (λ select formed. sources.query-next view join place alias before joins select formed are)

source-step : (x : Source-F Argument Expr Item Join Rows Source Link Operand Condition Select SetOperand) (y : Source-F ArgumentFact ExprFact ItemFact JoinFact RowsFact SourceFact LinkFact OperandFact ConditionFact SelectFact SetOperandFact) → source_alone y ≡ x → OfSource (roll-Source x)
source-step x y is =
    subst (λ (b : SourceBinding). KeptSource b (source_places (roll-Source x))) (sym (source_is (roll-Source x) x (out-roll-Source x)))
    (subst (KeptSource (selects.source_step (source_children x))) (sym (source_placed (roll-Source x) x (out-roll-Source x)))
    (subst (λ (z : Source-F Argument Expr Item Join Rows Source Link Operand Condition Select SetOperand). KeptSource (selects.source_step (source_children z)) (placed.source_step (source_below z))) is (source-kept y)))

abbrev KeptJoin : JoinBinding → Placed → Type 0
KeptJoin b c = c.apart ≡ true → kept.OfJoin b

join-kept : (y : Join-F ArgumentFact ExprFact ItemFact JoinFact RowsFact SourceFact LinkFact OperandFact ConditionFact SelectFact SetOperandFact) → KeptJoin (selects.join_step (join_children (join_alone y))) (placed.join_step (join_below (join_alone y)))
join-kept (Join-F.Cross source) apart = cross-kept (source_binding source.0) (source.1 apart)
join-kept (Join-F.On outer source on) apart =
    let p = and_parts (source_places source.0).apart (condition_places on.0).apart apart in
    on-kept outer (source_binding source.0) (condition_binding on.0) (condition_places on.0).calls (source.1 p.0) (of-condition on.0 on.1 p.1)

join-step : (x : Join-F Argument Expr Item Join Rows Source Link Operand Condition Select SetOperand) (y : Join-F ArgumentFact ExprFact ItemFact JoinFact RowsFact SourceFact LinkFact OperandFact ConditionFact SelectFact SetOperandFact) → join_alone y ≡ x → OfJoin (roll-Join x)
join-step x y is =
    subst (λ (b : JoinBinding). KeptJoin b (join_places (roll-Join x))) (sym (join_is (roll-Join x) x (out-roll-Join x)))
    (subst (KeptJoin (selects.join_step (join_children x))) (sym (join_placed (roll-Join x) x (out-roll-Join x)))
    (subst (λ (z : Join-F Argument Expr Item Join Rows Source Link Operand Condition Select SetOperand). KeptJoin (selects.join_step (join_children z)) (placed.join_step (join_below z))) is (join-kept y)))

abbrev some_binding : Option ConditionFact → Option ConditionBinding
some_binding None = None
some_binding (Some c) = Some (condition_binding c.0)

abbrev some_places : Option ConditionFact → Option Placed
some_places None = None
some_places (Some c) = Some (condition_places c.0)

abbrev items_places : List ItemFact → Placed
items_places items = all_of (map item_places (map (λ (y : ItemFact). y.0) items))

abbrev joins_places : List JoinFact → Placed
joins_places joins = all_of (map join_places (map (λ (y : JoinFact). y.0) joins))

abbrev group_places : List ExprFact → Placed
group_places group = all_of (map expr_places (map (λ (y : ExprFact). y.0) group))

record CoreApart (items : List ItemFact) (first : SourceFact) (joins : List JoinFact) (filter : Option ConditionFact) (group : List ExprFact) (having : Option ConditionFact) : Type 0 where
  items_apart : (items_places items).apart ≡ true
  first_apart : (source_places first.0).apart ≡ true
  joins_apart : (joins_places joins).apart ≡ true
  filter_apart : (if_there (some_places filter)).apart ≡ true
  group_apart : (group_places group).apart ≡ true
  having_apart : (if_there (some_places having)).apart ≡ true
  different : are_different ((items_places items).calls ++ (if_there (some_places having)).calls) ≡ true

opened : (items : List ItemFact) (first : SourceFact) (joins : List JoinFact) (filter : Option ConditionFact) (group : List ExprFact) (having : Option ConditionFact)
    → placed.core_apart (both (items_places items) (if_there (some_places having))) (both (both (source_places first.0) (joins_places joins)) (both (if_there (some_places filter)) (group_places group))) ≡ true
    → CoreApart items first joins filter group having
opened items first joins filter group having apart =
    let i = items_places items in
    let h = if_there (some_places having) in
    let s = source_places first.0 in
    let j = joins_places joins in
    let f = if_there (some_places filter) in
    let g = group_places group in
    let p = and_parts (are_different (i.calls ++ h.calls)) ((i.apart && h.apart) && ((s.apart && j.apart) && (f.apart && g.apart))) apart in
    let q = and_parts (i.apart && h.apart) ((s.apart && j.apart) && (f.apart && g.apart)) p.1 in
    let own = and_parts i.apart h.apart q.0 in
    let rest = and_parts (s.apart && j.apart) (f.apart && g.apart) q.1 in
    let from = and_parts s.apart j.apart rest.0 in
    let last = and_parts f.apart g.apart rest.1 in
    record { items_apart = own.0; first_apart = from.0; joins_apart = from.1; filter_apart = last.0; group_apart = last.1; having_apart = own.1; different = p.0 }

abbrev KeptRows : RowsBinding → Placed → Type 0
KeptRows b c = c.apart ≡ true → kept.OfRows b

core-kept : (place : ℕ) (distinct : Bool) (items : List ItemFact) (first : SourceFact) (joins : List JoinFact) (filter : Option ConditionFact) (group : List ExprFact) (having : Option ConditionFact)
    → ((f : Option ConditionFact) → (if_there (some_places f)).apart ≡ true → kept.IfCondition (some_binding f) (if_there (some_places f)).calls)
    → CoreApart items first joins filter group having → (view : View) → kept.HasSchemas view
    → OfAnswer (AreUnordered view.limit (columns_of view.tables)) (selects.rows_over view (Rows-F.Core place distinct (map item_binding (map (λ (y : ItemFact). y.0) items)) (source_binding first.0)
    (map join_binding (map (λ (y : JoinFact). y.0) joins)) (some_binding filter) (map expr_binding (map (λ (y : ExprFact). y.0) group)) (some_binding having)))
core-kept place distinct items first joins filter group having conditions apart = λ view schemas.
    let of_all = λ (y : ItemFact). y.0 in
    let bs = map item_binding (map of_all items) in
    let gs = map expr_binding (map (λ (y : ExprFact). y.0) group) in
    let has = some_binding having in
    let grouped = selects.is_grouped view.script gs has bs in
    let aggregated = some_of (selects.aggregates_of view.script) bs in
    whole-core view schemas place distinct grouped bs (map join_binding (map (λ (y : JoinFact). y.0) joins)) (some_binding filter) gs has
    (map item_places (map of_all items)) (map expr_places (map (λ (y : ExprFact). y.0) group)) (if_there (some_places filter)).calls (some_places having)
    (each-alone join_binding join_places OfJoin kept.OfJoin (λ x of a. of a) joins apart.joins_apart)
    (conditions filter apart.filter_apart)
    (each-part expr_binding expr_places OfExpr kept.OfExpr (λ x of a. of a) group apart.group_apart)
    (each-part item_binding item_places OfItem kept.OfItem (λ x of a. of a) items apart.items_apart)
    (conditions having apart.having_apart)
    (λ e. right-stands (selects.has_some gs || is_some has) aggregated e)
    (λ e. left-stands (selects.has_some gs || is_some has) aggregated (right-stands (selects.has_some gs) (is_some has) e))
    apart.different (source_binding first.0) (first.1 apart.first_apart)

if-condition : (f : Option ConditionFact) → (if_there (some_places f)).apart ≡ true → kept.IfCondition (some_binding f) (if_there (some_places f)).calls
if-condition None apart = tt
if-condition (Some c) apart = of-condition c.0 c.1 apart

rows-kept : (y : Rows-F ArgumentFact ExprFact ItemFact JoinFact RowsFact SourceFact LinkFact OperandFact ConditionFact SelectFact SetOperandFact) → KeptRows (selects.rows_step (rows_children (rows_alone y))) (placed.rows_step (rows_below (rows_alone y)))
rows-kept (Rows-F.Core place distinct items first joins None group None) apart = core-kept place distinct items first joins None group None if-condition (opened items first joins None group None apart)
rows-kept (Rows-F.Core place distinct items first joins None group (Some having)) apart = core-kept place distinct items first joins None group (Some having) if-condition (opened items first joins None group (Some having) apart)
rows-kept (Rows-F.Core place distinct items first joins (Some filter) group None) apart = core-kept place distinct items first joins (Some filter) group None if-condition (opened items first joins (Some filter) group None apart)
rows-kept (Rows-F.Core place distinct items first joins (Some filter) group (Some having)) apart = core-kept place distinct items first joins (Some filter) group (Some having) if-condition (opened items first joins (Some filter) group (Some having) apart)
rows-kept (Rows-F.Sets first others) apart = λ view schemas.
    let p = and_parts (rows_places first.0).apart (all_of (map set_places (map (λ (y : SetOperandFact). y.0) others))).apart apart in
    sets-kept view schemas (rows_binding first.0) (map set_binding (map (λ (y : SetOperandFact). y.0) others)) (first.1 p.0) (each-alone set_binding set_places OfSetOperand kept.OfSet of-set others p.1)

rows-step : (x : Rows-F Argument Expr Item Join Rows Source Link Operand Condition Select SetOperand) (y : Rows-F ArgumentFact ExprFact ItemFact JoinFact RowsFact SourceFact LinkFact OperandFact ConditionFact SelectFact SetOperandFact) → rows_alone y ≡ x → OfRows (roll-Rows x)
rows-step x y is =
    subst (λ (b : RowsBinding). KeptRows b (rows_places (roll-Rows x))) (sym (rows_is (roll-Rows x) x (out-roll-Rows x)))
    (subst (KeptRows (selects.rows_step (rows_children x))) (sym (rows_placed (roll-Rows x) x (out-roll-Rows x)))
    (subst (λ (z : Rows-F Argument Expr Item Join Rows Source Link Operand Condition Select SetOperand). KeptRows (selects.rows_step (rows_children z)) (placed.rows_step (rows_below z))) is (rows-kept y)))

select-rows : (x : Select) → OfSelect x
select-rows = ind-Select OfArgument OfExpr OfItem OfJoin OfRows OfSource OfLink OfOperand OfCondition OfSelect OfSetOperand
    argument-step expr-step item-step join-step rows-step source-step
    (λ x y is. subst OfExpr (ap (λ (l : Link-F Argument Expr Item Join Rows Source Link Operand Condition Select SetOperand). l.right) is) y.right.1)
    (λ x y is. subst OfExpr (ap (λ (l : Operand-F Argument Expr Item Join Rows Source Link Operand Condition Select SetOperand). l.right) is) y.right.1)
    (λ x y is. subst OfExpr (ap (λ (c : Condition-F Argument Expr Item Join Rows Source Link Operand Condition Select SetOperand). c.test) is) y.test.1)
    (λ x y is. subst OfRows (ap (λ (s : Select-F Argument Expr Item Join Rows Source Link Operand Condition Select SetOperand). s.rows) is) y.rows.1)
    (λ x y is. subst OfRows (ap (λ (s : SetOperand-F Argument Expr Item Join Rows Source Link Operand Condition Select SetOperand). s.right) is) y.right.1)

pub every-select : (x : Select) → (select_places x).apart ≡ true → kept.OfSelect (select_binding x)
every-select x apart = of-select x (select-rows x) apart
