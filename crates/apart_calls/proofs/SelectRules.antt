-- The rules of selects: the calls of what each derives stand where its tokens begin.
use Rattle.std.proofs.Common.{ℕ, zero, suc, Bool, List, [], ◌∷◌, Option, Some, None, arith}
use Rattle.sql_grammar.specs.declared.tree.expr.Expr.{Expr}
use Rattle.sql_grammar.specs.declared.tree.select.Condition.{Condition}
use Rattle.sql_grammar.specs.declared.tree.select.Item.{Item}
use Rattle.sql_grammar.specs.declared.tree.select.Item.TheVariants as i
use Rattle.sql_grammar.specs.declared.tree.select.Join.{Join}
use Rattle.sql_grammar.specs.declared.tree.select.Join.TheVariants as j
use Rattle.sql_grammar.specs.declared.tree.select.Rows.{Rows}
use Rattle.sql_grammar.specs.declared.tree.select.Select.{Select}
use Rattle.sql_grammar.specs.declared.tree.select.SetKind.{SetKind}
use Rattle.sql_grammar.specs.declared.tree.select.SetOperand.{SetOperand}
use Rattle.sql_grammar.specs.declared.tree.select.Source.{Source}
use Rattle.sql_grammar.specs.declared.tree.select.Source.TheVariants as o
use Rattle.sql_grammar.specs.Classes.{sign_class, names, opens}
use Rattle.sql_grammar.specs.Combinators.{list, span_of}
use Rattle.sql_grammar.specs.Derives.{Inner, derives}
use Rattle.sql_grammar.specs.Expressions.{expr}
use Rattle.sql_grammar.specs.Form.{Form, Sort, a_select, an_argument, an_expr, a_neg, a_unary}
use Rattle.sql_grammar.specs.Nesting.{nested}
use Rattle.sql_grammar.specs.Selects as g
use Rattle.sql_lex.specs.declared.token.Word.{Word}
use Rattle.sql_lex.specs.declared.token.Word.TheVariants as w
use Rattle.sql_lex.specs.declared.token.Sign.TheVariants as s
use Rattle.apart_calls.proofs.ExpressionRules.{OfSort, argument-keeps, expr-keeps, neg-keeps, unary-keeps}
use Rattle.apart_calls.proofs.Fits.{Places, Room, Within, none, wider}
use Rattle.apart_calls.proofs.Keeping.{Any, Each, Keeps, Pair, Told, Turns, Widens, a-level, a-mark, a-phrase, a-token, anything, applied, behind, constant, each-of, ended, of-wider, one-or}
use Rattle.apart_calls.proofs.NodeLemmas.{OfCondition, OfExpr, OfIf, OfItem, OfJoin, OfRows, OfSelect, OfSet, OfSource, core-node, cross-join, of-condition, of-select, of-set, on-join, query-source, sets-node, source-item, star-item, table-source, value-item}
use Rattle.formed_binding.specs.Placed.{condition_places, expr_places, item_places, rows_places, select_places, source_places}

-- ---- lists, and what may be there

pair-told : {A B : Type 0} (S : Told A) (T : Told B) → Turns S (Turns T (Pair S T)) (λ a b. (a, b)) none
pair-told S T a i j of room b m k also more = (i, m, of, also, λ place. omega (arith, room place, more place))

list-told : {A : Type 0} (S : Told A) → Turns S (Turns (Each S) (Each S)) (λ a more. a ∷ more) none
list-told S a i j of room list m k also more = (i, m, of, also, λ place. omega (arith, room place, more place))

each-wider : {A : Type 0} (S : Told A) → Widens (Each S)
each-wider S [] n m in_m each = tt
each-wider S (a ∷ list) n m in_m each = (each.0, each.1, each.2, each.3, λ place. omega (arith, in_m place, each.4 place))

if-wider : Widens OfIf
if-wider None n m in_m of = tt
if-wider (Some condition) n m in_m of = wider (condition_places condition) n m in_m of

if-told : Turns OfCondition OfIf Some none
if-told condition i j of room = wider (condition_places condition) i j (λ place. omega (arith, room place)) of

module _ (n : Inner) where
  list-keeps : {A : Type 0} (S : Told A) → Widens S → (p : Form A) → Keeps (derives n p) S → Keeps (derives n (list p)) (Each S)
  list-keeps S widens p of = applied (Each S) (Each S) (applied S (Turns (Each S) (Each S)) (constant (Turns S (Turns (Each S) (Each S))) (λ a more. a ∷ more) (list-told S)) of) (each-of S (behind S widens of))

-- ---- what the rules make

-- the sources of FROM
abbrev OfSources : Told (Source × List Join)
OfSources = Pair OfSource (Each OfJoin)

-- the keys of GROUP BY and the condition of HAVING
abbrev OfGrouped : Told (List Expr × Option Condition)
OfGrouped = Pair (Each OfExpr) OfIf

-- with the condition of WHERE before them
abbrev OfConditions : Told (Option Condition × List Expr × Option Condition)
OfConditions c n = (i : Places) × (j : Places) × OfIf c.0 i × OfGrouped (c.1, c.2) j × Room i j n

abbrev OfTaken : Told ((Source × List Join) × (Option Condition × List Expr × Option Condition))
OfTaken = Pair OfSources OfConditions

abbrev OfCoreEnd : Told (List Item × ((Source × List Join) × (Option Condition × List Expr × Option Condition)))
OfCoreEnd = Pair (Each OfItem) OfTaken

conditions-told : Turns OfIf (Turns OfGrouped OfConditions) (λ filter grouped. (filter, grouped.0, grouped.1)) none
conditions-told filter i j of room grouped m k also more = (i, m, of, also, λ place. omega (arith, room place, more place))

core-told : Turns Any (Turns OfCoreEnd OfRows) g.core_of none
core-told head i j _ room end m k of also =
    let taken = of.3 in
    let sources = taken.2 in
    let conditions = taken.3 in
    let grouped = conditions.3 in
    core-node head.0 head.1 end.0 end.1.0.0 end.1.0.1 end.1.1.0 end.1.1.1 end.1.1.2 k (record {
      at_items = of.0;
      at_first = sources.0;
      at_joins = sources.1;
      at_filter = conditions.0;
      at_group = grouped.0;
      at_having = grouped.1;
      items_fit = of.2;
      first_fits = sources.2;
      joins_fit = sources.3;
      filter_fits = conditions.2;
      group_fits = grouped.2;
      having_fits = grouped.3;
      room = λ place. omega (arith, also place, of.4 place, taken.4 place, sources.4 place, conditions.4 place, grouped.4 place);
    })

sets-told : Turns OfRows (Turns (Each OfSet) OfRows) g.sets_of none
sets-told first i j of room [] m k more also = wider (rows_places first) i k (λ place. omega (arith, room place, also place)) of
sets-told first i j of room (operand ∷ others) m k more also = sets-node first (operand ∷ others) i m k of more (λ place. omega (arith, room place, also place))

-- rows behind where their first token stands
abbrev OfPlacedRows : Told (ℕ × Rows)
OfPlacedRows rows n = OfRows rows.1 n

set-told : Turns Any (Turns OfPlacedRows OfSet) g.operand_of none
set-told head i j _ room rows m k of also = of-set (g.operand_of head rows) k (wider (rows_places rows.1) m k (λ place. omega (arith, also place)) of)

select-told : Turns OfPlacedRows (Turns Any OfSelect) g.select_of none
select-told rows i j of room window m k _ also = of-select (g.select_of rows window) k (wider (rows_places rows.1) i k (λ place. omega (arith, room place, also place)) of)

-- ---- the rules

module _ (n : Inner) (inner : (s : Sort) → Keeps (n s) (OfSort s)) where
  value-item-told : Turns OfExpr (Turns Any OfItem) (λ value alias. i.Value value alias) none
  value-item-told value a b of room alias m k _ also = value-item value alias k (wider (expr_places value) a k (λ place. omega (arith, room place, also place)) of)

  value-item-keeps : Keeps (derives n g.value_item) OfItem
  unfolding g.value_item
  value-item-keeps = applied Any OfItem (applied OfExpr (Turns Any OfItem) (constant (Turns OfExpr (Turns Any OfItem)) (λ value alias. i.Value value alias) value-item-told) (expr-keeps n inner)) (anything _)

  item-keeps : Keeps (derives n g.item) OfItem
  unfolding g.item
  item-keeps = one-or OfItem
      (a-token (sign_class s.Star ∷ []) (λ x. i.Star x.start) OfItem (λ x m in_m. star-item x.start m))
      (a-phrase names (sign_class s.Dot) (sign_class s.Star) (λ x. i.SourceStar (span_of x)) OfItem (λ x m. source-item (span_of x) m) value-item-keeps)

  condition-keeps : Keeps (derives n g.condition) OfCondition
  unfolding g.condition
  condition-keeps = a-mark (λ x test. record { place = x.start; test = test }) OfExpr OfCondition (expr-keeps n inner) (λ x test m of. of-condition (record { place = x.start; test = test }) m of)

  query-told : (query : Select) (place : ℕ) (a b : Places) → OfSelect query a → Within a b → Turns Any OfSource (λ alias. o.Query place query alias) b
  query-told query place a b of in_b alias m k _ room = query-source place query alias k (wider (select_places query) a k (λ place. omega (arith, in_b place, room place)) of)

  subquery-keeps : Keeps (derives n g.subquery_source) OfSource
  unfolding g.subquery_source
  subquery-keeps = applied Any OfSource
      (a-level opens (λ x query alias. o.Query x.start query alias) OfSelect (Turns Any OfSource) (inner a_select) (λ x query a b of in_b. query-told query x.start a b of in_b))
      (anything _)

  source-keeps : Keeps (derives n g.source) OfSource
  unfolding g.source
  source-keeps = one-or OfSource subquery-keeps
      (applied Any OfSource (applied Any (Turns Any OfSource) (constant (Turns Any (Turns Any OfSource)) (λ name alias. o.Table name alias) (λ name a b _ room alias m k _ also. table-source name alias k)) (anything _)) (anything _))

  join-end-keeps : Keeps (derives n g.join_end) OfCondition
  join-end-keeps = behind OfCondition (of-wider condition_places) condition-keeps

  source-on-keeps : Keeps (derives n g.source_on) (Pair OfSource OfCondition)
  source-on-keeps = applied OfCondition (Pair OfSource OfCondition)
      (applied OfSource (Turns OfCondition (Pair OfSource OfCondition)) (constant (Turns OfSource (Turns OfCondition (Pair OfSource OfCondition))) (λ source on. (source, on)) (pair-told OfSource OfCondition)) source-keeps)
      join-end-keeps

  on-told : Turns Any (Turns (Pair OfSource OfCondition) OfJoin) (λ outer end. j.On outer end.0 end.1) none
  on-told outer a b _ room end m k of also = on-join outer end.0 end.1 of.0 of.1 k of.2 of.3 (λ place. omega (arith, also place, of.4 place))

  join-on-keeps : Keeps (derives n g.join_on) OfJoin
  unfolding g.join_on
  join-on-keeps = applied (Pair OfSource OfCondition) OfJoin
      (applied Any (Turns (Pair OfSource OfCondition) OfJoin) (constant (Turns Any (Turns (Pair OfSource OfCondition) OfJoin)) (λ outer end. j.On outer end.0 end.1) on-told) (anything _))
      source-on-keeps

  cross-told : Turns Any (Turns OfSource OfJoin) (λ (_ : ℕ) source. j.Cross source) none
  cross-told word a b _ room source m k of also = cross-join source k (wider (source_places source) m k (λ place. omega (arith, also place)) of)

  join-cross-keeps : Keeps (derives n g.join_cross) OfJoin
  unfolding g.join_cross
  join-cross-keeps = applied OfSource OfJoin (applied Any (Turns OfSource OfJoin) (constant (Turns Any (Turns OfSource OfJoin)) (λ _ source. j.Cross source) cross-told) (anything _)) source-keeps

  join-keeps : Keeps (derives n g.join) OfJoin
  unfolding g.join
  join-keeps = one-or OfJoin join-cross-keeps join-on-keeps

  sources-keeps : Keeps (derives n g.sources) OfSources
  unfolding g.sources
  sources-keeps = applied (Each OfJoin) OfSources
      (applied OfSource (Turns (Each OfJoin) OfSources) (constant (Turns OfSource (Turns (Each OfJoin) OfSources)) (λ first joins. (first, joins)) (pair-told OfSource (Each OfJoin))) source-keeps)
      (each-of OfJoin join-keeps)

  if-keeps : (x : Word) → Keeps (derives n (g.optional_condition x)) OfIf
  if-keeps x = one-or OfIf
      (applied OfCondition OfIf (constant (Turns OfCondition OfIf) Some if-told) (behind OfCondition (of-wider condition_places) condition-keeps))
      (constant OfIf None tt)

  grouping-keeps : Keeps (derives n g.grouping) (Each OfExpr)
  unfolding g.grouping
  grouping-keeps = one-or (Each OfExpr)
      (behind (Each OfExpr) (each-wider OfExpr) (behind (Each OfExpr) (each-wider OfExpr) (list-keeps n OfExpr (of-wider expr_places) expr (expr-keeps n inner))))
      (constant (Each OfExpr) [] tt)

  shown-keeps : Keeps (derives n g.shown) (Each OfItem)
  shown-keeps = ended (Each OfItem) (each-wider OfItem) (list-keeps n OfItem (of-wider item_places) g.item item-keeps)

  grouped-keeps : Keeps (derives n g.grouped) OfGrouped
  grouped-keeps = applied OfIf OfGrouped
      (applied (Each OfExpr) (Turns OfIf OfGrouped) (constant (Turns (Each OfExpr) (Turns OfIf OfGrouped)) (λ group having. (group, having)) (pair-told (Each OfExpr) OfIf)) grouping-keeps)
      (if-keeps w.Having)

  conditions-keeps : Keeps (derives n g.conditions) OfConditions
  conditions-keeps = applied OfGrouped OfConditions
      (applied OfIf (Turns OfGrouped OfConditions) (constant (Turns OfIf (Turns OfGrouped OfConditions)) (λ filter grouped. (filter, grouped.0, grouped.1)) conditions-told) (if-keeps w.Where))
      grouped-keeps

  taken-keeps : Keeps (derives n g.taken_rows) OfTaken
  taken-keeps = applied OfConditions OfTaken
      (applied OfSources (Turns OfConditions OfTaken) (constant (Turns OfSources (Turns OfConditions OfTaken)) (λ sources conditions. (sources, conditions)) (pair-told OfSources OfConditions)) sources-keeps)
      conditions-keeps

  core-end-keeps : Keeps (derives n g.core_end) OfCoreEnd
  core-end-keeps = applied OfTaken OfCoreEnd
      (applied (Each OfItem) (Turns OfTaken OfCoreEnd) (constant (Turns (Each OfItem) (Turns OfTaken OfCoreEnd)) (λ items taken. (items, taken)) (pair-told (Each OfItem) OfTaken)) shown-keeps)
      taken-keeps

  core-keeps : Keeps (derives n g.core) OfRows
  unfolding g.core
  core-keeps = applied OfCoreEnd OfRows (applied Any (Turns OfCoreEnd OfRows) (constant (Turns Any (Turns OfCoreEnd OfRows)) g.core_of core-told) (anything _)) core-end-keeps

  placed-keeps : (rows : Form Rows) → Keeps (derives n rows) OfRows → Keeps (derives n (g.placed rows)) OfPlacedRows
  placed-keeps rows of = a-mark (λ x a. (x.start, a)) OfRows OfPlacedRows of (λ x a m fits. fits)

  operand-keeps : (heads : Form (SetKind × Bool)) (rows : Form Rows) → Keeps (derives n rows) OfRows
      → Keeps (derives n (Form.both (λ f a. f a) (Form.both (λ f a. f a) (Form.empty g.operand_of) heads) (g.placed rows))) OfSet
  operand-keeps heads rows of = applied OfPlacedRows OfSet
      (applied Any (Turns OfPlacedRows OfSet) (constant (Turns Any (Turns OfPlacedRows OfSet)) g.operand_of set-told) (anything _))
      (placed-keeps rows of)

  sets-keeps : (first : Form Rows) (others : Form SetOperand) → Keeps (derives n first) OfRows → Keeps (derives n others) OfSet
      → Keeps (derives n (Form.both (λ f a. f a) (Form.both (λ f a. f a) (Form.empty g.sets_of) first) (Form.many others))) OfRows
  sets-keeps first others of also = applied (Each OfSet) OfRows (applied OfRows (Turns (Each OfSet) OfRows) (constant (Turns OfRows (Turns (Each OfSet) OfRows)) g.sets_of sets-told) of) (each-of OfSet also)

  intersect-keeps : Keeps (derives n g.intersect) OfSet
  unfolding g.intersect
  intersect-keeps = operand-keeps g.intersect_head g.core core-keeps

  intersected-keeps : Keeps (derives n g.operand) OfRows
  unfolding g.operand
  intersected-keeps = sets-keeps g.core g.intersect core-keeps intersect-keeps

  set-keeps : Keeps (derives n g.set_operand) OfSet
  unfolding g.set_operand
  set-keeps = operand-keeps g.set_head g.operand intersected-keeps

  rows-keeps : Keeps (derives n g.rows) OfRows
  unfolding g.rows
  rows-keeps = sets-keeps g.operand g.set_operand intersected-keeps set-keeps

  pub select-keeps : Keeps (derives n g.select) OfSelect
  unfolding g.select
  select-keeps = applied Any OfSelect
      (applied OfPlacedRows (Turns Any OfSelect) (constant (Turns OfPlacedRows (Turns Any OfSelect)) g.select_of select-told) (placed-keeps g.rows rows-keeps))
      (anything _)

-- ---- what nests, level by level

nothing-nests : (s : Sort) → Keeps (nested zero s) (OfSort s)
nothing-nests s value tokens never = absurd never

pub nested-keeps : (depth : ℕ) (s : Sort) → Keeps (nested depth s) (OfSort s)
nested-keeps zero s = nothing-nests s
nested-keeps (suc depth) an_expr = expr-keeps (nested depth) (nested-keeps depth)
nested-keeps (suc depth) a_neg = neg-keeps (nested depth) (nested-keeps depth)
nested-keeps (suc depth) a_unary = unary-keeps (nested depth) (nested-keeps depth)
nested-keeps (suc depth) an_argument = argument-keeps (nested depth) (nested-keeps depth)
nested-keeps (suc depth) a_select = select-keeps (nested depth) (nested-keeps depth)
