-- Where the aggregates of a statement's cores stand, as they are written.
use Rattle.std.specs.Prelude.{ℕ, ◌+◌, ◌==◌, Bool, true, false, ◌&&◌, ◌||◌, not, ◌≡◌, List, [], ◌∷◌, ◌++◌, Option, Some, None, ⊤}
use Rattle.sql_grammar.specs.declared.tree.expr.Argument.{Argument}
use Rattle.sql_grammar.specs.declared.tree.expr.Expr.{Expr}
use Rattle.sql_grammar.specs.declared.tree.expr.Link.{Link}
use Rattle.sql_grammar.specs.declared.tree.expr.Operand.{Operand}
use Rattle.sql_grammar.specs.declared.tree.select.Condition.{Condition}
use Rattle.sql_grammar.specs.declared.tree.select.Item.{Item}
use Rattle.sql_grammar.specs.declared.tree.select.Join.{Join}
use Rattle.sql_grammar.specs.declared.tree.select.Rows.{Rows}
use Rattle.sql_grammar.specs.declared.tree.select.Select.{Select}
use Rattle.sql_grammar.specs.declared.tree.select.SetOperand.{SetOperand}
use Rattle.sql_grammar.specs.declared.tree.select.Source.{Source}
use Rattle.sql_grammar.specs.declared.tree.statement.Statement.{Statement}
use Rattle.sql_grammar.specs.declared.tree.statement.Statement.TheVariants as statement
use Rattle.sql_grammar.specs.declared.tree.expr.Argument.TheOpen.{Argument-F, Expr-F, Item-F, Join-F, Rows-F, Source-F, Link-F, Operand-F, Condition-F, Select-F, SetOperand-F}
use Rattle.sql_grammar.specs.declared.tree.expr.Argument.TheFolds.{fold-Argument, fold-Expr, fold-Item, fold-Join, fold-Rows, fold-Source, fold-Link, fold-Operand, fold-Condition, fold-Select, fold-SetOperand}
use Rattle.formed_binding.specs.Parts.{one_if}

-- The first tokens of a part's calls, without those of its subqueries; and whether in each core of its subqueries the
-- calls stand at different places.
pub record Placed : Type 0 where
  pub calls : List ℕ
  pub apart : Bool

-- how many of them are this place
abbrev pub count : List ℕ → ℕ → ℕ
count [] place = 0
count (at ∷ places) place = one_if (at == place) + count places place

abbrev pub is_among : ℕ → List ℕ → Bool
is_among place [] = false
is_among place (at ∷ places) = (at == place) || is_among place places

abbrev pub are_different : List ℕ → Bool
are_different [] = true
are_different (at ∷ places) = not (is_among at places) && are_different places

-- ---- parts

abbrev pub nowhere : Placed
nowhere = record { calls = []; apart = true }

abbrev pub both : Placed → Placed → Placed
both a b = record { calls = a.calls ++ b.calls; apart = a.apart && b.apart }

abbrev pub all_of : List Placed → Placed
all_of [] = nowhere
all_of (first ∷ more) = both first (all_of more)

abbrev pub if_there : Option Placed → Placed
if_there None = nowhere
if_there (Some part) = part

-- its calls do not count further up: those of a subquery are of its own cores, and in ON and in an argument none may stand
abbrev pub inside : Placed → Placed
inside part = record { calls = []; apart = part.apart }

-- ---- nodes, once their children are looked at

abbrev pub ExprPlaces : Type 0
ExprPlaces = Expr-F Placed Placed Placed Placed Placed Placed Placed Placed Placed Placed Placed

abbrev pub ArgumentPlaces : Type 0
ArgumentPlaces = Argument-F Placed Placed Placed Placed Placed Placed Placed Placed Placed Placed Placed

abbrev pub ItemPlaces : Type 0
ItemPlaces = Item-F Placed Placed Placed Placed Placed Placed Placed Placed Placed Placed Placed

abbrev pub JoinPlaces : Type 0
JoinPlaces = Join-F Placed Placed Placed Placed Placed Placed Placed Placed Placed Placed Placed

abbrev pub RowsPlaces : Type 0
RowsPlaces = Rows-F Placed Placed Placed Placed Placed Placed Placed Placed Placed Placed Placed

abbrev pub SourcePlaces : Type 0
SourcePlaces = Source-F Placed Placed Placed Placed Placed Placed Placed Placed Placed Placed Placed

abbrev pub LinkPlaces : Type 0
LinkPlaces = Link-F Placed Placed Placed Placed Placed Placed Placed Placed Placed Placed Placed

abbrev pub OperandPlaces : Type 0
OperandPlaces = Operand-F Placed Placed Placed Placed Placed Placed Placed Placed Placed Placed Placed

abbrev pub ConditionPlaces : Type 0
ConditionPlaces = Condition-F Placed Placed Placed Placed Placed Placed Placed Placed Placed Placed Placed

abbrev pub SelectPlaces : Type 0
SelectPlaces = Select-F Placed Placed Placed Placed Placed Placed Placed Placed Placed Placed Placed

abbrev pub SetPlaces : Type 0
SetPlaces = SetOperand-F Placed Placed Placed Placed Placed Placed Placed Placed Placed Placed Placed

abbrev pub argument_step : ArgumentPlaces → Placed
argument_step Argument-F.Argument::Star = nowhere
argument_step (Argument-F.Argument::Value value) = inside value
argument_step (Argument-F.Distinct value) = inside value

abbrev pub expr_step : ExprPlaces → Placed
expr_step (Expr-F.Literal written) = nowhere
expr_step (Expr-F.Column written) = nowhere
expr_step (Expr-F.Call name argument) = record { calls = name.start ∷ []; apart = argument.apart }
expr_step (Expr-F.Minus place operand) = operand
expr_step (Expr-F.Not place operand) = operand
expr_step (Expr-F.Chain first links) = both first (all_of links)
expr_step (Expr-F.Every first others) = both first (all_of others)
expr_step (Expr-F.Either first others) = both first (all_of others)
expr_step (Expr-F.Compare place sign left right) = both left right
expr_step (Expr-F.IsNull place negated operand) = operand
expr_step (Expr-F.Like place negated operand pattern) = operand
expr_step (Expr-F.OneOf place negated operand list) = operand
expr_step (Expr-F.Member place negated operand query) = both operand (inside query)
expr_step (Expr-F.Between place negated operand low high) = both operand (both low high)

abbrev pub item_step : ItemPlaces → Placed
item_step (Item-F.Item::Star place) = nowhere
item_step (Item-F.SourceStar source) = nowhere
item_step (Item-F.Item::Value value alias) = value

abbrev pub join_step : JoinPlaces → Placed
join_step (Join-F.Cross source) = inside source
join_step (Join-F.On outer source on) = inside (both source on)

abbrev pub source_step : SourcePlaces → Placed
source_step (Source-F.Table name alias) = nowhere
source_step (Source-F.Query place query alias) = inside query

abbrev pub link_step : LinkPlaces → Placed
link_step x = x.right

abbrev pub operand_step : OperandPlaces → Placed
operand_step x = x.right

abbrev pub condition_step : ConditionPlaces → Placed
condition_step x = x.test

abbrev pub select_step : SelectPlaces → Placed
select_step x = x.rows

abbrev pub set_step : SetPlaces → Placed
set_step x = x.right

-- the calls of a core are those of its items and of its HAVING
abbrev pub core_apart : Placed → Placed → Bool
core_apart own others = are_different own.calls && (own.apart && others.apart)

abbrev pub rows_step : RowsPlaces → Placed
rows_step (Rows-F.Core place distinct items first joins filter group having) = record {
  calls = [];
  apart = core_apart (both (all_of items) (if_there having)) (both (both first (all_of joins)) (both (if_there filter) (all_of group)));
}
rows_step (Rows-F.Sets first others) = inside (both first (all_of others))

-- ---- the tree, from its leaves on

unfoldable pub expr_places : Expr → Placed
expr_places = fold-Expr Placed Placed Placed Placed Placed Placed Placed Placed Placed Placed Placed
    argument_step expr_step item_step join_step rows_step source_step link_step operand_step condition_step select_step set_step

unfoldable pub argument_places : Argument → Placed
argument_places = fold-Argument Placed Placed Placed Placed Placed Placed Placed Placed Placed Placed Placed
    argument_step expr_step item_step join_step rows_step source_step link_step operand_step condition_step select_step set_step

unfoldable pub link_places : Link → Placed
link_places = fold-Link Placed Placed Placed Placed Placed Placed Placed Placed Placed Placed Placed
    argument_step expr_step item_step join_step rows_step source_step link_step operand_step condition_step select_step set_step

unfoldable pub operand_places : Operand → Placed
operand_places = fold-Operand Placed Placed Placed Placed Placed Placed Placed Placed Placed Placed Placed
    argument_step expr_step item_step join_step rows_step source_step link_step operand_step condition_step select_step set_step

unfoldable pub item_places : Item → Placed
item_places = fold-Item Placed Placed Placed Placed Placed Placed Placed Placed Placed Placed Placed
    argument_step expr_step item_step join_step rows_step source_step link_step operand_step condition_step select_step set_step

unfoldable pub join_places : Join → Placed
join_places = fold-Join Placed Placed Placed Placed Placed Placed Placed Placed Placed Placed Placed
    argument_step expr_step item_step join_step rows_step source_step link_step operand_step condition_step select_step set_step

unfoldable pub rows_places : Rows → Placed
rows_places = fold-Rows Placed Placed Placed Placed Placed Placed Placed Placed Placed Placed Placed
    argument_step expr_step item_step join_step rows_step source_step link_step operand_step condition_step select_step set_step

unfoldable pub source_places : Source → Placed
source_places = fold-Source Placed Placed Placed Placed Placed Placed Placed Placed Placed Placed Placed
    argument_step expr_step item_step join_step rows_step source_step link_step operand_step condition_step select_step set_step

unfoldable pub condition_places : Condition → Placed
condition_places = fold-Condition Placed Placed Placed Placed Placed Placed Placed Placed Placed Placed Placed
    argument_step expr_step item_step join_step rows_step source_step link_step operand_step condition_step select_step set_step

unfoldable pub select_places : Select → Placed
select_places = fold-Select Placed Placed Placed Placed Placed Placed Placed Placed Placed Placed Placed
    argument_step expr_step item_step join_step rows_step source_step link_step operand_step condition_step select_step set_step

unfoldable pub set_places : SetOperand → Placed
set_places = fold-SetOperand Placed Placed Placed Placed Placed Placed Placed Placed Placed Placed Placed
    argument_step expr_step item_step join_step rows_step source_step link_step operand_step condition_step select_step set_step

-- In each core of the statement, and of its subqueries, no two calls of aggregates begin at one token.
abbrev pub StandApart : Statement → Type 0
StandApart (statement.CreateTable name columns) = ⊤
StandApart (statement.DropTable name) = ⊤
StandApart (statement.Copy name file options) = ⊤
StandApart (statement.Explain select) = (select_places select).apart ≡ true
StandApart (statement.Select select) = (select_places select).apart ≡ true
