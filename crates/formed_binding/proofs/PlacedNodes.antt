-- Where the calls of a node stand, by where those of its children do.
use Rattle.std.proofs.Common.{◌≡◌, ap, ◌∙◌}
use Rattle.sql_grammar.specs.declared.tree.expr.Argument.{Argument}
use Rattle.sql_grammar.specs.declared.tree.expr.Expr.{Expr}
use Rattle.sql_grammar.specs.declared.tree.expr.Link.{Link}
use Rattle.sql_grammar.specs.declared.tree.expr.Operand.{Operand}
use Rattle.sql_grammar.specs.declared.tree.select.Condition.{Condition}
use Rattle.sql_grammar.specs.declared.tree.select.Item.{Item}
use Rattle.sql_grammar.specs.declared.tree.select.Join.{Join}
use Rattle.sql_grammar.specs.declared.tree.select.Rows.{Rows}
use Rattle.sql_grammar.specs.declared.tree.select.Select.{Select}
use Rattle.sql_grammar.specs.declared.tree.select.SetOperand.{SetOperand}
use Rattle.sql_grammar.specs.declared.tree.select.Source.{Source}
use Rattle.sql_grammar.specs.declared.tree.expr.Argument.TheOpen.{Argument-F, Expr-F, Item-F, Join-F, Rows-F, Source-F}
use Rattle.sql_grammar.specs.declared.tree.expr.Argument.TheViews.{out-Argument, out-Expr, out-Item, out-Join, out-Rows, out-Source}
use Rattle.sql_grammar.specs.declared.tree.expr.Argument.TheFolds.{map-Argument, map-Expr, map-Item, map-Join, map-Rows, map-Source, fold_out-Argument, fold_out-Expr, fold_out-Item, fold_out-Join, fold_out-Rows, fold_out-Source, fold_out-Link, fold_out-Operand, fold_out-Condition, fold_out-Select, fold_out-SetOperand}
use Rattle.formed_binding.specs.Placed.{Placed, argument_step, expr_step, item_step, join_step, rows_step, source_step, link_step, operand_step, condition_step, select_step, set_step, argument_places, expr_places, item_places, join_places, rows_places, source_places, link_places, operand_places, condition_places, select_places, set_places}

abbrev pub argument_below : Argument-F Argument Expr Item Join Rows Source Link Operand Condition Select SetOperand → Argument-F Placed Placed Placed Placed Placed Placed Placed Placed Placed Placed Placed
argument_below x = map-Argument Argument Expr Item Join Rows Source Link Operand Condition Select SetOperand Placed Placed Placed Placed Placed Placed Placed Placed Placed Placed Placed argument_places expr_places item_places join_places rows_places source_places link_places operand_places condition_places select_places set_places x

pub argument_placed : (e : Argument) (x : Argument-F Argument Expr Item Join Rows Source Link Operand Condition Select SetOperand) → out-Argument e ≡ x → argument_places e ≡ argument_step (argument_below x)
unfolding argument_places expr_places item_places join_places rows_places source_places link_places operand_places condition_places select_places set_places
argument_placed e x is = fold_out-Argument Placed Placed Placed Placed Placed Placed Placed Placed Placed Placed Placed argument_step expr_step item_step join_step rows_step source_step link_step operand_step condition_step select_step set_step e ∙ ap (λ y. argument_step (argument_below y)) is

abbrev pub expr_below : Expr-F Argument Expr Item Join Rows Source Link Operand Condition Select SetOperand → Expr-F Placed Placed Placed Placed Placed Placed Placed Placed Placed Placed Placed
expr_below x = map-Expr Argument Expr Item Join Rows Source Link Operand Condition Select SetOperand Placed Placed Placed Placed Placed Placed Placed Placed Placed Placed Placed argument_places expr_places item_places join_places rows_places source_places link_places operand_places condition_places select_places set_places x

pub expr_placed : (e : Expr) (x : Expr-F Argument Expr Item Join Rows Source Link Operand Condition Select SetOperand) → out-Expr e ≡ x → expr_places e ≡ expr_step (expr_below x)
unfolding argument_places expr_places item_places join_places rows_places source_places link_places operand_places condition_places select_places set_places
expr_placed e x is = fold_out-Expr Placed Placed Placed Placed Placed Placed Placed Placed Placed Placed Placed argument_step expr_step item_step join_step rows_step source_step link_step operand_step condition_step select_step set_step e ∙ ap (λ y. expr_step (expr_below y)) is

abbrev pub item_below : Item-F Argument Expr Item Join Rows Source Link Operand Condition Select SetOperand → Item-F Placed Placed Placed Placed Placed Placed Placed Placed Placed Placed Placed
item_below x = map-Item Argument Expr Item Join Rows Source Link Operand Condition Select SetOperand Placed Placed Placed Placed Placed Placed Placed Placed Placed Placed Placed argument_places expr_places item_places join_places rows_places source_places link_places operand_places condition_places select_places set_places x

pub item_placed : (e : Item) (x : Item-F Argument Expr Item Join Rows Source Link Operand Condition Select SetOperand) → out-Item e ≡ x → item_places e ≡ item_step (item_below x)
unfolding argument_places expr_places item_places join_places rows_places source_places link_places operand_places condition_places select_places set_places
item_placed e x is = fold_out-Item Placed Placed Placed Placed Placed Placed Placed Placed Placed Placed Placed argument_step expr_step item_step join_step rows_step source_step link_step operand_step condition_step select_step set_step e ∙ ap (λ y. item_step (item_below y)) is

abbrev pub join_below : Join-F Argument Expr Item Join Rows Source Link Operand Condition Select SetOperand → Join-F Placed Placed Placed Placed Placed Placed Placed Placed Placed Placed Placed
join_below x = map-Join Argument Expr Item Join Rows Source Link Operand Condition Select SetOperand Placed Placed Placed Placed Placed Placed Placed Placed Placed Placed Placed argument_places expr_places item_places join_places rows_places source_places link_places operand_places condition_places select_places set_places x

pub join_placed : (e : Join) (x : Join-F Argument Expr Item Join Rows Source Link Operand Condition Select SetOperand) → out-Join e ≡ x → join_places e ≡ join_step (join_below x)
unfolding argument_places expr_places item_places join_places rows_places source_places link_places operand_places condition_places select_places set_places
join_placed e x is = fold_out-Join Placed Placed Placed Placed Placed Placed Placed Placed Placed Placed Placed argument_step expr_step item_step join_step rows_step source_step link_step operand_step condition_step select_step set_step e ∙ ap (λ y. join_step (join_below y)) is

abbrev pub rows_below : Rows-F Argument Expr Item Join Rows Source Link Operand Condition Select SetOperand → Rows-F Placed Placed Placed Placed Placed Placed Placed Placed Placed Placed Placed
rows_below x = map-Rows Argument Expr Item Join Rows Source Link Operand Condition Select SetOperand Placed Placed Placed Placed Placed Placed Placed Placed Placed Placed Placed argument_places expr_places item_places join_places rows_places source_places link_places operand_places condition_places select_places set_places x

pub rows_placed : (e : Rows) (x : Rows-F Argument Expr Item Join Rows Source Link Operand Condition Select SetOperand) → out-Rows e ≡ x → rows_places e ≡ rows_step (rows_below x)
unfolding argument_places expr_places item_places join_places rows_places source_places link_places operand_places condition_places select_places set_places
rows_placed e x is = fold_out-Rows Placed Placed Placed Placed Placed Placed Placed Placed Placed Placed Placed argument_step expr_step item_step join_step rows_step source_step link_step operand_step condition_step select_step set_step e ∙ ap (λ y. rows_step (rows_below y)) is

abbrev pub source_below : Source-F Argument Expr Item Join Rows Source Link Operand Condition Select SetOperand → Source-F Placed Placed Placed Placed Placed Placed Placed Placed Placed Placed Placed
source_below x = map-Source Argument Expr Item Join Rows Source Link Operand Condition Select SetOperand Placed Placed Placed Placed Placed Placed Placed Placed Placed Placed Placed argument_places expr_places item_places join_places rows_places source_places link_places operand_places condition_places select_places set_places x

pub source_placed : (e : Source) (x : Source-F Argument Expr Item Join Rows Source Link Operand Condition Select SetOperand) → out-Source e ≡ x → source_places e ≡ source_step (source_below x)
unfolding argument_places expr_places item_places join_places rows_places source_places link_places operand_places condition_places select_places set_places
source_placed e x is = fold_out-Source Placed Placed Placed Placed Placed Placed Placed Placed Placed Placed Placed argument_step expr_step item_step join_step rows_step source_step link_step operand_step condition_step select_step set_step e ∙ ap (λ y. source_step (source_below y)) is

pub link_placed : (e : Link) → link_places e ≡ expr_places e.right
unfolding argument_places expr_places item_places join_places rows_places source_places link_places operand_places condition_places select_places set_places
link_placed e = fold_out-Link Placed Placed Placed Placed Placed Placed Placed Placed Placed Placed Placed argument_step expr_step item_step join_step rows_step source_step link_step operand_step condition_step select_step set_step e

pub operand_placed : (e : Operand) → operand_places e ≡ expr_places e.right
unfolding argument_places expr_places item_places join_places rows_places source_places link_places operand_places condition_places select_places set_places
operand_placed e = fold_out-Operand Placed Placed Placed Placed Placed Placed Placed Placed Placed Placed Placed argument_step expr_step item_step join_step rows_step source_step link_step operand_step condition_step select_step set_step e

pub condition_placed : (e : Condition) → condition_places e ≡ expr_places e.test
unfolding argument_places expr_places item_places join_places rows_places source_places link_places operand_places condition_places select_places set_places
condition_placed e = fold_out-Condition Placed Placed Placed Placed Placed Placed Placed Placed Placed Placed Placed argument_step expr_step item_step join_step rows_step source_step link_step operand_step condition_step select_step set_step e

pub select_placed : (e : Select) → select_places e ≡ rows_places e.rows
unfolding argument_places expr_places item_places join_places rows_places source_places link_places operand_places condition_places select_places set_places
select_placed e = fold_out-Select Placed Placed Placed Placed Placed Placed Placed Placed Placed Placed Placed argument_step expr_step item_step join_step rows_step source_step link_step operand_step condition_step select_step set_step e

pub set_placed : (e : SetOperand) → set_places e ≡ rows_places e.right
unfolding argument_places expr_places item_places join_places rows_places source_places link_places operand_places condition_places select_places set_places
set_placed e = fold_out-SetOperand Placed Placed Placed Placed Placed Placed Placed Placed Placed Placed Placed argument_step expr_step item_step join_step rows_step source_step link_step operand_step condition_step select_step set_step e
