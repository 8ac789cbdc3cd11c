use Rattle.std.proofs.Common.{ℕ, ◌+◌, ◌*◌, ◌≤◌, length}
use Rattle.sql_grammar.specs.Nesting.{readers}
use Rattle.sql_grammar.specs.Expressions as form
use Rattle.sql_grammar.specs.Selects as rows
use Rattle.flat_rules.proofs.Lists.{ManySoFar, ListSoFar}
use Rattle.sql_parse.proofs.+rule.Given as goal

-- how many functions may be entered before a level is opened
abbrev ranks : ℕ
ranks = 50

abbrev pub decreases-expr::nested_expr : goal.decreases-expr::nested_expr
decreases-expr::nested_expr l = ranks * l.depth + 0

abbrev pub decreases-expr::nested_neg : goal.decreases-expr::nested_neg
decreases-expr::nested_neg l = ranks * l.depth + 0

abbrev pub decreases-expr::nested_unary : goal.decreases-expr::nested_unary
decreases-expr::nested_unary l = ranks * l.depth + 0

abbrev pub decreases-expr::nested_argument : goal.decreases-expr::nested_argument
decreases-expr::nested_argument l = ranks * l.depth + 0

abbrev pub decreases-expr::group : goal.decreases-expr::group
decreases-expr::group l = ranks * l.depth + 1

abbrev pub decreases-expr::name_end : goal.decreases-expr::name_end
decreases-expr::name_end l = ranks * l.depth + 1

abbrev pub decreases-expr::in_test : goal.decreases-expr::in_test
decreases-expr::in_test l = ranks * l.depth + 1

abbrev pub decreases-expr::named : goal.decreases-expr::named
decreases-expr::named l = ranks * l.depth + 2

abbrev pub decreases-expr::dated : goal.decreases-expr::dated
decreases-expr::dated l = ranks * l.depth + 2

abbrev pub decreases-expr::atom : goal.decreases-expr::atom
decreases-expr::atom l = ranks * l.depth + 3

abbrev pub decreases-expr::unary : goal.decreases-expr::unary
decreases-expr::unary l = ranks * l.depth + 4

abbrev pub decreases-expr::term_link : goal.decreases-expr::term_link
decreases-expr::term_link l = ranks * l.depth + 5

abbrev pub decreases-expr::term_links : goal.decreases-expr::term_links
decreases-expr::term_links l = ranks * l.depth + 6

abbrev pub decreases-expr::term : goal.decreases-expr::term
decreases-expr::term l = ranks * l.depth + 7

abbrev pub decreases-expr::sum_link : goal.decreases-expr::sum_link
decreases-expr::sum_link l = ranks * l.depth + 8

abbrev pub decreases-expr::sum_links : goal.decreases-expr::sum_links
decreases-expr::sum_links l = ranks * l.depth + 9

abbrev pub decreases-expr::sum : goal.decreases-expr::sum
decreases-expr::sum l = ranks * l.depth + 10

abbrev pub decreases-expr::comparison : goal.decreases-expr::comparison
decreases-expr::comparison l = ranks * l.depth + 11

abbrev pub decreases-expr::upper : goal.decreases-expr::upper
decreases-expr::upper l = ranks * l.depth + 11

abbrev pub decreases-expr::bounds : goal.decreases-expr::bounds
decreases-expr::bounds l = ranks * l.depth + 12

abbrev pub decreases-expr::between : goal.decreases-expr::between
decreases-expr::between l = ranks * l.depth + 13

abbrev pub decreases-expr::range_test : goal.decreases-expr::range_test
decreases-expr::range_test l = ranks * l.depth + 14

abbrev pub decreases-expr::after_sum : goal.decreases-expr::after_sum
decreases-expr::after_sum l = ranks * l.depth + 15

abbrev pub decreases-expr::pred : goal.decreases-expr::pred
decreases-expr::pred l = ranks * l.depth + 16

abbrev pub decreases-expr::neg : goal.decreases-expr::neg
decreases-expr::neg l = ranks * l.depth + 17

abbrev pub decreases-expr::and_operand : goal.decreases-expr::and_operand
decreases-expr::and_operand l = ranks * l.depth + 18

abbrev pub decreases-expr::and_operands : goal.decreases-expr::and_operands
decreases-expr::and_operands l = ranks * l.depth + 19

abbrev pub decreases-expr::conj : goal.decreases-expr::conj
decreases-expr::conj l = ranks * l.depth + 20

abbrev pub decreases-expr::or_operand : goal.decreases-expr::or_operand
decreases-expr::or_operand l = ranks * l.depth + 21

abbrev pub decreases-expr::or_operands : goal.decreases-expr::or_operands
decreases-expr::or_operands l = ranks * l.depth + 22

abbrev pub decreases-expr::expr : goal.decreases-expr::expr
decreases-expr::expr l = ranks * l.depth + 23

abbrev pub decreases-expr::argument : goal.decreases-expr::argument
decreases-expr::argument l = ranks * l.depth + 24

abbrev pub decreases-select::nested_select : goal.decreases-select::nested_select
decreases-select::nested_select l = ranks * l.depth + 0

abbrev pub decreases-select::subquery_source : goal.decreases-select::subquery_source
decreases-select::subquery_source l = ranks * l.depth + 1

abbrev pub decreases-select::source : goal.decreases-select::source
decreases-select::source l = ranks * l.depth + 2

abbrev pub decreases-select::value_item : goal.decreases-select::value_item
decreases-select::value_item l = ranks * l.depth + 25

abbrev pub decreases-select::item : goal.decreases-select::item
decreases-select::item l = ranks * l.depth + 26

abbrev pub decreases-select::items : goal.decreases-select::items
decreases-select::items l = ranks * l.depth + 27

abbrev pub decreases-select::shown : goal.decreases-select::shown
decreases-select::shown l = ranks * l.depth + 28

abbrev pub decreases-select::condition : goal.decreases-select::condition
decreases-select::condition l = ranks * l.depth + 25

abbrev pub decreases-select::optional_condition : goal.decreases-select::optional_condition
decreases-select::optional_condition l = ranks * l.depth + 26

abbrev pub decreases-select::exprs : goal.decreases-select::exprs
decreases-select::exprs l = ranks * l.depth + 25

abbrev pub decreases-select::grouping : goal.decreases-select::grouping
decreases-select::grouping l = ranks * l.depth + 26

abbrev pub decreases-select::grouped : goal.decreases-select::grouped
decreases-select::grouped l = ranks * l.depth + 27

abbrev pub decreases-select::conditions : goal.decreases-select::conditions
decreases-select::conditions l = ranks * l.depth + 28

abbrev pub decreases-select::join_end : goal.decreases-select::join_end
decreases-select::join_end l = ranks * l.depth + 26

abbrev pub decreases-select::source_on : goal.decreases-select::source_on
decreases-select::source_on l = ranks * l.depth + 27

abbrev pub decreases-select::join_on : goal.decreases-select::join_on
decreases-select::join_on l = ranks * l.depth + 28

abbrev pub decreases-select::join_cross : goal.decreases-select::join_cross
decreases-select::join_cross l = ranks * l.depth + 28

abbrev pub decreases-select::join : goal.decreases-select::join
decreases-select::join l = ranks * l.depth + 29

abbrev pub decreases-select::joins : goal.decreases-select::joins
decreases-select::joins l = ranks * l.depth + 30

abbrev pub decreases-select::sources : goal.decreases-select::sources
decreases-select::sources l = ranks * l.depth + 31

abbrev pub decreases-select::taken_rows : goal.decreases-select::taken_rows
decreases-select::taken_rows l = ranks * l.depth + 32

abbrev pub decreases-select::core_end : goal.decreases-select::core_end
decreases-select::core_end l = ranks * l.depth + 33

abbrev pub decreases-select::core : goal.decreases-select::core
decreases-select::core l = ranks * l.depth + 34

abbrev pub decreases-select::intersect : goal.decreases-select::intersect
decreases-select::intersect l = ranks * l.depth + 35

abbrev pub decreases-select::intersects : goal.decreases-select::intersects
decreases-select::intersects l = ranks * l.depth + 36

abbrev pub decreases-select::operand : goal.decreases-select::operand
decreases-select::operand l = ranks * l.depth + 37

abbrev pub decreases-select::set_operand : goal.decreases-select::set_operand
decreases-select::set_operand l = ranks * l.depth + 38

abbrev pub decreases-select::set_operands : goal.decreases-select::set_operands
decreases-select::set_operands l = ranks * l.depth + 39

abbrev pub decreases-select::all_rows : goal.decreases-select::all_rows
decreases-select::all_rows l = ranks * l.depth + 40

abbrev pub decreases-select::select : goal.decreases-select::select
decreases-select::select l = ranks * l.depth + 41

abbrev pub invariant-expr::term_links-turns : goal.invariant-expr::term_links-turns
invariant-expr::term_links-turns l = record {
  shrinks : length l.cursor ≤ length l.fn.cursor;
  so_far : ManySoFar (readers l.depth) form.term_link l.fn.cursor l.found l.cursor;
}

abbrev pub decreases-expr::term_links-turns : goal.decreases-expr::term_links-turns
decreases-expr::term_links-turns l = length l.cursor

abbrev pub invariant-expr::sum_links-turns : goal.invariant-expr::sum_links-turns
invariant-expr::sum_links-turns l = record {
  shrinks : length l.cursor ≤ length l.fn.cursor;
  so_far : ManySoFar (readers l.depth) form.sum_link l.fn.cursor l.found l.cursor;
}

abbrev pub decreases-expr::sum_links-turns : goal.decreases-expr::sum_links-turns
decreases-expr::sum_links-turns l = length l.cursor

abbrev pub invariant-expr::and_operands-turns : goal.invariant-expr::and_operands-turns
invariant-expr::and_operands-turns l = record {
  shrinks : length l.cursor ≤ length l.fn.cursor;
  so_far : ManySoFar (readers l.depth) form.and_operand l.fn.cursor l.found l.cursor;
}

abbrev pub decreases-expr::and_operands-turns : goal.decreases-expr::and_operands-turns
decreases-expr::and_operands-turns l = length l.cursor

abbrev pub invariant-expr::or_operands-turns : goal.invariant-expr::or_operands-turns
invariant-expr::or_operands-turns l = record {
  shrinks : length l.cursor ≤ length l.fn.cursor;
  so_far : ManySoFar (readers l.depth) form.or_operand l.fn.cursor l.found l.cursor;
}

abbrev pub decreases-expr::or_operands-turns : goal.decreases-expr::or_operands-turns
decreases-expr::or_operands-turns l = length l.cursor

abbrev pub invariant-select::joins-turns : goal.invariant-select::joins-turns
invariant-select::joins-turns l = record {
  shrinks : length l.cursor ≤ length l.fn.cursor;
  so_far : ManySoFar (readers l.depth) rows.join l.fn.cursor l.found l.cursor;
}

abbrev pub decreases-select::joins-turns : goal.decreases-select::joins-turns
decreases-select::joins-turns l = length l.cursor

abbrev pub invariant-select::intersects-turns : goal.invariant-select::intersects-turns
invariant-select::intersects-turns l = record {
  shrinks : length l.cursor ≤ length l.fn.cursor;
  so_far : ManySoFar (readers l.depth) rows.intersect l.fn.cursor l.found l.cursor;
}

abbrev pub decreases-select::intersects-turns : goal.decreases-select::intersects-turns
decreases-select::intersects-turns l = length l.cursor

abbrev pub invariant-select::set_operands-turns : goal.invariant-select::set_operands-turns
invariant-select::set_operands-turns l = record {
  shrinks : length l.cursor ≤ length l.fn.cursor;
  so_far : ManySoFar (readers l.depth) rows.set_operand l.fn.cursor l.found l.cursor;
}

abbrev pub decreases-select::set_operands-turns : goal.decreases-select::set_operands-turns
decreases-select::set_operands-turns l = length l.cursor

abbrev pub invariant-select::items-turns : goal.invariant-select::items-turns
invariant-select::items-turns l = record {
  shrinks : length l.cursor ≤ length l.fn.cursor;
  so_far : ListSoFar (readers l.depth) rows.item l.fn.cursor l.found l.cursor;
}

abbrev pub decreases-select::items-turns : goal.decreases-select::items-turns
decreases-select::items-turns l = length l.cursor

abbrev pub invariant-select::exprs-turns : goal.invariant-select::exprs-turns
invariant-select::exprs-turns l = record {
  shrinks : length l.cursor ≤ length l.fn.cursor;
  so_far : ListSoFar (readers l.depth) form.expr l.fn.cursor l.found l.cursor;
}

abbrev pub decreases-select::exprs-turns : goal.decreases-select::exprs-turns
decreases-select::exprs-turns l = length l.cursor
