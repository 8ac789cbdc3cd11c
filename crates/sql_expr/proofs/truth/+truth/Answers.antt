use Rattle.std.proofs.Common.{◌+◌, ◌≤◌, ap, sym, ◌∙◌, rules, subst, List, map, drop, inl, inr}
use Rattle.std.specs.Prelude.{Ok}
use Rattle.ooc_types.specs.declared.truth.Truth.{Truth as Ternary}
use Rattle.sql_expr.specs.declared.tree.Expr.{Expr, size-Expr}
use denote.Param.Weighed.{most, at_most}
use Rattle.sql_expr.specs.declared.tree.CompareSign.TheVariants.{Equal}
use Rattle.sql_expr.specs.Logic.{truth_value}
use Rattle.sql_expr.specs.Operands.{operand_value}
use Rattle.sql_expr.specs.Meaning.{value_of, every_from, either_from, comparison}
use Rattle.sql_expr.proofs.Steps.{drop_is, every_next, either_next, either_fails, every_stops, either_stops, conditions_next, comparables_now, comparables_next}
use Rattle.sql_expr.specs.declared.tree.Expr.TheViews.{the_lemmas, out-Expr, outs-Constant, outs-Column, outs-Not, outs-Minus, outs-Chain, outs-Every, outs-Either, outs-Compare, outs-IsNull, outs-Like, outs-OneOf, outs-Between}
use Rattle.sql_expr.proofs.Amounts.{column_within}
use Rattle.sql_expr.proofs.Truths.{constant_truth, column_truth, not_operand, every_operands, either_operands, compare_operands, null_operand, like_operand, one_of_operands, between_operands, minus_is_amount, chain_is_amount}
use Rattle.sql_expr.proofs.truth.+truth.Goals as goal

pub truth_of-bounds-row-place : goal.truth_of-bounds-row-place
truth_of-bounds-row-place t c =
    column_within c.args.row.now c.args.expr.now c.in-Column.place c.in-Column.kind c.requires.fits
    (ap out-Expr c.in-Column.is ∙ outs-Column c.in-Column.place c.in-Column.kind)

pub truth_of-truth_of-requires : goal.truth_of-truth_of-requires
truth_of-truth_of-requires t c =
    let h = not_operand c.args.row.now c.args.expr.now c.in-Not.of c.get.result.now c.requires.fits (ap out-Expr c.in-Not.is ∙ outs-Not c.in-Not.of) c.get.ensures in
    (search (rules, the_lemmas), (h.0, h.1))

pub truth_of-every-requires : goal.truth_of-every-requires
truth_of-every-requires t c = (
  search (rules, the_lemmas),
  every_operands c.args.row.now c.args.expr.now c.in-Every.list c.as_slice.result.now c.requires.fits (ap out-Expr c.in-Every.is ∙ outs-Every c.in-Every.list) c.as_slice.ensures,
)

pub truth_of-either-requires : goal.truth_of-either-requires
truth_of-either-requires t c = (
  search (rules, the_lemmas),
  either_operands c.args.row.now c.args.expr.now c.in-Either.list c.as_slice-in-Either.result.now c.requires.fits
      (ap out-Expr c.in-Either.is ∙ outs-Either c.in-Either.list) c.as_slice-in-Either.ensures,
)

pub truth_of-compare-requires : goal.truth_of-compare-requires
truth_of-compare-requires t c =
    let h = compare_operands c.args.row.now c.args.expr.now c.in-Compare.left c.in-Compare.right c.get-in-Compare.result.now c.get-in-Compare-2.result.now c.in-Compare.sign
    c.requires.fits (ap out-Expr c.in-Compare.is ∙ outs-Compare c.in-Compare.sign c.in-Compare.left c.in-Compare.right) c.get-in-Compare.ensures c.get-in-Compare-2.ensures in
    (search (rules, the_lemmas), (h.left_fits, (h.right_fits, h.comparable)))

pub truth_of-null_test-requires : goal.truth_of-null_test-requires
truth_of-null_test-requires t c = (
  search (rules, the_lemmas),
  null_operand c.args.row.now c.args.expr.now c.in-IsNull.of c.get-in-IsNull.result.now c.in-IsNull.negated c.requires.fits
      (ap out-Expr c.in-IsNull.is ∙ outs-IsNull c.in-IsNull.of c.in-IsNull.negated) c.get-in-IsNull.ensures,
)

pub truth_of-text_of-requires-clause-fits : goal.truth_of-text_of-requires-clause-fits
truth_of-text_of-requires-clause-fits t c =
    (like_operand c.args.row.now c.args.expr.now c.in-Like.of c.get-in-Like.result.now c.in-Like.pattern c.in-Like.negated c.requires.fits
    (ap out-Expr c.in-Like.is ∙ outs-Like c.in-Like.of c.in-Like.pattern c.in-Like.negated) c.get-in-Like.ensures).0

pub truth_of-text_of-requires-clause-text : goal.truth_of-text_of-requires-clause-text
truth_of-text_of-requires-clause-text t c =
    (like_operand c.args.row.now c.args.expr.now c.in-Like.of c.get-in-Like.result.now c.in-Like.pattern c.in-Like.negated c.requires.fits
    (ap out-Expr c.in-Like.is ∙ outs-Like c.in-Like.of c.in-Like.pattern c.in-Like.negated) c.get-in-Like.ensures).1

pub truth_of-one_of-requires : goal.truth_of-one_of-requires
truth_of-one_of-requires t c =
    let h = one_of_operands c.args.row.now c.args.expr.now c.in-OneOf.of c.get-in-OneOf.result.now c.in-OneOf.list c.as_slice-in-OneOf.result.now c.in-OneOf.negated
    c.requires.fits (ap out-Expr c.in-OneOf.is ∙ outs-OneOf c.in-OneOf.of c.in-OneOf.list c.in-OneOf.negated) c.get-in-OneOf.ensures c.as_slice-in-OneOf.ensures in
    (search (rules, the_lemmas), (h.0, h.1))

pub truth_of-between-requires : goal.truth_of-between-requires
truth_of-between-requires t c =
    let h = between_operands c.args.row.now c.args.expr.now c.in-Between.of c.in-Between.low c.in-Between.high
    c.get-in-Between.result.now c.get-in-Between-2.result.now c.get-in-Between-3.result.now c.in-Between.negated c.requires.fits
    (ap out-Expr c.in-Between.is ∙ outs-Between c.in-Between.of c.in-Between.low c.in-Between.high c.in-Between.negated)
    c.get-in-Between.ensures c.get-in-Between-2.ensures c.get-in-Between-3.ensures in
    (search (rules, the_lemmas), (h.fits, (h.low_fits, (h.low_comparable, (h.high_fits, h.high_comparable)))))

pub truth_of-returns-in-Constant : goal.truth_of-returns-in-Constant
truth_of-returns-in-Constant t c =
    constant_truth c.args.row.now c.args.expr.now c.in-Constant.value c.in-Constant.kind c.truth_in.result c.requires.fits c.requires.condition
    (ap out-Expr c.in-Constant.is ∙ outs-Constant c.in-Constant.value c.in-Constant.kind) c.truth_in.ensures

pub truth_of-returns-in-Column : goal.truth_of-returns-in-Column
truth_of-returns-in-Column t c =
    column_truth c.args.row.now c.args.expr.now c.in-Column.place c.in-Column.kind c.index-row-place.result c.truth_in-in-Column.result
    c.requires.fits c.requires.condition (ap out-Expr c.in-Column.is ∙ outs-Column c.in-Column.place c.in-Column.kind)
    c.index-row-place.is c.truth_in-in-Column.ensures

pub every-returns-in-No : goal.every-returns-in-No
every-returns-in-No t c =
    let is = drop_is c.args.list.now c.loop-operand.operand-index c.operand-item.result c.loop-operand-test.true c.operand-item.is in
    let rest = map (value_of c.args.row.now) (drop (c.loop-operand.operand-index + 1) c.args.list.now) in
    sym c.loop-operand.invariant.value
    ∙ ap (λ (es : List Expr). every_from (Ok (truth_value c.loop-operand.all)) (map (value_of c.args.row.now) es)) is
    ∙ every_next c.loop-operand.all c.in-Ok.truth c.both-all.result (value_of c.args.row.now c.operand-item.result) rest
    c.loop-operand.invariant.going c.in-Ok.ensures c.both-all.ensures
    ∙ every_stops c.both-all.result rest c.in-No.is

pub every-loop-operand-preserved : goal.every-loop-operand-preserved
every-loop-operand-preserved t c =
    let is = drop_is c.args.list.now c.loop-operand.operand-index c.operand-item.result c.loop-operand-test.true c.operand-item.is in
    let rest = map (value_of c.args.row.now) (drop (c.loop-operand.operand-index + 1) c.args.list.now) in
    record {
      ready = conditions_next c.args.row.now c.args.list.now c.loop-operand.operand-index c.operand-item.result is c.loop-operand.invariant.ready;
      value = sym (ap (λ (es : List Expr). every_from (Ok (truth_value c.loop-operand.all)) (map (value_of c.args.row.now) es)) is
          ∙ every_next c.loop-operand.all c.in-Ok.truth c.both-all.result (value_of c.args.row.now c.operand-item.result) rest
          c.loop-operand.invariant.going c.in-Ok.ensures c.both-all.ensures) ∙ c.loop-operand.invariant.value;
      going = c.in_default.not-No;
    }

pub either-returns-in-Yes : goal.either-returns-in-Yes
either-returns-in-Yes t c =
    let is = drop_is c.args.list.now c.loop-operand.operand-index c.operand-item.result c.loop-operand-test.true c.operand-item.is in
    let rest = map (value_of c.args.row.now) (drop (c.loop-operand.operand-index + 1) c.args.list.now) in
    sym c.loop-operand.invariant.value
    ∙ ap (λ (es : List Expr). either_from (Ok (truth_value c.loop-operand.any)) (map (value_of c.args.row.now) es)) is
    ∙ either_next c.loop-operand.any c.in-Ok.truth c.one-any.result (value_of c.args.row.now c.operand-item.result) rest
    c.loop-operand.invariant.going c.in-Ok.ensures c.one-any.ensures
    ∙ either_stops c.one-any.result rest c.in-Yes.is

pub either-loop-operand-preserved : goal.either-loop-operand-preserved
either-loop-operand-preserved t c =
    let is = drop_is c.args.list.now c.loop-operand.operand-index c.operand-item.result c.loop-operand-test.true c.operand-item.is in
    let rest = map (value_of c.args.row.now) (drop (c.loop-operand.operand-index + 1) c.args.list.now) in
    record {
      ready = conditions_next c.args.row.now c.args.list.now c.loop-operand.operand-index c.operand-item.result is c.loop-operand.invariant.ready;
      value = sym (ap (λ (es : List Expr). either_from (Ok (truth_value c.loop-operand.any)) (map (value_of c.args.row.now) es)) is
          ∙ either_next c.loop-operand.any c.in-Ok.truth c.one-any.result (value_of c.args.row.now c.operand-item.result) rest
          c.loop-operand.invariant.going c.in-Ok.ensures c.one-any.ensures) ∙ c.loop-operand.invariant.value;
      going = c.in_default.not-Yes;
    }

pub among-compare_operand-requires : goal.among-compare_operand-requires
among-compare_operand-requires t c =
    let is = drop_is c.args.list.now c.loop-constant.constant-index c.constant-item.result c.loop-constant-test.true c.constant-item.is in
    let h = comparables_now c.args.row.now c.args.kind c.args.list.now c.loop-constant.constant-index c.constant-item.result is c.loop-constant.invariant.ready in
    let read = at_most size-Expr c.args.list.now c.loop-constant.constant-index c.constant-item.result c.loop-constant-test.true in
    let bound : size-Expr c.constant-item.result ≤ most size-Expr c.args.list.now =
    subst (λ (e : Expr). size-Expr e ≤ most size-Expr c.args.list.now) (sym c.constant-item.is) read in
    (search (rules, the_lemmas, bound), (c.requires.kind, (h.0, h.1)))

pub among-returns-in-Err : goal.among-returns-in-Err
among-returns-in-Err t c =
    let is = drop_is c.args.list.now c.loop-constant.constant-index c.constant-item.result c.loop-constant-test.true c.constant-item.is in
    let equal = comparison Equal (Ok (operand_value c.args.of.now)) in
    let rest = map equal (map (value_of c.args.row.now) (drop (c.loop-constant.constant-index + 1) c.args.list.now)) in
    sym c.loop-constant.invariant.value
    ∙ ap (λ (es : List Expr). either_from (Ok (truth_value c.loop-constant.found)) (map equal (map (value_of c.args.row.now) es))) is
    ∙ either_fails c.loop-constant.found c.in-Err.fault (equal (value_of c.args.row.now c.constant-item.result)) rest
    c.loop-constant.invariant.going c.in-Err.ensures

pub among-returns-in-Yes : goal.among-returns-in-Yes
among-returns-in-Yes t c =
    let is = drop_is c.args.list.now c.loop-constant.constant-index c.constant-item.result c.loop-constant-test.true c.constant-item.is in
    let equal = comparison Equal (Ok (operand_value c.args.of.now)) in
    let rest = map equal (map (value_of c.args.row.now) (drop (c.loop-constant.constant-index + 1) c.args.list.now)) in
    sym c.loop-constant.invariant.value
    ∙ ap (λ (es : List Expr). either_from (Ok (truth_value c.loop-constant.found)) (map equal (map (value_of c.args.row.now) es))) is
    ∙ either_next c.loop-constant.found c.in-Ok.truth c.one-found.result (equal (value_of c.args.row.now c.constant-item.result)) rest
    c.loop-constant.invariant.going c.in-Ok.ensures c.one-found.ensures
    ∙ either_stops c.one-found.result rest c.in-Yes.is
    ∙ ap (λ (t : Ternary). Ok (truth_value t)) (sym c.in-Yes.is)

pub among-loop-constant-preserved : goal.among-loop-constant-preserved
among-loop-constant-preserved t c =
    let is = drop_is c.args.list.now c.loop-constant.constant-index c.constant-item.result c.loop-constant-test.true c.constant-item.is in
    let equal = comparison Equal (Ok (operand_value c.args.of.now)) in
    let rest = map equal (map (value_of c.args.row.now) (drop (c.loop-constant.constant-index + 1) c.args.list.now)) in
    record {
      ready = comparables_next c.args.row.now c.args.kind c.args.list.now c.loop-constant.constant-index c.constant-item.result is c.loop-constant.invariant.ready;
      value = sym (ap (λ (es : List Expr). either_from (Ok (truth_value c.loop-constant.found)) (map equal (map (value_of c.args.row.now) es))) is
          ∙ either_next c.loop-constant.found c.in-Ok.truth c.one-found.result (equal (value_of c.args.row.now c.constant-item.result)) rest
          c.loop-constant.invariant.going c.in-Ok.ensures c.one-found.ensures) ∙ c.loop-constant.invariant.value;
      going = c.in_default.not-Yes;
    }

pub truth_of-returns-in-Minus : goal.truth_of-returns-in-Minus
truth_of-returns-in-Minus t c =
    absurd (elim c.in-Minus.is [
      | inl h ↦ minus_is_amount c.args.row.now c.args.expr.now h.0 h.1 c.requires.fits c.requires.condition (ap out-Expr h.2 ∙ outs-Minus h.0 h.1)
      | inr h ↦ chain_is_amount c.args.row.now c.args.expr.now h.0 h.1 c.requires.fits c.requires.condition (ap out-Expr h.2 ∙ outs-Chain h.0 h.1)
    ])

pub truth_of-returns-in-Minus-2 : goal.truth_of-returns-in-Minus-2
truth_of-returns-in-Minus-2 t c =
    absurd (elim c.in-Minus.is [
      | inl h ↦ minus_is_amount c.args.row.now c.args.expr.now h.0 h.1 c.requires.fits c.requires.condition (ap out-Expr h.2 ∙ outs-Minus h.0 h.1)
      | inr h ↦ chain_is_amount c.args.row.now c.args.expr.now h.0 h.1 c.requires.fits c.requires.condition (ap out-Expr h.2 ∙ outs-Chain h.0 h.1)
    ])
