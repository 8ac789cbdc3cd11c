use Rattle.std.proofs.Common.{refl, ap, sym, subst, ◌∙◌, [], arith}
use Rattle.std.specs.Prelude.{Ok}
use Rattle.sql_grammar.specs.declared.tree.select.Select.{Select}
use Rattle.sql_grammar.specs.declared.tree.expr.Argument.TheOpen.{Expr-F, Item-F, Join-F, Source-F}
use Rattle.sql_grammar.specs.declared.tree.expr.Argument.TheViews.{out-Argument, out-Expr, out-Item, out-Join, out-Rows, out-Source, outs-Argument::Star, outs-Argument::Value, outs-Distinct, outs-Between, outs-Call, outs-Chain, outs-Column, outs-Compare, outs-Either, outs-Every, outs-IsNull, outs-Like, outs-Literal, outs-Member, outs-Minus, outs-Not, outs-OneOf, outs-Item::Star, outs-Item::Value, outs-SourceStar, outs-Cross, outs-On, outs-Core, outs-Sets, outs-Table, outs-Query}
use Rattle.sql_scope.specs.Answer.{Gives, GoesOn, each}
use Rattle.sql_scope.specs.Parts as parts
use Rattle.sql_scope.specs.Scopes.{front, over_columns, over_keys}
use Rattle.sql_scope.specs.Trees.{constants_from}
use Rattle.sql_scope.proofs.Each.{begins, goes_further, ends, step_on}
use Rattle.sql_clauses.specs.Membership.{member, misplaced}
use Rattle.bind_rules.specs.Bound.{expr_binding, link_binding, operand_binding, link_behind, operand_behind, filter_behind, source_behind, on_behind, key_behind, item_behind, set_behind, conjuncts, selected, no_outputs}
use Rattle.bind_rules.specs.Expressions as expressions
use Rattle.bind_rules.proofs.Arms.{expr_gives, operand_gives, item_goes, source_goes, join_goes, on_goes, plain_arm, filter_arm}
use Rattle.bind_rules.proofs.ClauseArms.{subquery_both, query_arm, on_arm, where_arm, having_arm, select_arm}
use Rattle.bind_rules.proofs.Loops.{far_begins, far_further, far_ends}
use Rattle.bind_rules.proofs.Steps.{part_at, link_on, operand_on, filter_on, key_on, set_on}
use Rattle.sql_bind.proofs.ExprArms.{one_arm, two_arm, three_arm, list_arm, listed_arm, every_filter, star_arm, value_arm, distinct_arm}
use Rattle.sql_bind.proofs.ItemArms.{value_item_arm, joined_arm}
use Rattle.sql_bind.proofs.RowsAt.{core_at, sets_at}
use Rattle.sql_bind.proofs.Sizes.{items_below, joins_below, keys_below}
use Rattle.sql_bind.proofs.walk.+walk.Goals as goal

pub bind_links-loop-link-init : goal.bind_links-loop-link-init
bind_links-loop-link-init t c =
    far_begins (link_behind c.args.scope.now) c.args.links.now c.args.first

pub bind_links-loop-link-preserved : goal.bind_links-loop-link-preserved
bind_links-loop-link-preserved t c =
    far_further (link_behind c.args.scope.now) c.args.links.now c.args.first c.loop-link.chain c.linked-chain.result c.loop-link.link-index c.link-item.result
    c.loop-link-test.true c.link-item.is c.loop-link.invariant
    (link_on c.args.scope.now c.link-item.result c.get.result.now c.loop-link.chain c.linked-chain.result c.bind_expr-right.result c.get.ensures c.bind_expr-right.ensures c.linked-chain.ensures)

pub bind_links-returns : goal.bind_links-returns
bind_links-returns t c =
    far_ends (link_behind c.args.scope.now) c.args.links.now c.args.first c.loop-link.chain c.loop-link.link-index c.loop-link-test.false c.loop-link.invariant

pub bind_operands-loop-other-init : goal.bind_operands-loop-other-init
bind_operands-loop-other-init t c =
    far_begins (operand_behind c.args.scope.now) c.args.others.now c.args.first

pub bind_operands-loop-other-preserved : goal.bind_operands-loop-other-preserved
bind_operands-loop-other-preserved t c =
    far_further (operand_behind c.args.scope.now) c.args.others.now c.args.first c.loop-other.all c.joined-all.result c.loop-other.other-index c.other-item.result
    c.loop-other-test.true c.other-item.is c.loop-other.invariant
    (operand_on c.args.scope.now c.other-item.result c.get.result.now c.loop-other.all c.joined-all.result c.bind_expr-right.result c.get.ensures c.bind_expr-right.ensures c.joined-all.ensures)

pub bind_operands-returns : goal.bind_operands-returns
bind_operands-returns t c =
    far_ends (operand_behind c.args.scope.now) c.args.others.now c.args.first c.loop-other.all c.loop-other.other-index c.loop-other-test.false c.loop-other.invariant

pub bind_conjuncts-loop-other-init : goal.bind_conjuncts-loop-other-init
bind_conjuncts-loop-other-init t c =
    far_begins (filter_behind c.args.scope.now) c.args.others.now c.args.first

pub bind_conjuncts-loop-other-preserved : goal.bind_conjuncts-loop-other-preserved
bind_conjuncts-loop-other-preserved t c =
    far_further (filter_behind c.args.scope.now) c.args.others.now c.args.first c.loop-other.filter c.joined-filter.result c.loop-other.other-index c.other-item.result
    c.loop-other-test.true c.other-item.is c.loop-other.invariant
    (filter_on c.args.scope.now c.other-item.result c.get.result.now c.loop-other.filter c.joined-filter.result c.bind_conjunct-right.result c.get.ensures c.bind_conjunct-right.ensures c.joined-filter.ensures)

pub bind_conjuncts-returns : goal.bind_conjuncts-returns
bind_conjuncts-returns t c =
    far_ends (filter_behind c.args.scope.now) c.args.others.now c.args.first c.loop-other.filter c.loop-other.other-index c.loop-other-test.false c.loop-other.invariant

pub bind_joins-loop-join-init : goal.bind_joins-loop-join-init
bind_joins-loop-join-init t c =
    far_begins (source_behind c.args.scope.now) c.args.joins.now c.args.first

pub bind_joins-loop-join-preserved : goal.bind_joins-loop-join-preserved
bind_joins-loop-join-preserved t c =
    far_further (source_behind c.args.scope.now) c.args.joins.now c.args.first c.loop-join.sources c.bind_join-sources.result c.loop-join.join-index c.join-item.result
    c.loop-join-test.true c.join-item.is c.loop-join.invariant
    c.bind_join-sources.ensures

pub bind_joins-returns : goal.bind_joins-returns
bind_joins-returns t c =
    far_ends (source_behind c.args.scope.now) c.args.joins.now c.args.first c.loop-join.sources c.loop-join.join-index c.loop-join-test.false c.loop-join.invariant

pub bind_ons-loop-join-init : goal.bind_ons-loop-join-init
bind_ons-loop-join-init t c =
    far_begins (on_behind c.args.scope.now) c.args.joins.now c.args.first

pub bind_ons-loop-join-preserved : goal.bind_ons-loop-join-preserved
bind_ons-loop-join-preserved t c =
    far_further (on_behind c.args.scope.now) c.args.joins.now c.args.first c.loop-join.all c.bind_on-all.result c.loop-join.join-index c.join-item.result
    c.loop-join-test.true c.join-item.is c.loop-join.invariant
    c.bind_on-all.ensures

pub bind_ons-returns : goal.bind_ons-returns
bind_ons-returns t c =
    far_ends (on_behind c.args.scope.now) c.args.joins.now c.args.first c.loop-join.all c.loop-join.join-index c.loop-join-test.false c.loop-join.invariant

pub bind_sets-loop-other-init : goal.bind_sets-loop-other-init
bind_sets-loop-other-init t c =
    far_begins (set_behind c.args.scope.now) c.args.others.now c.args.first

pub bind_sets-loop-other-preserved : goal.bind_sets-loop-other-preserved
bind_sets-loop-other-preserved t c =
    far_further (set_behind c.args.scope.now) c.args.others.now c.args.first c.loop-other.left c.combined-left.result c.loop-other.other-index c.other-item.result
    c.loop-other-test.true c.other-item.is c.loop-other.invariant
    (set_on c.args.scope.now c.other-item.result c.get.result.now c.loop-other.left c.combined-left.result c.bind_rows-rows.result c.operand-right.result c.get.ensures c.bind_rows-rows.ensures c.operand-right.ensures c.combined-left.ensures)

pub bind_sets-returns : goal.bind_sets-returns
bind_sets-returns t c =
    far_ends (set_behind c.args.scope.now) c.args.others.now c.args.first c.loop-other.left c.loop-other.other-index c.loop-other-test.false c.loop-other.invariant

pub bind_keys-loop-key-init : goal.bind_keys-loop-key-init
bind_keys-loop-key-init t c =
    begins (key_behind c.args.scope.now) (Ok []) (Ok c.new.result) c.args.group.now (ap Ok (sym c.new.ensures))

pub bind_keys-loop-key-preserved : goal.bind_keys-loop-key-preserved
bind_keys-loop-key-preserved t c =
    goes_further (key_behind c.args.scope.now) (each (key_behind c.args.scope.now) (Ok []) c.args.group.now) c.loop-key.keys c.with_key-keys.result c.args.group.now c.loop-key.key-index c.key-item.result
    c.loop-key-test.true c.key-item.is c.loop-key.invariant
    (step_on (key_behind c.args.scope.now) c.key-item.result c.loop-key.keys c.with_key-keys.result (key_on c.args.scope.now c.key-item.result c.get.result.now c.loop-key.keys c.with_key-keys.result c.bind_expr-part.result c.get.ensures c.bind_expr-part.ensures c.with_key-keys.ensures))

pub bind_keys-returns : goal.bind_keys-returns
bind_keys-returns t c =
    ends (key_behind c.args.scope.now) (each (key_behind c.args.scope.now) (Ok []) c.args.group.now) c.loop-key.keys c.args.group.now c.loop-key.key-index c.loop-key-test.false c.loop-key.invariant

pub bind_items-loop-item-init : goal.bind_items-loop-item-init
bind_items-loop-item-init t c =
    begins (item_behind c.args.scope.now c.args.grouped) (Ok no_outputs) (Ok c.no_outputs.result) c.args.items.now (ap Ok (sym c.no_outputs.ensures))

pub bind_items-loop-item-preserved : goal.bind_items-loop-item-preserved
bind_items-loop-item-preserved t c =
    goes_further (item_behind c.args.scope.now c.args.grouped) (each (item_behind c.args.scope.now c.args.grouped) (Ok no_outputs) c.args.items.now) c.loop-item.outputs c.bind_item-outputs.result c.args.items.now c.loop-item.item-index c.item-item.result
    c.loop-item-test.true c.item-item.is c.loop-item.invariant
    (step_on (item_behind c.args.scope.now c.args.grouped) c.item-item.result c.loop-item.outputs c.bind_item-outputs.result c.bind_item-outputs.ensures)

pub bind_items-returns : goal.bind_items-returns
bind_items-returns t c =
    ends (item_behind c.args.scope.now c.args.grouped) (each (item_behind c.args.scope.now c.args.grouped) (Ok no_outputs) c.args.items.now) c.loop-item.outputs c.args.items.now c.loop-item.item-index c.loop-item-test.false c.loop-item.invariant

pub bind_argument-returns-in-Star : goal.bind_argument-returns-in-Star
bind_argument-returns-in-Star t c =
    star_arm c.args.scope.now c.args.name c.args.argument.now c.in_ok-function.function c.star_call.result (ap out-Argument c.in-Star.is ∙ outs-Argument::Star) c.in_ok-function.ensures.function c.star_call.ensures

pub bind_argument-returns-in-Value : goal.bind_argument-returns-in-Value
bind_argument-returns-in-Value t c =
    value_arm c.args.scope.now c.argument_scope-inner.result c.args.name c.args.argument.now c.in-Value.value c.get.result.now c.in_ok-function.function c.bind_expr-part.result c.value_call.result
    (ap out-Argument c.in-Value.is ∙ outs-Argument::Value c.in-Value.value) c.in_ok-function.ensures.function c.argument_scope-inner.ensures c.get.ensures c.bind_expr-part.ensures c.value_call.ensures

pub bind_argument-returns-in-Distinct : goal.bind_argument-returns-in-Distinct
bind_argument-returns-in-Distinct t c =
    distinct_arm c.args.scope.now c.argument_scope-inner-in-Distinct.result c.args.name c.args.argument.now c.in-Distinct.value c.get-in-Distinct.result.now c.in_ok-function.function c.bind_expr-part-in-Distinct.result c.distinct_call.result
    (ap out-Argument c.in-Distinct.is ∙ outs-Distinct c.in-Distinct.value) c.in_ok-function.ensures.function c.argument_scope-inner-in-Distinct.ensures c.get-in-Distinct.ensures c.bind_expr-part-in-Distinct.ensures c.distinct_call.ensures

pub bind_expr-returns-in-Literal : goal.bind_expr-returns-in-Literal
bind_expr-returns-in-Literal t c =
    expr_gives c.args.scope.now c.args.expr.now (Expr-F.Literal c.in-Literal.written) c.literal.result (ap out-Expr c.in-Literal.is ∙ outs-Literal c.in-Literal.written) c.literal.ensures

pub bind_expr-returns-in-Column : goal.bind_expr-returns-in-Column
bind_expr-returns-in-Column t c =
    expr_gives c.args.scope.now c.args.expr.now (Expr-F.Column c.in-Column.written) c.column.result (ap out-Expr c.in-Column.is ∙ outs-Column c.in-Column.written) c.column.ensures

pub bind_expr-returns-in-Call : goal.bind_expr-returns-in-Call
bind_expr-returns-in-Call t c =
    expr_gives c.args.scope.now c.args.expr.now (Expr-F.Call c.in-Call.name c.in-Call.argument) c.bind_argument.result (ap out-Expr c.in-Call.is ∙ outs-Call c.in-Call.name c.in-Call.argument) c.bind_argument.ensures

pub bind_expr-returns-in-Minus : goal.bind_expr-returns-in-Minus
bind_expr-returns-in-Minus t c =
    one_arm c.args.scope.now c.args.expr.now (Expr-F.Minus c.in-Minus.place c.in-Minus.operand) c.in-Minus.operand c.get.result.now (parts.minus c.args.scope.now c.in-Minus.place) c.bind_expr-of.result c.minus.result
    (ap out-Expr c.in-Minus.is ∙ outs-Minus c.in-Minus.place c.in-Minus.operand) refl c.get.ensures c.bind_expr-of.ensures c.minus.ensures

pub bind_expr-returns-in-Not : goal.bind_expr-returns-in-Not
bind_expr-returns-in-Not t c =
    one_arm c.args.scope.now c.args.expr.now (Expr-F.Not c.in-Not.place c.in-Not.operand) c.in-Not.operand c.get-in-Not.result.now (parts.negation c.args.scope.now c.in-Not.place) c.bind_expr-of-in-Not.result c.negation.result
    (ap out-Expr c.in-Not.is ∙ outs-Not c.in-Not.place c.in-Not.operand) refl c.get-in-Not.ensures c.bind_expr-of-in-Not.ensures c.negation.ensures

pub bind_expr-returns-in-IsNull : goal.bind_expr-returns-in-IsNull
bind_expr-returns-in-IsNull t c =
    one_arm c.args.scope.now c.args.expr.now (Expr-F.IsNull c.in-IsNull.place c.in-IsNull.negated c.in-IsNull.operand) c.in-IsNull.operand c.get-in-IsNull.result.now (parts.null_test c.args.scope.now c.in-IsNull.negated) c.bind_expr-of-in-IsNull.result c.null_test.result
    (ap out-Expr c.in-IsNull.is ∙ outs-IsNull c.in-IsNull.place c.in-IsNull.negated c.in-IsNull.operand) refl c.get-in-IsNull.ensures c.bind_expr-of-in-IsNull.ensures c.null_test.ensures

pub bind_expr-returns-in-Like : goal.bind_expr-returns-in-Like
bind_expr-returns-in-Like t c =
    one_arm c.args.scope.now c.args.expr.now (Expr-F.Like c.in-Like.place c.in-Like.negated c.in-Like.operand c.in-Like.pattern) c.in-Like.operand c.get-in-Like.result.now (parts.like c.args.scope.now c.in-Like.place c.in-Like.negated c.in-Like.pattern) c.bind_expr-of-in-Like.result c.like.result
    (ap out-Expr c.in-Like.is ∙ outs-Like c.in-Like.place c.in-Like.negated c.in-Like.operand c.in-Like.pattern) refl c.get-in-Like.ensures c.bind_expr-of-in-Like.ensures c.like.ensures

pub bind_expr-returns-in-Chain : goal.bind_expr-returns-in-Chain
bind_expr-returns-in-Chain t c =
    list_arm c.args.scope.now c.args.expr.now (Expr-F.Chain c.in-Chain.first c.in-Chain.links) c.in-Chain.first c.get-in-Chain.result.now link_binding (expressions.linked c.args.scope.now) expressions.begin_chain (parts.ended c.args.scope.now) c.in-Chain.links c.as_slice.result.now c.bind_expr-head.result c.begun.result c.bind_links-chain.result c.ended.result
    (ap out-Expr c.in-Chain.is ∙ outs-Chain c.in-Chain.first c.in-Chain.links) refl c.get-in-Chain.ensures c.as_slice.ensures c.bind_expr-head.ensures c.begun.ensures c.bind_links-chain.ensures c.ended.ensures

pub bind_expr-returns-in-Every : goal.bind_expr-returns-in-Every
bind_expr-returns-in-Every t c =
    list_arm c.args.scope.now c.args.expr.now (Expr-F.Every c.in-Every.first c.in-Every.others) c.in-Every.first c.get-in-Every.result.now operand_binding (expressions.conditioned c.args.scope.now) expressions.begin_conditions (parts.every c.args.scope.now) c.in-Every.others c.as_slice-in-Every.result.now c.bind_expr-head-in-Every.result c.started.result c.bind_operands-all.result c.every.result
    (ap out-Expr c.in-Every.is ∙ outs-Every c.in-Every.first c.in-Every.others) refl c.get-in-Every.ensures c.as_slice-in-Every.ensures c.bind_expr-head-in-Every.ensures c.started.ensures c.bind_operands-all.ensures c.every.ensures

pub bind_expr-returns-in-Either : goal.bind_expr-returns-in-Either
bind_expr-returns-in-Either t c =
    list_arm c.args.scope.now c.args.expr.now (Expr-F.Either c.in-Either.first c.in-Either.others) c.in-Either.first c.get-in-Either.result.now operand_binding (expressions.conditioned c.args.scope.now) expressions.begin_conditions (parts.either c.args.scope.now) c.in-Either.others c.as_slice-in-Either.result.now c.bind_expr-head-in-Either.result c.started-in-Either.result c.bind_operands-all-in-Either.result c.either.result
    (ap out-Expr c.in-Either.is ∙ outs-Either c.in-Either.first c.in-Either.others) refl c.get-in-Either.ensures c.as_slice-in-Either.ensures c.bind_expr-head-in-Either.ensures c.started-in-Either.ensures c.bind_operands-all-in-Either.ensures c.either.ensures

pub bind_expr-returns-in-Compare : goal.bind_expr-returns-in-Compare
bind_expr-returns-in-Compare t c =
    two_arm c.args.scope.now c.args.expr.now (Expr-F.Compare c.in-Compare.place c.in-Compare.sign c.in-Compare.left c.in-Compare.right) c.in-Compare.left c.in-Compare.right c.get-in-Compare.result.now c.get-in-Compare-2.result.now (parts.comparison c.args.scope.now c.in-Compare.place c.in-Compare.sign) c.bind_expr-of-in-Compare.result c.bind_expr-with.result c.comparison.result
    (ap out-Expr c.in-Compare.is ∙ outs-Compare c.in-Compare.place c.in-Compare.sign c.in-Compare.left c.in-Compare.right) refl c.get-in-Compare.ensures c.get-in-Compare-2.ensures c.bind_expr-of-in-Compare.ensures c.bind_expr-with.ensures c.comparison.ensures

pub bind_expr-returns-in-OneOf : goal.bind_expr-returns-in-OneOf
bind_expr-returns-in-OneOf t c =
    listed_arm c.args.scope.now c.args.expr.now (Expr-F.OneOf c.in-OneOf.place c.in-OneOf.negated c.in-OneOf.operand c.in-OneOf.list) c.in-OneOf.operand c.get-in-OneOf.result.now (constants_from c.args.scope.now (Ok []) c.in-OneOf.list) (parts.one_of c.args.scope.now c.in-OneOf.place c.in-OneOf.negated) c.bind_expr-of-in-OneOf.result c.constants-list.result c.one_of.result
    (ap out-Expr c.in-OneOf.is ∙ outs-OneOf c.in-OneOf.place c.in-OneOf.negated c.in-OneOf.operand c.in-OneOf.list) refl c.get-in-OneOf.ensures c.bind_expr-of-in-OneOf.ensures (subst (λ l. Gives (constants_from c.args.scope.now (Ok []) l) c.constants-list.result) c.as_slice-in-OneOf.ensures c.constants-list.ensures) c.one_of.ensures

pub bind_expr-returns-in-Between : goal.bind_expr-returns-in-Between
bind_expr-returns-in-Between t c =
    three_arm c.args.scope.now c.args.expr.now (Expr-F.Between c.in-Between.place c.in-Between.negated c.in-Between.operand c.in-Between.low c.in-Between.high) c.in-Between.operand c.in-Between.low c.in-Between.high c.get-in-Between.result.now c.get-in-Between-2.result.now c.get-in-Between-3.result.now (parts.between c.args.scope.now c.in-Between.place c.in-Between.negated)
    c.bind_expr-of-in-Between.result c.bind_expr-least.result c.bind_expr-most.result c.between.result
    (ap out-Expr c.in-Between.is ∙ outs-Between c.in-Between.place c.in-Between.negated c.in-Between.operand c.in-Between.low c.in-Between.high) refl c.get-in-Between.ensures c.get-in-Between-2.ensures c.get-in-Between-3.ensures c.bind_expr-of-in-Between.ensures c.bind_expr-least.ensures c.bind_expr-most.ensures c.between.ensures

pub bind_expr-returns-in-Member : goal.bind_expr-returns-in-Member
bind_expr-returns-in-Member t c =
    expr_gives c.args.scope.now c.args.expr.now (Expr-F.Member c.in-Member.place c.in-Member.negated c.in-Member.operand c.in-Member.query) c.misplaced.result (ap out-Expr c.in-Member.is ∙ outs-Member c.in-Member.place c.in-Member.negated c.in-Member.operand c.in-Member.query)
    (subquery_both c.args.scope.now ((expr_binding c.in-Member.operand).part c.args.scope.now) (λ n. misplaced c.in-Member.place n) c.in-Member.query c.get-in-Member-2.result.now c.get-in-Member-3.result.now.place c.bind_expr-of-in-Member.result c.bind_select-found.result c.misplaced.result
    c.get-in-Member-2.ensures (ap (λ (s : Select). s.place) c.get-in-Member-3.ensures) (part_at c.args.scope.now c.in-Member.operand c.get-in-Member.result.now c.bind_expr-of-in-Member.result c.get-in-Member.ensures c.bind_expr-of-in-Member.ensures) c.bind_select-found.ensures c.misplaced.ensures)

pub bind_conjunct-returns-in-Member : goal.bind_conjunct-returns-in-Member
bind_conjunct-returns-in-Member t c =
    operand_gives c.args.scope.now c.args.expr.now (Expr-F.Member c.in-Member.place c.in-Member.negated c.in-Member.operand c.in-Member.query) c.member.result (ap out-Expr c.in-Member.is ∙ outs-Member c.in-Member.place c.in-Member.negated c.in-Member.operand c.in-Member.query)
    (subquery_both c.args.scope.now ((expr_binding c.in-Member.operand).part c.args.scope.now) (λ n. member c.in-Member.place n c.in-Member.negated) c.in-Member.query c.get-in-Member.result.now c.get-in-Member-2.result.now.place c.bind_expr-of.result c.bind_select-found.result c.member.result
    c.get-in-Member.ensures (ap (λ (s : Select). s.place) c.get-in-Member-2.ensures) (part_at c.args.scope.now c.in-Member.operand c.get.result.now c.bind_expr-of.result c.get.ensures c.bind_expr-of.ensures) c.bind_select-found.ensures c.member.ensures)

pub bind_conjunct-returns-in_default : goal.bind_conjunct-returns-in_default
bind_conjunct-returns-in_default t c =
    plain_arm c.args.scope.now c.args.expr.now c.bind_expr.result c.plain_operand.result c.in_default.not-Member c.bind_expr.ensures c.plain_operand.ensures

pub bind_filter-returns-in-Every : goal.bind_filter-returns-in-Every
bind_filter-returns-in-Every t c =
    every_filter c.args.scope.now c.args.expr.now c.in-Every.first c.get.result.now c.in-Every.others c.as_slice.result.now c.bind_conjunct-head.result c.begun-begun.result c.bind_conjuncts.result
    (ap out-Expr c.in-Every.is ∙ outs-Every c.in-Every.first c.in-Every.others) c.get.ensures c.as_slice.ensures c.bind_conjunct-head.ensures c.begun-begun.ensures c.bind_conjuncts.ensures

pub bind_filter-returns-in_default : goal.bind_filter-returns-in_default
bind_filter-returns-in_default t c =
    filter_arm c.args.scope.now c.args.expr.now c.bind_conjunct.result c.begun.result c.in_default.not-Every c.bind_conjunct.ensures c.begun.ensures

pub bind_where-returns-in-Some : goal.bind_where-returns-in-Some
bind_where-returns-in-Some t c =
    subst (λ f. Gives (conjuncts c.args.scope.now f) c.ended.result) (sym c.in-Some.is) (where_arm c.args.scope.now c.in-Some.condition c.get.result.now c.bind_filter-all.result c.ended.result c.get.ensures c.bind_filter-all.ensures c.ended.ensures)

pub bind_where-returns-in-None : goal.bind_where-returns-in-None
bind_where-returns-in-None t c =
    subst (λ f. Gives (conjuncts c.args.scope.now f) (Ok c.new.result)) (sym c.in-None.is) (ap Ok (sym c.new.ensures))

pub bind_having-returns-in-Some : goal.bind_having-returns-in-Some
bind_having-returns-in-Some t c =
    subst (λ h. GoesOn (selected c.args.scope.now h) c.args.outputs c.with_having.result) (sym c.in-Some.is) (having_arm c.args.scope.now c.in-Some.condition c.get.result.now c.args.outputs c.bind_expr-part.result c.with_having.result c.get.ensures c.bind_expr-part.ensures c.with_having.ensures)

pub bind_having-returns-in-None : goal.bind_having-returns-in-None
bind_having-returns-in-None t c =
    subst (λ h. GoesOn (selected c.args.scope.now h) c.args.outputs c.without_having.result) (sym c.in-None.is) c.without_having.ensures

pub bind_source-returns-in-Table : goal.bind_source-returns-in-Table
bind_source-returns-in-Table t c =
    source_goes c.args.scope.now c.args.join c.args.source.now (Source-F.Table c.in-Table.name c.in-Table.alias) c.args.before c.table_source.result (ap out-Source c.in-Table.is ∙ outs-Table c.in-Table.name c.in-Table.alias) c.table_source.ensures

pub bind_source-returns-in-Query : goal.bind_source-returns-in-Query
bind_source-returns-in-Query t c =
    query_arm c.args.scope.now c.args.join c.args.source.now c.in-Query.place c.in-Query.query c.get.result.now c.in-Query.alias c.args.before c.query_source.result c.bind_select-found.result (ap out-Source c.in-Query.is ∙ outs-Query c.in-Query.place c.in-Query.query c.in-Query.alias) c.get.ensures c.bind_select-found.ensures c.query_source.ensures

pub bind_join-returns-in-Cross : goal.bind_join-returns-in-Cross
bind_join-returns-in-Cross t c =
    join_goes c.args.scope.now c.args.join.now (Join-F.Cross c.in-Cross.source) c.args.before c.bind_source.result (ap out-Join c.in-Cross.is ∙ outs-Cross c.in-Cross.source) c.bind_source.ensures

pub bind_join-returns-in-On : goal.bind_join-returns-in-On
bind_join-returns-in-On t c =
    joined_arm c.args.scope.now c.args.join.now c.in-On.outer c.in-On.source c.in-On.on c.join_kind-kind.result c.args.before c.bind_source-in-On.result (ap out-Join c.in-On.is ∙ outs-On c.in-On.outer c.in-On.source c.in-On.on) c.join_kind-kind.ensures c.bind_source-in-On.ensures

pub bind_on-returns-in-Cross : goal.bind_on-returns-in-Cross
bind_on-returns-in-Cross t c =
    on_goes c.args.scope.now c.args.join.now (Join-F.Cross c.in-Cross._source) c.args.before c.join_plainly.result (ap out-Join c.in-Cross.is ∙ outs-Cross c.in-Cross._source) c.join_plainly.ensures

pub bind_on-returns-in-On : goal.bind_on-returns-in-On
bind_on-returns-in-On t c =
    on_arm c.args.scope.now c.front-seen.result c.args.join.now c.in-On.outer c.in-On.source c.in-On.on c.get.result.now c.args.before c.join_on.result c.bind_expr-part.result (ap out-Join c.in-On.is ∙ outs-On c.in-On.outer c.in-On.source c.in-On.on)
    c.get.ensures (c.front-seen.ensures ∙ ap (front c.args.scope.now) c.width_of.ensures) c.bind_expr-part.ensures c.join_on.ensures

pub bind_item-returns-in-Star : goal.bind_item-returns-in-Star
bind_item-returns-in-Star t c =
    item_goes c.args.scope.now c.args.grouped c.args.item.now (Item-F.Item::Star c.in-Star.place) c.args.before c.star_item.result (ap out-Item c.in-Star.is ∙ outs-Item::Star c.in-Star.place) c.star_item.ensures

pub bind_item-returns-in-SourceStar : goal.bind_item-returns-in-SourceStar
bind_item-returns-in-SourceStar t c =
    item_goes c.args.scope.now c.args.grouped c.args.item.now (Item-F.SourceStar c.in-SourceStar.source) c.args.before c.source_item.result (ap out-Item c.in-SourceStar.is ∙ outs-SourceStar c.in-SourceStar.source) c.source_item.ensures

pub bind_item-returns-in-Value : goal.bind_item-returns-in-Value
bind_item-returns-in-Value t c =
    value_item_arm c.args.scope.now c.args.grouped c.args.item.now c.in-Value.value c.get.result.now c.in-Value.alias c.args.before c.value_item.result c.bind_expr-part.result (ap out-Item c.in-Value.is ∙ outs-Item::Value c.in-Value.value c.in-Value.alias) c.get.ensures c.bind_expr-part.ensures c.value_item.ensures

pub bind_rows-returns-in_ok-grouped-in-Core : goal.bind_rows-returns-in_ok-grouped-in-Core
bind_rows-returns-in_ok-grouped-in-Core t c =
    core_at c.args.scope.now c.over_columns-over.result c.over_keys-inner.result c.args.rows.now c.in-Core.place c.in-Core.distinct c.in-Core.items c.as_slice-items.result.now c.in-Core.first c.in-Core.joins c.as_slice-joins.result.now c.in-Core.filter c.in-Core.group c.as_slice-group.result.now c.in-Core.having
    c.in_ok-grouped-in-Core.grouped (Ok c.no_sources.result) c.bind_source-begun.result c.bind_joins-sources.result c.from_clause-columns.result.columns c.from_clause-columns.result.joined c.join_plainly.result c.bind_ons-ons.result c.bind_where-conjuncts.result c.with_conjuncts-filtered.result
    c.bind_keys-keys.result c.bind_items-outputs.result c.bind_having.result c.unmixed-selected.result c.with_selected-shown.result c.bound_core.result
    (ap out-Rows c.in-Core.is ∙ outs-Core c.in-Core.place c.in-Core.distinct c.in-Core.items c.in-Core.first c.in-Core.joins c.in-Core.filter c.in-Core.group c.in-Core.having)
    (record { items_are = c.as_slice-items.ensures; joins_are = c.as_slice-joins.ensures; group_is = c.as_slice-group.ensures })
    c.in_ok-grouped-in-Core.ensures
    (record { begun_is = ap Ok c.no_sources.ensures; first_on = c.bind_source-begun.ensures; all_on = c.bind_joins-sources.ensures; joined_on = c.from_clause-columns.ensures.joined; columns_are = c.from_clause-columns.ensures.columns })
    (c.over_columns-over.ensures ∙ ap (over_columns c.args.scope.now) c.as_slice.ensures)
    (record { plain_on = c.join_plainly.ensures; ons_on = c.bind_ons-ons.ensures; where_given = c.bind_where-conjuncts.ensures; filtered_on = c.with_conjuncts-filtered.ensures })
    (record { keys_given = c.bind_keys-keys.ensures; inner_is = c.over_keys-inner.ensures ∙ ap (over_keys c.over_columns-over.result) c.keys_of.ensures; outputs_given = c.bind_items-outputs.ensures; chosen_on = c.bind_having.ensures; last_on = c.unmixed-selected.ensures; shown_on = c.with_selected-shown.ensures })
    c.bound_core.ensures

pub bind_rows-returns-in-Sets : goal.bind_rows-returns-in-Sets
bind_rows-returns-in-Sets t c =
    sets_at c.args.scope.now c.args.rows.now c.in-Sets.first c.get.result.now c.in-Sets.others c.as_slice-in-Sets.result.now c.bind_rows-rows.result c.set.result c.operand-left.result c.bind_sets.result (ap out-Rows c.in-Sets.is ∙ outs-Sets c.in-Sets.first c.in-Sets.others)
    c.get.ensures c.as_slice-in-Sets.ensures c.bind_rows-rows.ensures c.operand-left.ensures c.bind_sets.ensures c.set.ensures

pub bind_select-returns : goal.bind_select-returns
bind_select-returns t c =
    select_arm c.args.scope.now c.args.query.now c.get.result.now c.as_slice.result.now c.bind_rows-rows.result c.select.result c.get.ensures c.as_slice.ensures c.bind_rows-rows.ensures c.select.ensures

pub bind_rows-bind_ons-ons-requires : goal.bind_rows-bind_ons-ons-requires
bind_rows-bind_ons-ons-requires t c =
    (omega (arith, joins_below c.args.rows.now c.in-Core.place c.in-Core.distinct c.in-Core.items c.in-Core.first c.in-Core.joins c.as_slice-joins.result.now c.in-Core.filter c.in-Core.group c.in-Core.having c.in-Core.is c.as_slice-joins.ensures), tt)

pub bind_rows-bind_keys-keys-requires : goal.bind_rows-bind_keys-keys-requires
bind_rows-bind_keys-keys-requires t c =
    (omega (arith, keys_below c.args.rows.now c.in-Core.place c.in-Core.distinct c.in-Core.items c.in-Core.first c.in-Core.joins c.in-Core.filter c.in-Core.group c.as_slice-group.result.now c.in-Core.having c.in-Core.is c.as_slice-group.ensures), tt)

pub bind_rows-bind_items-outputs-requires : goal.bind_rows-bind_items-outputs-requires
bind_rows-bind_items-outputs-requires t c =
    (omega (arith, items_below c.args.rows.now c.in-Core.place c.in-Core.distinct c.in-Core.items c.as_slice-items.result.now c.in-Core.first c.in-Core.joins c.in-Core.filter c.in-Core.group c.in-Core.having c.in-Core.is c.as_slice-items.ensures), tt)
