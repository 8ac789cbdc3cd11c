use Rattle.std.proofs.Common.{◌≡◌, ap, sym, ◌∙◌, length}
use Rattle.std.specs.Prelude.{None}
use Rattle.sql_expr.specs.declared.tree.Expr.TheVariants as typed
use Rattle.sql_expr.specs.declared.tree.Expr.TheViews.{out-Expr, outs-Not, outs-Minus, outs-Every, outs-Either, outs-Chain, outs-Compare, outs-IsNull, outs-Like, outs-OneOf, outs-Between}
use Rattle.sql_clauses.specs.Grouping.{key_from, over_group, list_over, links_over, group_place}
use Rattle.sql_clauses.proofs.MakesLaws.{arm, arm_both, arm_three}
use Rattle.sql_clauses.proofs.Regrouping.{over_key, over_not, over_minus, over_every, over_either, over_chain, over_compare, over_null_test, over_like, over_one_of, over_between}
use Rattle.sql_clauses.proofs.grouping.+group.Goals as goal

pub tree_over-returns-in-Some : goal.tree_over-returns-in-Some
tree_over-returns-in-Some t c =
    ap (typed.Column c.in-Some.place) c.kind_of.ensures
    ∙ sym (over_key c.args.keys.now (group_place (length c.args.keys.now) c.args.width c.args.calls.now) c.args.tree.now c.in-Some.place c.in-Some.ensures)

pub tree_over-returns-in-Not : goal.tree_over-returns-in-Not
tree_over-returns-in-Not t c =
    let p = group_place (length c.args.keys.now) c.args.width c.args.calls.now in
    let o = over_group c.args.keys.now p in
    let none : None ≡ key_from 0 c.args.keys.now c.args.tree.now = cc in
    arm (λ a. typed.Not a) (o c.in-Not.of) (o c.get.result.now) (o c.args.tree.now) c.tree_over.result c.negation.result
    (over_not c.args.keys.now p c.args.tree.now c.in-Not.of (ap out-Expr c.in-Not.is ∙ outs-Not c.in-Not.of) none)
    (ap o c.get.ensures) c.tree_over.ensures c.negation.ensures

pub tree_over-returns-in-Minus : goal.tree_over-returns-in-Minus
tree_over-returns-in-Minus t c =
    let p = group_place (length c.args.keys.now) c.args.width c.args.calls.now in
    let o = over_group c.args.keys.now p in
    let none : None ≡ key_from 0 c.args.keys.now c.args.tree.now = cc in
    arm (λ a. typed.Minus a c.in-Minus.kind) (o c.in-Minus.of) (o c.get-in-Minus.result.now) (o c.args.tree.now) c.tree_over-in-Minus.result c.minus.result
    (over_minus c.args.keys.now p c.args.tree.now c.in-Minus.of c.in-Minus.kind (ap out-Expr c.in-Minus.is ∙ outs-Minus c.in-Minus.of c.in-Minus.kind) none)
    (ap o c.get-in-Minus.ensures) c.tree_over-in-Minus.ensures c.minus.ensures

pub tree_over-returns-in-Every : goal.tree_over-returns-in-Every
tree_over-returns-in-Every t c =
    let p = group_place (length c.args.keys.now) c.args.width c.args.calls.now in
    let o = over_group c.args.keys.now p in
    let none : None ≡ key_from 0 c.args.keys.now c.args.tree.now = cc in
    arm (λ a. typed.Every a) (list_over c.args.keys.now p c.in-Every.list) (list_over c.args.keys.now p c.as_slice.result.now) (o c.args.tree.now) c.list_over.result c.every.result
    (over_every c.args.keys.now p c.args.tree.now c.in-Every.list (ap out-Expr c.in-Every.is ∙ outs-Every c.in-Every.list) none)
    (ap (list_over c.args.keys.now p) c.as_slice.ensures) c.list_over.ensures c.every.ensures

pub tree_over-returns-in-Either : goal.tree_over-returns-in-Either
tree_over-returns-in-Either t c =
    let p = group_place (length c.args.keys.now) c.args.width c.args.calls.now in
    let o = over_group c.args.keys.now p in
    let none : None ≡ key_from 0 c.args.keys.now c.args.tree.now = cc in
    arm (λ a. typed.Either a) (list_over c.args.keys.now p c.in-Either.list) (list_over c.args.keys.now p c.as_slice-in-Either.result.now) (o c.args.tree.now) c.list_over-in-Either.result c.either.result
    (over_either c.args.keys.now p c.args.tree.now c.in-Either.list (ap out-Expr c.in-Either.is ∙ outs-Either c.in-Either.list) none)
    (ap (list_over c.args.keys.now p) c.as_slice-in-Either.ensures) c.list_over-in-Either.ensures c.either.ensures

pub tree_over-returns-in-IsNull : goal.tree_over-returns-in-IsNull
tree_over-returns-in-IsNull t c =
    let p = group_place (length c.args.keys.now) c.args.width c.args.calls.now in
    let o = over_group c.args.keys.now p in
    let none : None ≡ key_from 0 c.args.keys.now c.args.tree.now = cc in
    arm (λ a. typed.IsNull a c.in-IsNull.negated) (o c.in-IsNull.of) (o c.get-in-IsNull.result.now) (o c.args.tree.now) c.tree_over-in-IsNull.result c.null_test.result
    (over_null_test c.args.keys.now p c.args.tree.now c.in-IsNull.of c.in-IsNull.negated (ap out-Expr c.in-IsNull.is ∙ outs-IsNull c.in-IsNull.of c.in-IsNull.negated) none)
    (ap o c.get-in-IsNull.ensures) c.tree_over-in-IsNull.ensures c.null_test.ensures

pub tree_over-returns-in-Like : goal.tree_over-returns-in-Like
tree_over-returns-in-Like t c =
    let p = group_place (length c.args.keys.now) c.args.width c.args.calls.now in
    let o = over_group c.args.keys.now p in
    let none : None ≡ key_from 0 c.args.keys.now c.args.tree.now = cc in
    arm (λ a. typed.Like a c.in-Like.pattern c.in-Like.negated) (o c.in-Like.of) (o c.get-in-Like.result.now) (o c.args.tree.now) c.tree_over-in-Like.result c.like.result
    (over_like c.args.keys.now p c.args.tree.now c.in-Like.of c.in-Like.pattern c.in-Like.negated (ap out-Expr c.in-Like.is ∙ outs-Like c.in-Like.of c.in-Like.pattern c.in-Like.negated) none)
    (ap o c.get-in-Like.ensures) c.tree_over-in-Like.ensures c.like.ensures

pub tree_over-returns-in-Chain : goal.tree_over-returns-in-Chain
tree_over-returns-in-Chain t c =
    let p = group_place (length c.args.keys.now) c.args.width c.args.calls.now in
    let o = over_group c.args.keys.now p in
    let none : None ≡ key_from 0 c.args.keys.now c.args.tree.now = cc in
    arm_both (λ a b. typed.Chain a b) (o c.in-Chain.first) (o c.get-in-Chain.result.now) (links_over c.args.keys.now p c.in-Chain.links) (links_over c.args.keys.now p c.as_slice-in-Chain.result.now) (o c.args.tree.now) c.tree_over-in-Chain.result c.links_over.result c.chain.result
    (over_chain c.args.keys.now p c.args.tree.now c.in-Chain.first c.in-Chain.links (ap out-Expr c.in-Chain.is ∙ outs-Chain c.in-Chain.first c.in-Chain.links) none)
    (ap o c.get-in-Chain.ensures) (ap (links_over c.args.keys.now p) c.as_slice-in-Chain.ensures) c.tree_over-in-Chain.ensures c.links_over.ensures c.chain.ensures

pub tree_over-returns-in-Compare : goal.tree_over-returns-in-Compare
tree_over-returns-in-Compare t c =
    let p = group_place (length c.args.keys.now) c.args.width c.args.calls.now in
    let o = over_group c.args.keys.now p in
    let none : None ≡ key_from 0 c.args.keys.now c.args.tree.now = cc in
    arm_both (λ a b. typed.Compare c.in-Compare.sign a b) (o c.in-Compare.left) (o c.get-in-Compare.result.now) (o c.in-Compare.right) (o c.get-in-Compare-2.result.now) (o c.args.tree.now) c.tree_over-in-Compare.result c.tree_over-in-Compare-2.result c.comparison.result
    (over_compare c.args.keys.now p c.args.tree.now c.in-Compare.left c.in-Compare.right c.in-Compare.sign (ap out-Expr c.in-Compare.is ∙ outs-Compare c.in-Compare.sign c.in-Compare.left c.in-Compare.right) none)
    (ap o c.get-in-Compare.ensures) (ap o c.get-in-Compare-2.ensures) c.tree_over-in-Compare.ensures c.tree_over-in-Compare-2.ensures c.comparison.ensures

pub tree_over-returns-in-OneOf : goal.tree_over-returns-in-OneOf
tree_over-returns-in-OneOf t c =
    let p = group_place (length c.args.keys.now) c.args.width c.args.calls.now in
    let o = over_group c.args.keys.now p in
    let none : None ≡ key_from 0 c.args.keys.now c.args.tree.now = cc in
    arm_both (λ a b. typed.OneOf a b c.in-OneOf.negated) (o c.in-OneOf.of) (o c.get-in-OneOf.result.now) (list_over c.args.keys.now p c.in-OneOf.list) (list_over c.args.keys.now p c.as_slice-in-OneOf.result.now) (o c.args.tree.now) c.tree_over-in-OneOf.result c.list_over-in-OneOf.result c.one_of.result
    (over_one_of c.args.keys.now p c.args.tree.now c.in-OneOf.of c.in-OneOf.list c.in-OneOf.negated (ap out-Expr c.in-OneOf.is ∙ outs-OneOf c.in-OneOf.of c.in-OneOf.list c.in-OneOf.negated) none)
    (ap o c.get-in-OneOf.ensures) (ap (list_over c.args.keys.now p) c.as_slice-in-OneOf.ensures) c.tree_over-in-OneOf.ensures c.list_over-in-OneOf.ensures c.one_of.ensures

pub tree_over-returns-in-Between : goal.tree_over-returns-in-Between
tree_over-returns-in-Between t c =
    let p = group_place (length c.args.keys.now) c.args.width c.args.calls.now in
    let o = over_group c.args.keys.now p in
    let none : None ≡ key_from 0 c.args.keys.now c.args.tree.now = cc in
    arm_three (λ a b d. typed.Between a b d c.in-Between.negated) (o c.in-Between.of) (o c.get-in-Between.result.now) (o c.in-Between.low) (o c.get-in-Between-2.result.now)
    (o c.in-Between.high) (o c.get-in-Between-3.result.now) (o c.args.tree.now) c.tree_over-in-Between.result c.tree_over-in-Between-2.result c.tree_over-in-Between-3.result c.between.result
    (over_between c.args.keys.now p c.args.tree.now c.in-Between.of c.in-Between.low c.in-Between.high c.in-Between.negated
    (ap out-Expr c.in-Between.is ∙ outs-Between c.in-Between.of c.in-Between.low c.in-Between.high c.in-Between.negated) none)
    (ap o c.get-in-Between.ensures) (ap o c.get-in-Between-2.ensures) (ap o c.get-in-Between-3.ensures)
    c.tree_over-in-Between.ensures c.tree_over-in-Between-2.ensures c.tree_over-in-Between-3.ensures c.between.ensures
