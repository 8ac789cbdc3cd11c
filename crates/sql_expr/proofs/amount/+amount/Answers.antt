use Rattle.std.proofs.Common.{ap, ◌∙◌, rules}
use Rattle.sql_expr.specs.declared.tree.Expr.TheViews.{the_lemmas, out-Expr, outs-Constant, outs-Column, outs-Minus, outs-Chain}
use Rattle.sql_expr.specs.Kinds.{kind_of}
use Rattle.sql_expr.proofs.Amounts.{minus_kind, minus_operand, chain_first, chain_links, constant_value, column_within, column_value, chain_result, minus_result}
use Rattle.sql_expr.proofs.amount.+amount.Goals as goal

pub amount_of-bounds-row-place : goal.amount_of-bounds-row-place
amount_of-bounds-row-place t c =
    column_within c.args.row.now c.args.expr.now c.in-Column.place c.in-Column.kind c.requires.fits
    (ap out-Expr c.in-Column.is ∙ outs-Column c.in-Column.place c.in-Column.kind)

pub amount_of-amount_of-requires : goal.amount_of-amount_of-requires
amount_of-amount_of-requires t c =
    let h = minus_operand c.args.row.now c.args.expr.now c.in-Minus.of c.get.result.now c.in-Minus.kind c.requires.fits
    (ap out-Expr c.in-Minus.is ∙ outs-Minus c.in-Minus.of c.in-Minus.kind) c.get.ensures in
    (search (rules, the_lemmas), (h.0, h.1))

pub amount_of-opposite_of-requires : goal.amount_of-opposite_of-requires
amount_of-opposite_of-requires t c =
    minus_kind c.args.row.now c.args.expr.now c.in-Minus.of c.in-Minus.kind c.requires.fits
    (ap out-Expr c.in-Minus.is ∙ outs-Minus c.in-Minus.of c.in-Minus.kind)

pub amount_of-amount_of-requires-in-Chain : goal.amount_of-amount_of-requires-in-Chain
amount_of-amount_of-requires-in-Chain t c =
    let h = chain_first c.args.row.now c.args.expr.now c.in-Chain.first c.get-in-Chain.result.now c.in-Chain.links c.requires.fits
    (ap out-Expr c.in-Chain.is ∙ outs-Chain c.in-Chain.first c.in-Chain.links) c.get-in-Chain.ensures in
    (search (rules, the_lemmas), (h.0, h.1))

pub amount_of-amount_links-requires : goal.amount_of-amount_links-requires
amount_of-amount_links-requires t c = (
  search (rules, the_lemmas),
  chain_links c.args.row.now c.args.expr.now c.in-Chain.first c.in-Chain.links c.as_slice.result.now c.kind_of.result c.requires.fits
      (ap out-Expr c.in-Chain.is ∙ outs-Chain c.in-Chain.first c.in-Chain.links)
      (c.kind_of.ensures ∙ ap kind_of c.get-in-Ok-amount_of.ensures) c.as_slice.ensures,
)

pub amount_of-returns-in-Constant : goal.amount_of-returns-in-Constant
amount_of-returns-in-Constant t c =
    constant_value c.args.row.now c.args.expr.now c.in-Constant.value c.in-Constant.kind c.digits_in.result c.requires.fits c.requires.amount
    (ap out-Expr c.in-Constant.is ∙ outs-Constant c.in-Constant.value c.in-Constant.kind) c.digits_in.ensures

pub amount_of-returns-in-Column : goal.amount_of-returns-in-Column
amount_of-returns-in-Column t c =
    column_value c.args.row.now c.args.expr.now c.in-Column.place c.in-Column.kind c.index-row-place.result c.digits_in-in-Column.result
    c.requires.fits c.requires.amount (ap out-Expr c.in-Column.is ∙ outs-Column c.in-Column.place c.in-Column.kind)
    c.index-row-place.is c.digits_in-in-Column.ensures

pub amount_of-returns-in-Ok-amount_of : goal.amount_of-returns-in-Ok-amount_of
amount_of-returns-in-Ok-amount_of t c =
    chain_result c.args.row.now c.args.expr.now c.get-in-Chain.result.now c.in-Chain.first c.in-Chain.links c.as_slice.result.now c.kind_of.result
    c.in-Ok-amount_of.left c.amount_links.result
    (ap out-Expr c.in-Chain.is ∙ outs-Chain c.in-Chain.first c.in-Chain.links)
    c.get-in-Chain.ensures (c.kind_of.ensures ∙ ap kind_of c.get-in-Ok-amount_of.ensures) c.as_slice.ensures
    c.in-Ok-amount_of.ensures c.amount_links.ensures

pub amount_of-returns-in-Ok : goal.amount_of-returns-in-Ok
amount_of-returns-in-Ok t c =
    minus_result c.args.row.now c.args.expr.now c.in-Minus.of c.get.result.now c.in-Minus.kind c.in-Ok.number c.opposite_of.result c.requires.fits
    (ap out-Expr c.in-Minus.is ∙ outs-Minus c.in-Minus.of c.in-Minus.kind) c.get.ensures c.in-Ok.ensures c.opposite_of.ensures
