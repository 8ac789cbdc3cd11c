use Rattle.std.proofs.Common.{ap, ◌∙◌}
use Rattle.sql_expr.specs.declared.tree.Expr.TheViews.{out-Expr, outs-Constant, outs-Column}
use Rattle.sql_expr.proofs.Texts.{constant_text, column_text, other_text}
use Rattle.sql_expr.proofs.Amounts.{column_within}
use Rattle.sql_expr.proofs.text.text_of.Goals as goal

pub bounds-row-place : goal.bounds-row-place
bounds-row-place c =
    column_within c.args.row.now c.args.expr.now c.in-Column.place c.in-Column.kind c.requires.fits
    (ap out-Expr c.in-Column.is ∙ outs-Column c.in-Column.place c.in-Column.kind)

pub returns-in-Constant : goal.returns-in-Constant
returns-in-Constant c =
    constant_text c.args.row.now c.args.expr.now c.in-Constant.value c.in-Constant.kind _ c.requires.fits c.requires.text
    (ap out-Expr c.in-Constant.is ∙ outs-Constant c.in-Constant.value c.in-Constant.kind) c.text_in.ensures

pub returns-in-Column : goal.returns-in-Column
returns-in-Column c =
    column_text c.args.row.now c.args.expr.now c.in-Column.place c.in-Column.kind c.index-row-place.result _
    c.requires.fits c.requires.text (ap out-Expr c.in-Column.is ∙ outs-Column c.in-Column.place c.in-Column.kind)
    c.index-row-place.is c.text_in-in-Column.ensures

pub returns-in_default : goal.returns-in_default
returns-in_default c = absurd (other_text c.args.row.now c.args.expr.now c.requires.fits c.requires.text c.in_default.not-Constant c.in_default.not-Column)
