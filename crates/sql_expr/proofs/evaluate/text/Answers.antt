use Rattle.std.proofs.Common.{ap, sym, ◌∙◌, subst}
use Rattle.std.specs.Prelude.{Ok}
use Rattle.ooc_types.specs.declared.value.Value.TheVariants.{Null}
use Rattle.sql_expr.specs.declared.tree.Expr.TheOpen.{Expr-F}
use Rattle.sql_expr.specs.declared.tree.Expr.TheViews.{out-Expr, outs-Column}
use Rattle.sql_expr.specs.Arithmetic.{Meaning}
use Rattle.sql_expr.specs.Outcomes.{Tells}
use Rattle.sql_expr.proofs.Nodes.{value_out}
use Rattle.sql_expr.proofs.Amounts.{column_within, get_or_same}
use Rattle.sql_expr.proofs.Texts.{other_text}
use Rattle.sql_expr.proofs.evaluate.text.Goals as goal

pub bounds-row-place : goal.bounds-row-place
bounds-row-place c =
    column_within c.args.row.now c.args.expr.now c.in-Column.place c.in-Column.kind c.requires.fits
    (ap out-Expr c.in-Column.is ∙ outs-Column c.in-Column.place c.in-Column.kind)

pub returns-in-Column : goal.returns-in-Column
returns-in-Column c =
    let is = ap out-Expr c.in-Column.is ∙ outs-Column c.in-Column.place c.in-Column.kind in
    let within = column_within c.args.row.now c.args.expr.now c.in-Column.place c.in-Column.kind c.requires.fits is in
    let there = get_or_same c.args.row.now c.in-Column.place c.index-row-place.result Null within c.index-row-place.is in
    subst (λ (m : Meaning). Tells m c.copy_of-in-Column.result)
    (sym (value_out c.args.row.now c.args.expr.now (Expr-F.Column c.in-Column.place c.in-Column.kind) is ∙ ap Ok (sym there)))
    c.copy_of-in-Column.ensures

pub returns-in_default : goal.returns-in_default
returns-in_default c = absurd (other_text c.args.row.now c.args.expr.now c.requires.fits c.requires.text c.in_default.not-Constant c.in_default.not-Column)
