use Rattle.std.proofs.Common.{◌≡◌, ap, sym, ◌∙◌, map}
use Rattle.sql_expr.specs.declared.tree.Expr.TheViews.{out-Expr, outs-Chain}
use Rattle.sql_expr.specs.declared.tree.Expr.TheOpen.{Expr-F}
use Rattle.sql_expr.specs.Kinds.{kind_of as type_of, last_kind, link_kind}
use Rattle.sql_expr.proofs.Chains.{last_of}
use Rattle.sql_expr.proofs.Nodes.{kind_out, link_kind_is}
use Rattle.sql_expr.proofs.kinds.+kind_of.Goals as goal

pub returns-in-len1-up : goal.returns-in-len1-up
returns-in-len1-up t c =
    let h = last_of (type_of c.in-Chain.first) c.as_slice.result.now c.last-item.result c.in-len1-up.len_at_least c.last-item.is in
    let e : last_kind (type_of c.in-Chain.first) (map link_kind c.in-Chain.links) ≡ link_kind c.last-item.result = rw (← c.as_slice.ensures) h in
    let is = kind_out c.args.expr.now (Expr-F.Chain c.in-Chain.first c.in-Chain.links)
    (ap out-Expr c.in-Chain.is ∙ outs-Chain c.in-Chain.first c.in-Chain.links) in
    sym (is ∙ e ∙ link_kind_is c.last-item.result)
