-- The value and the type of an expression by its outermost node.
use Rattle.std.proofs.Common.{◌≡◌, List, [], ◌∷◌, map, refl, sym, ap, ◌∙◌}
use Rattle.ooc_types.specs.declared.value.Value.{Value}
use Rattle.ooc_types.specs.declared.schema.SqlType.{SqlType}
use Rattle.ooc_types.specs.declared.schema.SqlType.TheVariants.{Boolean, Integer, BigInt, HugeInt, Decimal, Date, Varchar}
use Rattle.sql_expr.specs.declared.tree.Expr.{Expr}
use Rattle.sql_expr.specs.declared.tree.Link.{Link}
use Rattle.sql_expr.specs.declared.tree.Expr.TheOpen.{Expr-F}
use Rattle.sql_expr.specs.declared.tree.Expr.TheFolds.{fold_out-Expr, fold_out-Link, map-Expr}
use Rattle.sql_expr.specs.declared.tree.Expr.TheViews.{out-Expr, roll-Expr, roll-out-Expr}
use Rattle.sql_expr.specs.Arithmetic.{Meaning}
use Rattle.sql_expr.specs.Meaning.{LinkMeaning, value_of, value_step, link_step, link_meaning, plain_link, chain_from}
use Rattle.sql_expr.specs.Kinds.{kind_of, kind_step, link_kind, link_kind_step, last_kind}
use Rattle.sql_expr.specs.Operations.{IsAmount, IsText}
use Rattle.sql_expr.specs.Typing.{AreLinks, FitsRow}
use Rattle.sql_expr.specs.Ready.{AreReady}
use Rattle.sql_expr.proofs.Linked.{linked_amount}
use Rattle.sql_expr.proofs.Opened.{AllLinks}

pub value_out : (row : List Value) (e : Expr) (x : Expr-F Expr Link) → out-Expr e ≡ x
    → value_of row e ≡ value_step row (map-Expr Expr Link Meaning LinkMeaning (value_of row) (link_meaning row) x)
value_out row e x is =
    fold_out-Expr Meaning LinkMeaning (value_step row) link_step e
    ∙ ap (λ y. value_step row (map-Expr Expr Link Meaning LinkMeaning (value_of row) (link_meaning row) y)) is

pub kind_out : (e : Expr) (x : Expr-F Expr Link) → out-Expr e ≡ x → kind_of e ≡ kind_step (map-Expr Expr Link SqlType SqlType kind_of link_kind x)
kind_out e x is =
    fold_out-Expr SqlType SqlType kind_step link_kind_step e ∙ ap (λ y. kind_step (map-Expr Expr Link SqlType SqlType kind_of link_kind y)) is

link_value : (row : List Value) (link : Link) → link_meaning row link ≡ plain_link row link
link_value row link = fold_out-Link Meaning LinkMeaning (value_step row) link_step link

link_values : (row : List Value) (links : List Link) → map (link_meaning row) links ≡ map (plain_link row) links
link_values row [] = refl
link_values row (link ∷ links) = let e = link_value row link in let f = link_values row links in cc

pub link_kind_is : (link : Link) → link_kind link ≡ link.kind
link_kind_is link = fold_out-Link SqlType SqlType kind_step link_kind_step link

link_kinds : (links : List Link) → map link_kind links ≡ map (λ link. link.kind) links
link_kinds [] = refl
link_kinds (link ∷ links) = let e = link_kind_is link in let f = link_kinds links in cc

pub chain_value : (row : List Value) (e : Expr) (first : Expr) (links : List Link) → out-Expr e ≡ Expr-F.Chain first links
    → value_of row e ≡ chain_from (value_of row first) (map (plain_link row) links)
chain_value row e first links is = value_out row e (Expr-F.Chain first links) is ∙ ap (chain_from (value_of row first)) (link_values row links)

pub chain_kind : (e : Expr) (first : Expr) (links : List Link) → out-Expr e ≡ Expr-F.Chain first links
    → kind_of e ≡ last_kind (kind_of first) (map (λ link. link.kind) links)
chain_kind e first links is = kind_out e (Expr-F.Chain first links) is ∙ ap (last_kind (kind_of first)) (link_kinds links)

-- an amount is no truth and no text
pub amount_no_truth : (kind : SqlType) → IsAmount kind → kind ≡ Boolean → ⊥
amount_no_truth Boolean h is = h
amount_no_truth Integer h is = cc
amount_no_truth BigInt h is = cc
amount_no_truth HugeInt h is = cc
amount_no_truth (Decimal w s) h is = cc
amount_no_truth Date h is = cc
amount_no_truth Varchar h is = h

pub amount_no_text : (kind : SqlType) → IsAmount kind → IsText kind → ⊥
amount_no_text Boolean h is = h
amount_no_text Integer h is = cc
amount_no_text BigInt h is = cc
amount_no_text HugeInt h is = cc
amount_no_text (Decimal w s) h is = cc
amount_no_text Date h is = cc
amount_no_text Varchar h is = h

pub ready : (row : List Value) (kind : SqlType) (links : List Link)
    → AllLinks (λ e. FitsRow e row) links → AreLinks kind links → AreReady row kind links
ready row kind [] fit typed = tt
ready row kind (link ∷ links) fit typed = (fit.0, typed.0, ready row link.kind links fit.1 typed.1)

pub is_rolled : (e : Expr) (x : Expr-F Expr Link) → out-Expr e ≡ x → e ≡ roll-Expr x
is_rolled e x is = sym (roll-out-Expr e) ∙ ap roll-Expr is

-- a chain of amounts is an amount
pub chain_amount : (kind : SqlType) (links : List Link) → IsAmount kind → AreLinks kind links → IsAmount (last_kind kind (map (λ link. link.kind) links))
chain_amount kind [] n typed = n
chain_amount kind (link ∷ links) n typed =
    chain_amount link.kind links (linked_amount link.sign kind (kind_of link.right) link.kind typed.0) typed.1
