-- The values of expressions that are amounts, node by node.
use Rattle.std.proofs.Common.{◌≡◌, ℕ, zero, suc, ◌<◌, arith, List, [], ◌∷◌, map, sym, ap, ◌∙◌, subst, get_or, length}
use Rattle.std.specs.Prelude.{ℤ, Option, Result, Ok}
use Rattle.ooc_types.specs.declared.value.Value.{Value}
use Rattle.ooc_types.specs.declared.value.Value.TheVariants.{Null}
use Rattle.ooc_types.specs.declared.schema.SqlType.{SqlType}
use Rattle.ooc_decimal.specs.Numeric.{IsNumeric}
use Rattle.sql_expr.specs.declared.fault.ValueFault.{ValueFault}
use Rattle.ooc_types.specs.Meets.{HasForm}
use Rattle.sql_expr.specs.declared.tree.Expr.{Expr}
use Rattle.sql_expr.specs.declared.tree.Link.{Link}
use Rattle.sql_expr.specs.declared.tree.Expr.TheOpen.{Expr-F}
use Rattle.sql_expr.specs.declared.tree.Expr.TheViews.{out-Expr}
use Rattle.sql_expr.specs.Meaning.{value_of, then_value, chain_from, plain_link}
use Rattle.sql_expr.specs.Arithmetic.{Meaning, opposite}
use Rattle.sql_expr.specs.Kinds.{kind_of, last_kind}
use Rattle.sql_expr.specs.Outcomes.{amount_value, amount_meaning, digits_of}
use Rattle.sql_expr.specs.Operations.{IsAmount}
use Rattle.sql_expr.specs.Typing.{FitsRow}
use Rattle.sql_expr.specs.Ready.{AreReady}
use Rattle.sql_expr.proofs.Opened.{opened, meets_at}
use Rattle.sql_expr.proofs.Nodes.{value_out, kind_out, chain_value, chain_kind, ready}
use Rattle.sql_expr.proofs.Linked.{numeric_is_amount}
use Rattle.sql_expr.proofs.Forms.{amount_form, amount_literal}

pub minus_kind : (row : List Value) (e of : Expr) (kind : SqlType) → FitsRow e row → out-Expr e ≡ Expr-F.Minus of kind → IsNumeric kind
minus_kind row e of kind fits is = (opened row e (Expr-F.Minus of kind) fits is).node.0

pub minus_operand : (row : List Value) (e of got : Expr) (kind : SqlType) → FitsRow e row → out-Expr e ≡ Expr-F.Minus of kind → got ≡ of
    → FitsRow got row × IsAmount (kind_of got)
minus_operand row e of got kind fits is same =
    let n = opened row e (Expr-F.Minus of kind) fits is in
    subst (λ (g : Expr). FitsRow g row × IsAmount (kind_of g)) (sym same) (n.children, subst IsAmount (sym n.node.1) (numeric_is_amount kind n.node.0))

pub chain_first : (row : List Value) (e first got : Expr) (links : List Link) → FitsRow e row → out-Expr e ≡ Expr-F.Chain first links → got ≡ first
    → FitsRow got row × IsAmount (kind_of got)
chain_first row e first got links fits is same =
    let n = opened row e (Expr-F.Chain first links) fits is in
    subst (λ (g : Expr). FitsRow g row × IsAmount (kind_of g)) (sym same) (n.children.0, n.node.0)

pub chain_links : (row : List Value) (e first : Expr) (links ls : List Link) (kind : SqlType) → FitsRow e row
    → out-Expr e ≡ Expr-F.Chain first links → kind ≡ kind_of first → ls ≡ links → AreReady row kind ls
chain_links row e first links ls kind fits is kinds same =
    let n = opened row e (Expr-F.Chain first links) fits is in
    let all = ready row (kind_of first) links n.children.1 n.node.1 in
    subst (λ (k : SqlType). AreReady row k ls) (sym kinds) (subst (λ (x : List Link). AreReady row (kind_of first) x) (sym same) all)

pub constant_value : (row : List Value) (e : Expr) (v : Value) (kind : SqlType) (o : Option ℤ) → FitsRow e row → IsAmount (kind_of e)
    → out-Expr e ≡ Expr-F.Constant v kind → o ≡ digits_of v → value_of row e ≡ Ok (amount_value (kind_of e) o)
constant_value row e v kind o fits amount is same =
    let n = opened row e (Expr-F.Constant v kind) fits is in
    let k = kind_out e (Expr-F.Constant v kind) is in
    let w = amount_literal kind v n.node (subst IsAmount k amount) in
    rw (value_out row e (Expr-F.Constant v kind) is, k, same) (ap Ok w)

-- an element that was read is the list's, also beside another default
pub get_or_same : (row : List Value) (place : ℕ) (v d : Value) → place < length row → v ≡ get_or row place v → v ≡ get_or row place d
get_or_same [] place v d h e = absurd (omega arith)
get_or_same (w ∷ row) zero v d h e = e
get_or_same (w ∷ row) (suc place) v d h e = get_or_same row place v d (omega arith) e

pub column_within : (row : List Value) (e : Expr) (place : ℕ) (kind : SqlType) → FitsRow e row → out-Expr e ≡ Expr-F.Column place kind → place < length row
column_within row e place kind fits is =
    let n = opened row e (Expr-F.Column place kind) fits is in
    (meets_at (HasForm n.limit) n.columns row place kind n.meets n.node).within

pub column_value : (row : List Value) (e : Expr) (place : ℕ) (kind : SqlType) (v : Value) (o : Option ℤ) → FitsRow e row → IsAmount (kind_of e)
    → out-Expr e ≡ Expr-F.Column place kind → v ≡ get_or row place v → o ≡ digits_of v → value_of row e ≡ Ok (amount_value (kind_of e) o)
column_value row e place kind v o fits amount is read same =
    let n = opened row e (Expr-F.Column place kind) fits is in
    let k = kind_out e (Expr-F.Column place kind) is in
    let at = meets_at (HasForm n.limit) n.columns row place kind n.meets n.node in
    let w = amount_form n.limit kind (get_or row place Null) at.form (subst IsAmount k amount) in
    let there = get_or_same row place v Null at.within read in
    rw (value_out row e (Expr-F.Column place kind) is, k, same, there) (ap Ok w)

pub chain_result : (row : List Value) (e got first : Expr) (links ls : List Link) (kind : SqlType) (left : Option ℤ) (r : Result (Option ℤ) ValueFault)
    → out-Expr e ≡ Expr-F.Chain first links → got ≡ first → kind ≡ kind_of first → ls ≡ links
    → value_of row got ≡ Ok (amount_value (kind_of got) left)
    → chain_from (Ok (amount_value kind left)) (map (plain_link row) ls) ≡ amount_meaning (last_kind kind (map (λ link. link.kind) ls)) r
    → value_of row e ≡ amount_meaning (kind_of e) r
chain_result row e got first links ls kind left r is at kinds same value chain =
    let v : value_of row first ≡ Ok (amount_value (kind_of first) left) =
    subst (λ (g : Expr). value_of row g ≡ Ok (amount_value (kind_of g) left)) at value in
    let c = subst (λ (k : SqlType). chain_from (Ok (amount_value k left)) (map (plain_link row) ls) ≡ amount_meaning (last_kind k (map (λ link. link.kind) ls)) r) kinds chain in
    let d = subst (λ (x : List Link). chain_from (Ok (amount_value (kind_of first) left)) (map (plain_link row) x) ≡ amount_meaning (last_kind (kind_of first) (map (λ link. link.kind) x)) r) same c in
    rw (chain_value row e first links is, chain_kind e first links is, v) d

pub minus_result : (row : List Value) (e of got : Expr) (kind : SqlType) (number : Option ℤ) (r : Result (Option ℤ) ValueFault) → FitsRow e row
    → out-Expr e ≡ Expr-F.Minus of kind → got ≡ of → value_of row got ≡ Ok (amount_value (kind_of got) number)
    → opposite kind (amount_value kind number) ≡ amount_meaning kind r → value_of row e ≡ amount_meaning (kind_of e) r
minus_result row e of got kind number r fits is same value negated =
    let n = opened row e (Expr-F.Minus of kind) fits is in
    let k : kind_of got ≡ kind = ap kind_of same ∙ n.node.1 in
    let v : value_of row of ≡ Ok (amount_value kind number) =
    sym (ap (value_of row) same) ∙ value ∙ ap (λ (x : SqlType). Ok (amount_value x number)) k in
    value_out row e (Expr-F.Minus of kind) is ∙ ap (λ (m : Meaning). then_value m (opposite kind)) v ∙ negated
    ∙ ap (λ (x : SqlType). amount_meaning x r) (sym (kind_out e (Expr-F.Minus of kind) is))
