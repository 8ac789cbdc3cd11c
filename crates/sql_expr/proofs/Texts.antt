-- The values of expressions that are texts, node by node.
use Rattle.std.proofs.Common.{◌≡◌, ℕ, List, refl, sym, ap, ◌∙◌, subst, get_or}
use Rattle.std.specs.Prelude.{ℤ, pos, negsuc, Option, Ok}
use Rattle.ooc_types.specs.declared.value.Value.{Value}
use Rattle.ooc_types.specs.declared.value.Value.TheVariants.{Null, Truth, Number, Day, Text}
use Rattle.ooc_types.specs.declared.schema.SqlType.{SqlType}
use Rattle.ooc_types.specs.declared.schema.SqlType.TheVariants.{Boolean, Integer, BigInt, HugeInt, Decimal, Date, Varchar}
use Rattle.ooc_types.specs.Meets.{HasForm, IsNumberOf}
use Rattle.sql_expr.specs.declared.tree.Expr.{Expr}
use Rattle.sql_expr.specs.declared.tree.Link.{Link}
use Rattle.sql_expr.specs.declared.tree.Expr.TheOpen.{Expr-F}
use Rattle.sql_expr.specs.declared.tree.Expr.TheViews.{out-Expr}
use Rattle.sql_expr.specs.declared.tree.Expr.TheVariants.{rolls-Constant, rolls-Column}
use Rattle.sql_expr.specs.declared.tree.Expr.TheVariants as variant
use Rattle.sql_expr.specs.Meaning.{value_of}
use Rattle.sql_expr.specs.Kinds.{kind_of}
use Rattle.sql_expr.specs.Outcomes.{text_value, bytes_in}
use Rattle.sql_expr.specs.Operations.{IsText, family}
use Rattle.sql_expr.specs.Typing.{FitsRow, IsNumberLiteral, IsLiteral}
use Rattle.sql_expr.proofs.Opened.{opened, meets_at}
use Rattle.sql_expr.proofs.Nodes.{value_out, kind_out, chain_kind, amount_no_text, chain_amount, is_rolled}
use Rattle.sql_expr.proofs.Linked.{numeric_is_amount}
use Rattle.sql_expr.proofs.Amounts.{get_or_same}

no_number : (kind : SqlType) (a : ℤ) (m : ℕ) → IsNumberOf kind a m → IsText kind → ⊥
no_number Boolean a m h is = h
no_number Integer a m h is = cc
no_number BigInt a m h is = cc
no_number HugeInt a m h is = cc
no_number (Decimal w s) a m h is = cc
no_number Date a m h is = h
no_number Varchar a m h is = h

text_form : (limit : ℕ) (kind : SqlType) (v : Value) → HasForm limit kind v → IsText kind → v ≡ text_value (bytes_in v)
text_form limit kind Null form is = refl
text_form limit kind (Truth b) form is = let e = ap family form in cc
text_form limit kind (Number a m) form is = absurd (no_number kind a m form is)
text_form limit kind (Day d) form is = let e = ap family form.0 in cc
text_form limit kind (Text bytes) form is = refl

no_literal : (kind : SqlType) (n m : ℕ) → IsNumberLiteral kind n m → IsText kind → ⊥
no_literal Boolean n m h is = h
no_literal Integer n m h is = cc
no_literal BigInt n m h is = cc
no_literal HugeInt n m h is = cc
no_literal (Decimal w s) n m h is = cc
no_literal Date n m h is = h
no_literal Varchar n m h is = h

text_literal : (kind : SqlType) (v : Value) → IsLiteral kind v → IsText kind → v ≡ text_value (bytes_in v)
text_literal kind Null form is = absurd form
text_literal kind (Truth b) form is = let e = ap family form in cc
text_literal kind (Number (pos n) m) form is = absurd (no_literal kind n m form is)
text_literal kind (Number (negsuc n) m) form is = absurd form
text_literal kind (Day d) form is = let e = ap family form.0 in cc
text_literal kind (Text bytes) form is = refl

pub constant_text : (row : List Value) (e : Expr) (v : Value) (kind : SqlType) (o : Option (List ℕ)) → FitsRow e row → IsText (kind_of e)
    → out-Expr e ≡ Expr-F.Constant v kind → o ≡ bytes_in v → value_of row e ≡ Ok (text_value o)
constant_text row e v kind o fits text is same =
    let n = opened row e (Expr-F.Constant v kind) fits is in
    let k = kind_out e (Expr-F.Constant v kind) is in
    let w = text_literal kind v n.node (subst IsText k text) in
    rw (value_out row e (Expr-F.Constant v kind) is, same) (ap Ok w)

pub column_text : (row : List Value) (e : Expr) (place : ℕ) (kind : SqlType) (v : Value) (o : Option (List ℕ)) → FitsRow e row → IsText (kind_of e)
    → out-Expr e ≡ Expr-F.Column place kind → v ≡ get_or row place v → o ≡ bytes_in v → value_of row e ≡ Ok (text_value o)
column_text row e place kind v o fits text is read same =
    let n = opened row e (Expr-F.Column place kind) fits is in
    let k = kind_out e (Expr-F.Column place kind) is in
    let at = meets_at (HasForm n.limit) n.columns row place kind n.meets n.node in
    let w = text_form n.limit kind (get_or row place Null) at.form (subst IsText k text) in
    let there = get_or_same row place v Null at.within read in
    rw (value_out row e (Expr-F.Column place kind) is, same, there) (ap Ok w)

text_node : (row : List Value) (e : Expr) (x : Expr-F Expr Link) → FitsRow e row → IsText (kind_of e) → out-Expr e ≡ x
    → ((v : Value) (k : SqlType) → e ≡ variant.Constant v k → ⊥) → ((p : ℕ) (k : SqlType) → e ≡ variant.Column p k → ⊥) → ⊥
text_node row e (Expr-F.Constant v k) fits text is a b = a v k (is_rolled e (Expr-F.Constant v k) is ∙ rolls-Constant v k)
text_node row e (Expr-F.Column p k) fits text is a b = b p k (is_rolled e (Expr-F.Column p k) is ∙ rolls-Column p k)
text_node row e (Expr-F.Not of) fits text is a b = let k = kind_out e (Expr-F.Not of) is in let f = ap family k in cc
text_node row e (Expr-F.Minus of kind) fits text is a b =
    let k = kind_out e (Expr-F.Minus of kind) is in
    let f = ap family k in
    absurd (amount_no_text kind (numeric_is_amount kind (opened row e (Expr-F.Minus of kind) fits is).node.0) (sym f ∙ text))
text_node row e (Expr-F.Every list) fits text is a b = let k = kind_out e (Expr-F.Every list) is in let f = ap family k in cc
text_node row e (Expr-F.Either list) fits text is a b = let k = kind_out e (Expr-F.Either list) is in let f = ap family k in cc
text_node row e (Expr-F.Chain first links) fits text is a b =
    let f = ap family (chain_kind e first links is) in
    let n = opened row e (Expr-F.Chain first links) fits is in
    absurd (amount_no_text _ (chain_amount (kind_of first) links n.node.0 n.node.1) (sym f ∙ text))
text_node row e (Expr-F.Compare sign left right) fits text is a b = let k = kind_out e (Expr-F.Compare sign left right) is in let f = ap family k in cc
text_node row e (Expr-F.IsNull of negated) fits text is a b = let k = kind_out e (Expr-F.IsNull of negated) is in let f = ap family k in cc
text_node row e (Expr-F.Like of pattern negated) fits text is a b = let k = kind_out e (Expr-F.Like of pattern negated) is in let f = ap family k in cc
text_node row e (Expr-F.OneOf of list negated) fits text is a b = let k = kind_out e (Expr-F.OneOf of list negated) is in let f = ap family k in cc
text_node row e (Expr-F.Between of low high negated) fits text is a b = let k = kind_out e (Expr-F.Between of low high negated) is in let f = ap family k in cc

-- no other node is a text
pub other_text : (row : List Value) (e : Expr) → FitsRow e row → IsText (kind_of e)
    → ((v : Value) (k : SqlType) → e ≡ variant.Constant v k → ⊥) → ((p : ℕ) (k : SqlType) → e ≡ variant.Column p k → ⊥) → ⊥
other_text row e fits text a b = text_node row e (out-Expr e) fits text refl a b
