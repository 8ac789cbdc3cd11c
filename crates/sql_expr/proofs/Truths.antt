-- The values of expressions that are BOOLEAN, node by node.
use Rattle.std.proofs.Common.{◌≡◌, ℕ, Bool, true, false, List, [], ◌∷◌, refl, sym, ap, ◌∙◌, subst, get_or}
use Rattle.std.specs.Prelude.{pos, negsuc, Ok}
use Rattle.std.specs.List.{AllByRecursion}
use Rattle.ooc_types.specs.declared.truth.Truth.{Truth as Ternary}
use Rattle.ooc_types.specs.declared.value.Value.{Value}
use Rattle.ooc_types.specs.declared.value.Value.TheVariants.{Null, Truth, Number, Day, Text}
use Rattle.ooc_types.specs.declared.schema.SqlType.{SqlType}
use Rattle.ooc_types.specs.declared.schema.SqlType.TheVariants.{Boolean}
use Rattle.ooc_types.specs.Meets.{HasForm}
use Rattle.sql_expr.specs.declared.tree.CompareSign.{CompareSign}
use Rattle.sql_expr.specs.declared.tree.Expr.{Expr}
use Rattle.sql_expr.specs.declared.tree.Link.{Link}
use Rattle.sql_expr.specs.declared.tree.Expr.TheOpen.{Expr-F}
use Rattle.sql_expr.specs.declared.tree.Expr.TheViews.{out-Expr}
use Rattle.sql_expr.specs.Logic.{truth_value, truth_in}
use Rattle.sql_expr.specs.Meaning.{value_of}
use Rattle.sql_expr.specs.Kinds.{kind_of}
use Rattle.sql_expr.specs.Ready.{AreConditions, AreComparable}
use Rattle.sql_expr.specs.Operations.{IsText, IsComparable, family}
use Rattle.sql_expr.specs.Typing.{FitsRow, IsLiteral}
use Rattle.sql_expr.proofs.Opened.{opened, meets_at, AllOf}
use Rattle.sql_expr.proofs.Nodes.{value_out, kind_out, chain_kind, chain_amount, amount_no_truth}
use Rattle.sql_expr.proofs.Linked.{numeric_is_amount}
use Rattle.sql_expr.proofs.Amounts.{get_or_same}

truth_form : (limit : ℕ) (v : Value) → HasForm limit Boolean v → v ≡ truth_value (truth_in v)
truth_form limit Null form = refl
truth_form limit (Truth true) form = refl
truth_form limit (Truth false) form = refl
truth_form limit (Number a m) form = absurd form
truth_form limit (Day d) form = let e = form.0 in cc
truth_form limit (Text bytes) form = let e = form.0 in cc

truth_literal : (v : Value) → IsLiteral Boolean v → v ≡ truth_value (truth_in v)
truth_literal Null form = absurd form
truth_literal (Truth true) form = refl
truth_literal (Truth false) form = refl
truth_literal (Number (pos n) m) form = absurd form
truth_literal (Number (negsuc n) m) form = absurd form
truth_literal (Day d) form = let e = form.0 in cc
truth_literal (Text bytes) form = cc

pub constant_truth : (row : List Value) (e : Expr) (v : Value) (kind : SqlType) (t : Ternary) → FitsRow e row → kind_of e ≡ Boolean
    → out-Expr e ≡ Expr-F.Constant v kind → t ≡ truth_in v → value_of row e ≡ Ok (truth_value t)
constant_truth row e v kind t fits condition is same =
    let n = opened row e (Expr-F.Constant v kind) fits is in
    let k = sym (kind_out e (Expr-F.Constant v kind) is) ∙ condition in
    let w = truth_literal v (subst (λ (x : SqlType). IsLiteral x v) k n.node) in
    rw (value_out row e (Expr-F.Constant v kind) is, same) (ap Ok w)

pub column_truth : (row : List Value) (e : Expr) (place : ℕ) (kind : SqlType) (v : Value) (t : Ternary) → FitsRow e row → kind_of e ≡ Boolean
    → out-Expr e ≡ Expr-F.Column place kind → v ≡ get_or row place v → t ≡ truth_in v → value_of row e ≡ Ok (truth_value t)
column_truth row e place kind v t fits condition is read same =
    let n = opened row e (Expr-F.Column place kind) fits is in
    let k = sym (kind_out e (Expr-F.Column place kind) is) ∙ condition in
    let at = meets_at (HasForm n.limit) n.columns row place kind n.meets n.node in
    let w = truth_form n.limit (get_or row place Null) (subst (λ (x : SqlType). HasForm n.limit x (get_or row place Null)) k at.form) in
    let there = get_or_same row place v Null at.within read in
    rw (value_out row e (Expr-F.Column place kind) is, same, there) (ap Ok w)

pub minus_is_amount : (row : List Value) (e of : Expr) (kind : SqlType) → FitsRow e row → kind_of e ≡ Boolean → out-Expr e ≡ Expr-F.Minus of kind → ⊥
minus_is_amount row e of kind fits condition is =
    amount_no_truth kind (numeric_is_amount kind (opened row e (Expr-F.Minus of kind) fits is).node.0) (sym (kind_out e (Expr-F.Minus of kind) is) ∙ condition)

pub chain_is_amount : (row : List Value) (e first : Expr) (links : List Link) → FitsRow e row → kind_of e ≡ Boolean → out-Expr e ≡ Expr-F.Chain first links → ⊥
chain_is_amount row e first links fits condition is =
    let n = (opened row e (Expr-F.Chain first links) fits is).node in
    amount_no_truth _ (chain_amount (kind_of first) links n.0 n.1) (sym (chain_kind e first links is) ∙ condition)

pub not_operand : (row : List Value) (e of got : Expr) → FitsRow e row → out-Expr e ≡ Expr-F.Not of → got ≡ of → FitsRow got row × (kind_of got ≡ Boolean)
not_operand row e of got fits is same =
    let n = opened row e (Expr-F.Not of) fits is in
    subst (λ (g : Expr). FitsRow g row × (kind_of g ≡ Boolean)) (sym same) (n.children, n.node)

conditions : (row : List Value) (list : List Expr) → AllOf (λ e. FitsRow e row) list → AllByRecursion (λ e. kind_of e ≡ Boolean) list → AreConditions row list
conditions row [] fit typed = tt
conditions row (e ∷ list) fit typed = (fit.0, typed.0, conditions row list fit.1 typed.1)

comparables : (row : List Value) (kind : SqlType) (list : List Expr) → AllOf (λ e. FitsRow e row) list
    → AllByRecursion (λ e. IsComparable kind (kind_of e)) list → AreComparable row kind list
comparables row kind [] fit typed = tt
comparables row kind (e ∷ list) fit typed = (fit.0, typed.0, comparables row kind list fit.1 typed.1)

pub every_operands : (row : List Value) (e : Expr) (list ls : List Expr) → FitsRow e row → out-Expr e ≡ Expr-F.Every list → ls ≡ list → AreConditions row ls
every_operands row e list ls fits is same =
    let n = opened row e (Expr-F.Every list) fits is in
    subst (AreConditions row) (sym same) (conditions row list n.children n.node)

pub either_operands : (row : List Value) (e : Expr) (list ls : List Expr) → FitsRow e row → out-Expr e ≡ Expr-F.Either list → ls ≡ list → AreConditions row ls
either_operands row e list ls fits is same =
    let n = opened row e (Expr-F.Either list) fits is in
    subst (AreConditions row) (sym same) (conditions row list n.children n.node)

pub record Compared (row : List Value) (left right : Expr) : Type 0 where
  pub left_fits : FitsRow left row
  pub right_fits : FitsRow right row
  pub comparable : IsComparable (kind_of left) (kind_of right)

pub compare_operands : (row : List Value) (e left right l r : Expr) (sign : CompareSign) → FitsRow e row → out-Expr e ≡ Expr-F.Compare sign left right
    → l ≡ left → r ≡ right → Compared row l r
compare_operands row e left right l r sign fits is at_l at_r =
    let n = opened row e (Expr-F.Compare sign left right) fits is in
    subst (λ (x : Expr). Compared row x r) (sym at_l) (subst (λ (y : Expr). Compared row left y) (sym at_r)
    (record { left_fits = n.children.0; right_fits = n.children.1; comparable = n.node }))

pub null_operand : (row : List Value) (e of got : Expr) (negated : Bool) → FitsRow e row → out-Expr e ≡ Expr-F.IsNull of negated → got ≡ of → FitsRow got row
null_operand row e of got negated fits is same =
    let n = opened row e (Expr-F.IsNull of negated) fits is in
    subst (λ (g : Expr). FitsRow g row) (sym same) n.children

pub like_operand : (row : List Value) (e of got : Expr) (pattern : List ℕ) (negated : Bool) → FitsRow e row → out-Expr e ≡ Expr-F.Like of pattern negated
    → got ≡ of → FitsRow got row × IsText (kind_of got)
like_operand row e of got pattern negated fits is same =
    let n = opened row e (Expr-F.Like of pattern negated) fits is in
    subst (λ (g : Expr). FitsRow g row × IsText (kind_of g)) (sym same) (n.children, ap family n.node)

pub one_of_operands : (row : List Value) (e of got : Expr) (list ls : List Expr) (negated : Bool) → FitsRow e row → out-Expr e ≡ Expr-F.OneOf of list negated
    → got ≡ of → ls ≡ list → FitsRow got row × AreComparable row (kind_of got) ls
one_of_operands row e of got list ls negated fits is same lists =
    let n = opened row e (Expr-F.OneOf of list negated) fits is in
    subst (λ (g : Expr). FitsRow g row × AreComparable row (kind_of g) ls) (sym same)
    (subst (λ (x : List Expr). FitsRow of row × AreComparable row (kind_of of) x) (sym lists) (n.children.0, comparables row (kind_of of) list n.children.1 n.node))

pub record Between (row : List Value) (of low high : Expr) : Type 0 where
  pub fits : FitsRow of row
  pub low_fits : FitsRow low row
  pub low_comparable : IsComparable (kind_of of) (kind_of low)
  pub high_fits : FitsRow high row
  pub high_comparable : IsComparable (kind_of of) (kind_of high)

pub between_operands : (row : List Value) (e of low high o l h : Expr) (negated : Bool) → FitsRow e row → out-Expr e ≡ Expr-F.Between of low high negated
    → o ≡ of → l ≡ low → h ≡ high → Between row o l h
between_operands row e of low high o l h negated fits is at_o at_l at_h =
    let n = opened row e (Expr-F.Between of low high negated) fits is in
    subst (λ (x : Expr). Between row x l h) (sym at_o) (subst (λ (x : Expr). Between row of x h) (sym at_l) (subst (λ (x : Expr). Between row of low x) (sym at_h)
    (record { fits = n.children.0; low_fits = n.children.1; low_comparable = n.node.0; high_fits = n.children.2; high_comparable = n.node.1 })))
