-- Plain conditions have values over every row, also one that doesn't meet their columns.
use Rattle.std.proofs.Common.{◌≡◌, ℕ, zero, suc, ◌<◌, ◌^◌, Bool, true, false, cond, ◌&&◌, nat_lt, List, [], ◌∷◌, map, refl, sym, ap, ◌∙◌, subst, arith, rules}
use Rattle.std.specs.Prelude.{pos, negsuc, neg_ℤ, Ok, Err, ⊤, IsTrue}
use Rattle.std.proofs.lemmas.Bool.Decides.{Decides-ltb}
use Rattle.ooc_types.specs.declared.truth.Truth.{Truth as Ternary}
use Rattle.ooc_types.specs.declared.truth.Truth.TheVariants.{Yes, No, Unknown}
use Rattle.ooc_types.specs.declared.value.Value.{Value}
use Rattle.ooc_types.specs.declared.value.Value.TheVariants.{Null, Truth, Number, Day, Text}
use Rattle.ooc_types.specs.declared.schema.SqlType.{SqlType}
use Rattle.ooc_types.specs.declared.schema.SqlType.TheVariants.{Boolean, Integer, BigInt, HugeInt, Decimal, Date, Varchar}
use Rattle.sql_expr.specs.declared.fault.ValueFault.TheVariants.{Overflow}
use Rattle.sql_expr.specs.declared.tree.CompareSign.{CompareSign}
use Rattle.sql_expr.specs.declared.tree.CompareSign.TheVariants.{Equal, AtLeast, AtMost}
use Rattle.sql_expr.specs.declared.tree.Expr.{Expr}
use Rattle.sql_expr.specs.declared.tree.Link.{Link}
use Rattle.sql_expr.specs.declared.tree.Expr.TheOpen.{Expr-F, Link-F}
use Rattle.sql_expr.specs.declared.tree.Expr.TheFolds.{fold_out-Expr, ind-Expr, map-Expr}
use Rattle.sql_expr.specs.declared.tree.Expr.TheViews.{out-Expr, roll-Expr, out-roll-Expr}
use Rattle.sql_expr.specs.Arithmetic.{Meaning, amount, opposite, is_in_range}
use Rattle.sql_expr.specs.Meaning.{value_of, then_value, comparison, every_from, either_from, and_behind, or_behind, one_of, between}
use Rattle.sql_expr.specs.Logic.{truth_in}
use Rattle.sql_expr.specs.Plain.{Plainness, plainness, plain_step, link_plainness, link_plain_step, all_operands, all_conditions, IsFaultless}
use Rattle.sql_expr.specs.Typing.{IsTyped, IsLiteral, IsNumberLiteral, integer_type}
use Rattle.sql_expr.proofs.Opened.{opened_typed, AllOf, Children, children_hold}
use Rattle.sql_expr.proofs.Nodes.{value_out, kind_out}

and_left : (a b : Bool) → (a && b) ≡ true → a ≡ true
and_left true b h = refl
and_left false b h = h

and_right : (a b : Bool) → (a && b) ≡ true → b ≡ true
and_right true b h = h
and_right false b h = cc

-- a literal with a minus is in the range of its type
pub small_integer : (n : ℕ) → integer_type n ≡ Integer → n < 2 ^ 31
small_integer n =
    elim (nat_lt n (2 ^ 31)) as (λ b. nat_lt n (2 ^ 31) ≡ b → cond b Integer (cond (nat_lt n (2 ^ 63)) BigInt HugeInt) ≡ Integer → n < 2 ^ 31) [
      | true ↦ λ h e. (Decides-ltb n (2 ^ 31)).0 h
      | false ↦ λ h. elim (nat_lt n (2 ^ 63)) as (λ b. cond b BigInt HugeInt ≡ Integer → n < 2 ^ 31) [ true ↦ λ e. cc | false ↦ λ e. cc ]
    ] refl

pub small_bigint : (n : ℕ) → integer_type n ≡ BigInt → n < 2 ^ 63
small_bigint n =
    elim (nat_lt n (2 ^ 31)) as (λ b. cond b Integer (cond (nat_lt n (2 ^ 63)) BigInt HugeInt) ≡ BigInt → n < 2 ^ 63) [
      | true ↦ λ e. cc
      | false ↦ elim (nat_lt n (2 ^ 63)) as (λ b. nat_lt n (2 ^ 63) ≡ b → cond b BigInt HugeInt ≡ BigInt → n < 2 ^ 63) [
        | true ↦ λ h e. (Decides-ltb n (2 ^ 63)).0 h
        | false ↦ λ h e. cc
      ] refl
    ]

opposite_in_range : (kind : SqlType) (n m : ℕ) → IsNumberLiteral kind n m → is_in_range kind (neg_ℤ (pos n)) ≡ true
unfolding is_in_range
opposite_in_range Boolean n m h = absurd h
opposite_in_range Date n m h = absurd h
opposite_in_range Varchar n m h = absurd h
opposite_in_range Integer zero m h = refl
opposite_in_range Integer (suc n) m h = let small = small_integer (suc n) h.1 in (Decides-ltb n (2 ^ 31)).1 (omega arith)
opposite_in_range BigInt zero m h = refl
opposite_in_range BigInt (suc n) m h = let small = small_bigint (suc n) h.1 in (Decides-ltb n (2 ^ 63)).1 (omega arith)
opposite_in_range HugeInt zero m h = refl
opposite_in_range HugeInt (suc n) m h = let small = h.2 in (Decides-ltb n (2 ^ 127)).1 (omega arith)
opposite_in_range (Decimal w s) zero m h = (Decides-ltb 0 (10 ^ w)).1 h.1.small
opposite_in_range (Decimal w s) (suc n) m h = (Decides-ltb (suc n) (10 ^ w)).1 h.1.small

opposite_faultless : (kind : SqlType) (v : Value) → IsLiteral kind v → IsFaultless (opposite kind v)
opposite_faultless kind Null h = absurd h
opposite_faultless kind (Truth truth) h = tt
opposite_faultless kind (Number (pos n) m) h =
    subst (λ (b : Bool). IsFaultless (cond b (Ok (amount kind (neg_ℤ (pos n)))) (Err Overflow))) (sym (opposite_in_range kind n m h)) tt
opposite_faultless kind (Number (negsuc n) m) h = absurd h
opposite_faultless kind (Day d) h = tt
opposite_faultless kind (Text bytes) h = tt

then_faultless : (m : Meaning) (f : Value → Meaning) → IsFaultless m → ((v : Value) → IsFaultless (f v)) → IsFaultless (then_value m f)
then_faultless (Err fault) f h g = absurd h
then_faultless (Ok v) f h g = g v

plain_out : (e : Expr) (x : Expr-F Expr Link) → out-Expr e ≡ x → plainness e ≡ plain_step (map-Expr Expr Link Plainness Plainness plainness link_plainness x)
plain_out e x is =
    fold_out-Expr Plainness Plainness plain_step link_plain_step e
    ∙ ap (λ y. plain_step (map-Expr Expr Link Plainness Plainness plainness link_plainness y)) is

-- the value of a column or a constant
literal_node : (columns : List SqlType) (row : List Value) (e of : Expr) (kind : SqlType) (x : Expr-F Expr Link) → IsTyped columns e → out-Expr e ≡ Expr-F.Minus of kind → out-Expr of ≡ x
    → (plainness of).literal ≡ true → IsFaultless (then_value (value_of row of) (opposite kind))
literal_node columns row e of kind (Expr-F.Constant v k) fits is at literal =
    let n = opened_typed columns e (Expr-F.Minus of kind) fits is in
    let m = (opened_typed columns of (Expr-F.Constant v k) n.children at).node in
    let same : k ≡ kind = sym (kind_out of (Expr-F.Constant v k) at) ∙ n.node.1 in
    subst (λ (m : Meaning). IsFaultless (then_value m (opposite kind))) (sym (value_out row of (Expr-F.Constant v k) at))
    (opposite_faultless kind v (subst (λ (t : SqlType). IsLiteral t v) same m))
literal_node columns row e of kind (Expr-F.Column place k) fits is at literal =
    let no : true ≡ false = sym literal ∙ ap (λ (p : Plainness). p.literal) (plain_out of (Expr-F.Column place k) at) in cc
literal_node columns row e of kind (Expr-F.Not x) fits is at literal =
    let no : true ≡ false = sym literal ∙ ap (λ (p : Plainness). p.literal) (plain_out of (Expr-F.Not x) at) in cc
literal_node columns row e of kind (Expr-F.Minus x k) fits is at literal =
    let no : true ≡ false = sym literal ∙ ap (λ (p : Plainness). p.literal) (plain_out of (Expr-F.Minus x k) at) in cc
literal_node columns row e of kind (Expr-F.Every list) fits is at literal =
    let no : true ≡ false = sym literal ∙ ap (λ (p : Plainness). p.literal) (plain_out of (Expr-F.Every list) at) in cc
literal_node columns row e of kind (Expr-F.Either list) fits is at literal =
    let no : true ≡ false = sym literal ∙ ap (λ (p : Plainness). p.literal) (plain_out of (Expr-F.Either list) at) in cc
literal_node columns row e of kind (Expr-F.Chain first links) fits is at literal =
    let no : true ≡ false = sym literal ∙ ap (λ (p : Plainness). p.literal) (plain_out of (Expr-F.Chain first links) at) in cc
literal_node columns row e of kind (Expr-F.Compare sign left right) fits is at literal =
    let no : true ≡ false = sym literal ∙ ap (λ (p : Plainness). p.literal) (plain_out of (Expr-F.Compare sign left right) at) in cc
literal_node columns row e of kind (Expr-F.IsNull x negated) fits is at literal =
    let no : true ≡ false = sym literal ∙ ap (λ (p : Plainness). p.literal) (plain_out of (Expr-F.IsNull x negated) at) in cc
literal_node columns row e of kind (Expr-F.Like x pattern negated) fits is at literal =
    let no : true ≡ false = sym literal ∙ ap (λ (p : Plainness). p.literal) (plain_out of (Expr-F.Like x pattern negated) at) in cc
literal_node columns row e of kind (Expr-F.OneOf x list negated) fits is at literal =
    let no : true ≡ false = sym literal ∙ ap (λ (p : Plainness). p.literal) (plain_out of (Expr-F.OneOf x list negated) at) in cc
literal_node columns row e of kind (Expr-F.Between x low high negated) fits is at literal =
    let no : true ≡ false = sym literal ∙ ap (λ (p : Plainness). p.literal) (plain_out of (Expr-F.Between x low high negated) at) in cc

operand_node : (columns : List SqlType) (row : List Value) (e : Expr) (x : Expr-F Expr Link) → IsTyped columns e → out-Expr e ≡ x → (plainness e).operand ≡ true → IsFaultless (value_of row e)
operand_node columns row e (Expr-F.Constant v k) fits is operand = subst IsFaultless (sym (value_out row e (Expr-F.Constant v k) is)) tt
operand_node columns row e (Expr-F.Column place k) fits is operand = subst IsFaultless (sym (value_out row e (Expr-F.Column place k) is)) tt
operand_node columns row e (Expr-F.Minus of kind) fits is operand =
    subst IsFaultless (sym (value_out row e (Expr-F.Minus of kind) is))
    (literal_node columns row e of kind (out-Expr of) fits is refl (sym (ap (λ (p : Plainness). p.operand) (plain_out e (Expr-F.Minus of kind) is)) ∙ operand))
operand_node columns row e (Expr-F.Not x) fits is operand =
    let no : true ≡ false = sym operand ∙ ap (λ (p : Plainness). p.operand) (plain_out e (Expr-F.Not x) is) in cc
operand_node columns row e (Expr-F.Every list) fits is operand =
    let no : true ≡ false = sym operand ∙ ap (λ (p : Plainness). p.operand) (plain_out e (Expr-F.Every list) is) in cc
operand_node columns row e (Expr-F.Either list) fits is operand =
    let no : true ≡ false = sym operand ∙ ap (λ (p : Plainness). p.operand) (plain_out e (Expr-F.Either list) is) in cc
operand_node columns row e (Expr-F.Chain first links) fits is operand =
    let no : true ≡ false = sym operand ∙ ap (λ (p : Plainness). p.operand) (plain_out e (Expr-F.Chain first links) is) in cc
operand_node columns row e (Expr-F.Compare sign left right) fits is operand =
    let no : true ≡ false = sym operand ∙ ap (λ (p : Plainness). p.operand) (plain_out e (Expr-F.Compare sign left right) is) in cc
operand_node columns row e (Expr-F.IsNull x negated) fits is operand =
    let no : true ≡ false = sym operand ∙ ap (λ (p : Plainness). p.operand) (plain_out e (Expr-F.IsNull x negated) is) in cc
operand_node columns row e (Expr-F.Like x pattern negated) fits is operand =
    let no : true ≡ false = sym operand ∙ ap (λ (p : Plainness). p.operand) (plain_out e (Expr-F.Like x pattern negated) is) in cc
operand_node columns row e (Expr-F.OneOf x list negated) fits is operand =
    let no : true ≡ false = sym operand ∙ ap (λ (p : Plainness). p.operand) (plain_out e (Expr-F.OneOf x list negated) is) in cc
operand_node columns row e (Expr-F.Between x low high negated) fits is operand =
    let no : true ≡ false = sym operand ∙ ap (λ (p : Plainness). p.operand) (plain_out e (Expr-F.Between x low high negated) is) in cc

operand_faultless : (columns : List SqlType) (row : List Value) (e : Expr) → IsTyped columns e → (plainness e).operand ≡ true → IsFaultless (value_of row e)
operand_faultless columns row e fits operand = operand_node columns row e (out-Expr e) fits refl operand

abbrev AllFaultless : List Meaning → Type 0
AllFaultless [] = ⊤
AllFaultless (m ∷ ms) = IsFaultless m × AllFaultless ms

and_faultless : (t : Ternary) (m : Meaning) → IsFaultless m → IsFaultless (and_behind t m)
and_faultless No m h = tt
and_faultless Yes m h = then_faultless m _ h (λ v. tt)
and_faultless Unknown m h = then_faultless m _ h (λ v. tt)

or_faultless : (t : Ternary) (m : Meaning) → IsFaultless m → IsFaultless (or_behind t m)
or_faultless Yes m h = tt
or_faultless No m h = then_faultless m _ h (λ v. tt)
or_faultless Unknown m h = then_faultless m _ h (λ v. tt)

every_faultless : (m : Meaning) (ms : List Meaning) → IsFaultless m → AllFaultless ms → IsFaultless (every_from m ms)
every_faultless (Err fault) ms h all = absurd h
every_faultless (Ok v) [] h all = tt
every_faultless (Ok v) (n ∷ ns) h all = every_faultless (and_behind (truth_in v) n) ns (and_faultless (truth_in v) n all.0) all.1

either_faultless : (m : Meaning) (ms : List Meaning) → IsFaultless m → AllFaultless ms → IsFaultless (either_from m ms)
either_faultless (Err fault) ms h all = absurd h
either_faultless (Ok v) [] h all = tt
either_faultless (Ok v) (n ∷ ns) h all = either_faultless (or_behind (truth_in v) n) ns (or_faultless (truth_in v) n all.0) all.1

comparison_faultless : (sign : CompareSign) (m n : Meaning) → IsFaultless m → IsFaultless n → IsFaultless (comparison sign m n)
comparison_faultless sign m n h g = then_faultless m _ h (λ v. then_faultless n _ g (λ w. tt))

abbrev HasValue : Expr → Type 0
HasValue e = (columns : List SqlType) (row : List Value) → IsTyped columns e → (plainness e).condition ≡ true → IsFaultless (value_of row e)

conditions_faultless : (columns : List SqlType) (row : List Value) (list : List Expr) → AllOf HasValue list → AllOf (IsTyped columns) list
    → all_conditions (map plainness list) ≡ true → AllFaultless (map (value_of row) list)
conditions_faultless columns row [] have fit plain = tt
conditions_faultless columns row (e ∷ list) have fit plain = (
  have.0 columns row fit.0 (and_left (plainness e).condition (all_conditions (map plainness list)) plain),
  conditions_faultless columns row list have.1 fit.1 (and_right (plainness e).condition (all_conditions (map plainness list)) plain),
)

constants_faultless : (columns : List SqlType) (row : List Value) (v : Value) (list : List Expr) → AllOf (IsTyped columns) list
    → all_operands (map plainness list) ≡ true → AllFaultless (map (comparison Equal (Ok v)) (map (value_of row) list))
constants_faultless columns row v [] fit plain = tt
constants_faultless columns row v (e ∷ list) fit plain = (
  comparison_faultless Equal (Ok v) (value_of row e) tt
      (operand_faultless columns row e fit.0 (and_left (plainness e).operand (all_operands (map plainness list)) plain)),
  constants_faultless columns row v list fit.1 (and_right (plainness e).operand (all_operands (map plainness list)) plain),
)

node_has_value : (e : Expr) (x : Expr-F Expr Link) → out-Expr e ≡ x → Children HasValue x → HasValue e
node_has_value e (Expr-F.Constant v k) is have columns row fits plain = subst IsFaultless (sym (value_out row e (Expr-F.Constant v k) is)) tt
node_has_value e (Expr-F.Column place k) is have columns row fits plain = subst IsFaultless (sym (value_out row e (Expr-F.Column place k) is)) tt
node_has_value e (Expr-F.Not of) is have columns row fits plain =
    let n = opened_typed columns e (Expr-F.Not of) fits is in
    let p = sym (ap (λ (p : Plainness). p.condition) (plain_out e (Expr-F.Not of) is)) ∙ plain in
    subst IsFaultless (sym (value_out row e (Expr-F.Not of) is)) (then_faultless (value_of row of) _ (have columns row n.children p) (λ v. tt))
node_has_value e (Expr-F.Minus of kind) is have columns row fits plain =
    let no : true ≡ false = sym plain ∙ ap (λ (p : Plainness). p.condition) (plain_out e (Expr-F.Minus of kind) is) in cc
node_has_value e (Expr-F.Every list) is have columns row fits plain =
    let n = opened_typed columns e (Expr-F.Every list) fits is in
    let p = sym (ap (λ (p : Plainness). p.condition) (plain_out e (Expr-F.Every list) is)) ∙ plain in
    subst IsFaultless (sym (value_out row e (Expr-F.Every list) is))
    (every_faultless (Ok (Truth true)) (map (value_of row) list) tt (conditions_faultless columns row list have n.children p))
node_has_value e (Expr-F.Either list) is have columns row fits plain =
    let n = opened_typed columns e (Expr-F.Either list) fits is in
    let p = sym (ap (λ (p : Plainness). p.condition) (plain_out e (Expr-F.Either list) is)) ∙ plain in
    subst IsFaultless (sym (value_out row e (Expr-F.Either list) is))
    (either_faultless (Ok (Truth false)) (map (value_of row) list) tt (conditions_faultless columns row list have n.children p))
node_has_value e (Expr-F.Chain first links) is have columns row fits plain =
    let no : true ≡ false = sym plain ∙ ap (λ (p : Plainness). p.condition) (plain_out e (Expr-F.Chain first links) is) in cc
node_has_value e (Expr-F.Compare sign left right) is have columns row fits plain =
    let n = opened_typed columns e (Expr-F.Compare sign left right) fits is in
    let p = sym (ap (λ (p : Plainness). p.condition) (plain_out e (Expr-F.Compare sign left right) is)) ∙ plain in
    subst IsFaultless (sym (value_out row e (Expr-F.Compare sign left right) is))
    (comparison_faultless sign (value_of row left) (value_of row right)
    (operand_faultless columns row left n.children.0 (and_left (plainness left).operand (plainness right).operand p))
    (operand_faultless columns row right n.children.1 (and_right (plainness left).operand (plainness right).operand p)))
node_has_value e (Expr-F.IsNull of negated) is have columns row fits plain =
    let n = opened_typed columns e (Expr-F.IsNull of negated) fits is in
    let p = sym (ap (λ (p : Plainness). p.condition) (plain_out e (Expr-F.IsNull of negated) is)) ∙ plain in
    subst IsFaultless (sym (value_out row e (Expr-F.IsNull of negated) is)) (then_faultless (value_of row of) _ (operand_faultless columns row of n.children p) (λ v. tt))
node_has_value e (Expr-F.Like of pattern negated) is have columns row fits plain =
    let n = opened_typed columns e (Expr-F.Like of pattern negated) fits is in
    let p = sym (ap (λ (p : Plainness). p.condition) (plain_out e (Expr-F.Like of pattern negated) is)) ∙ plain in
    subst IsFaultless (sym (value_out row e (Expr-F.Like of pattern negated) is)) (then_faultless (value_of row of) _ (operand_faultless columns row of n.children p) (λ v. tt))
node_has_value e (Expr-F.OneOf of list negated) is have columns row fits plain =
    let n = opened_typed columns e (Expr-F.OneOf of list negated) fits is in
    let p = sym (ap (λ (p : Plainness). p.condition) (plain_out e (Expr-F.OneOf of list negated) is)) ∙ plain in
    let h = operand_faultless columns row of n.children.0 (and_left (plainness of).operand (all_operands (map plainness list)) p) in
    subst IsFaultless (sym (value_out row e (Expr-F.OneOf of list negated) is))
    (then_faultless (one_of (value_of row of) (map (value_of row) list)) _
    (then_faultless (value_of row of) _ h
    (λ v. either_faultless (Ok (Truth false)) (map (comparison Equal (Ok v)) (map (value_of row) list)) tt
    (constants_faultless columns row v list n.children.1 (and_right (plainness of).operand (all_operands (map plainness list)) p)))) (λ v. tt))
node_has_value e (Expr-F.Between of low high negated) is have columns row fits plain =
    let n = opened_typed columns e (Expr-F.Between of low high negated) fits is in
    let p = sym (ap (λ (p : Plainness). p.condition) (plain_out e (Expr-F.Between of low high negated) is)) ∙ plain in
    let q = and_right (plainness of).operand ((plainness low).operand && (plainness high).operand) p in
    let h = operand_faultless columns row of n.children.0 (and_left (plainness of).operand ((plainness low).operand && (plainness high).operand) p) in
    let i = operand_faultless columns row low n.children.1 (and_left (plainness low).operand (plainness high).operand q) in
    let j = operand_faultless columns row high n.children.2 (and_right (plainness low).operand (plainness high).operand q) in
    subst IsFaultless (sym (value_out row e (Expr-F.Between of low high negated) is))
    (then_faultless (between (value_of row of) (value_of row low) (value_of row high)) _
    (then_faultless (comparison AtLeast (value_of row of) (value_of row low)) _ (comparison_faultless AtLeast (value_of row of) (value_of row low) h i)
    (λ v. and_faultless (truth_in v) (comparison AtMost (value_of row of) (value_of row high)) (comparison_faultless AtMost (value_of row of) (value_of row high) h j)))
    (λ v. tt))

has_value : (e : Expr) → HasValue e
has_value = ind-Expr HasValue (λ l. HasValue l.right)
    (λ x y is. node_has_value (roll-Expr x) x (out-roll-Expr x) (children_hold HasValue (λ l. HasValue l.right) HasValue (λ e p. p) (λ l p. p) x y is))
    (λ x y is. subst HasValue (ap (λ (l : Link-F Expr Link). l.right) is) y.right.1)

pub plain_is_faultless : (columns : List SqlType) (e : Expr) (row : List Value) → IsTyped columns e → IsTrue (plainness e).condition → IsFaultless (value_of row e)
plain_is_faultless columns e row fits plain = has_value e columns row fits (let h = plain in search rules)
