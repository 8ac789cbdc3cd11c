-- What expressions compute of rows of types.
use Rattle.std.proofs.Common.{◌≡◌, ℕ, List, [], ◌∷◌, ◌++◌, map, length, sym, subst, inl, inr, Some, arith}
use Rattle.std.specs.Prelude.{replicate, Result, Ok, Err, FitsSigned}
use Rattle.std.specs.Int.{w32, w64}
use Rattle.std.specs.List.{AllByRecursion}
use Rattle.std.proofs.lemmas.Int.{ints}
use Rattle.ooc_types.specs.declared.value.Value.{Value}
use Rattle.ooc_types.specs.declared.value.Value.TheVariants.{Null, Truth, Number, Day, Text}
use Rattle.ooc_types.specs.declared.schema.Column.{Column}
use Rattle.ooc_types.specs.declared.schema.SqlType.{SqlType}
use Rattle.ooc_types.specs.declared.schema.SqlType.TheVariants.{Boolean, Integer, BigInt, HugeInt, Decimal, Date, Varchar}
use Rattle.ooc_types.specs.Meets.{AllMeet, HasForm, IsOf, IsValueOf}
use Rattle.sql_expr.specs.declared.fault.ValueFault.{ValueFault}
use Rattle.sql_expr.specs.declared.tree.Expr.{Expr}
use Rattle.sql_expr.specs.Arithmetic.{Meaning}
use Rattle.sql_expr.specs.Kinds.{kind_of}
use Rattle.sql_expr.specs.Meaning.{value_of}
use Rattle.sql_expr.specs.Operations.{wider}
use Rattle.sql_expr.specs.Values.{IsRanged, OnValue}
use Rattle.sql_expr.proofs.ValueForms.{values_have_form, values_are_ranged}
use Rattle.sql_meaning.specs.Found.{Row}
use Rattle.sql_meaning.specs.Groups.{behind_value, values}
use Rattle.sql_meaning.specs.Select.{item_found}
use Rattle.sql_meaning.specs.Statements.{row_value_of}
use Rattle.well_formed.specs.Exprs.{IsExpr}
use Rattle.well_formed.specs.Given.{kinds_of_columns}
use Rattle.well_formed.specs.Rows.{AreCommon, IsCommon}
use Rattle.bound_laws.specs.Meeting.{IsRow, IsValue}
use Rattle.bound_laws.proofs.AggregateLemmas.{null-value}

-- ---- values beside their types

pub meet-on : {K : Type 0} (F G : K → Value → Type 0) → ((k : K) (v : Value) → F k v → G k v) → (ks : List K) (vs : List Value) → AllMeet F ks vs → AllMeet G ks vs
meet-on F G to [] [] meets = tt
meet-on F G to [] (v ∷ vs) meets = absurd meets
meet-on F G to (k ∷ ks) [] meets = absurd meets
meet-on F G to (k ∷ ks) (v ∷ vs) meets = (to k v meets.0, meet-on F G to ks vs meets.1)

pub meet-append : {K : Type 0} (F : K → Value → Type 0) (ks ls : List K) (vs ws : List Value) → AllMeet F ks vs → AllMeet F ls ws → AllMeet F (ks ++ ls) (vs ++ ws)
meet-append F [] ls [] ws a b = b
meet-append F [] ls (v ∷ vs) ws a b = absurd a
meet-append F (k ∷ ks) ls [] ws a b = absurd a
meet-append F (k ∷ ks) ls (v ∷ vs) ws a b = (a.0, meet-append F ks ls vs ws a.1 b)

pub nulls-meet : (limit : ℕ) (kinds : List SqlType) → IsRow limit kinds (replicate (length kinds) Null)
nulls-meet limit [] = tt
nulls-meet limit (kind ∷ kinds) = (null-value limit kind, nulls-meet limit kinds)

-- ---- rows of tables

column-range : (column : Column) (v : Value) → IsValueOf column v → IsRanged column.kind v
column-range column Null h = tt
column-range column (Truth b) h = tt
column-range column (Number d s) h = h
column-range column (Day d) h = h
column-range column (Text bytes) h = tt

columns-meet : (limit : ℕ) (columns : List Column) (row : Row) → AllMeet (HasForm limit) (map (λ (column : Column). column.kind) columns) row → AllMeet IsValueOf columns row → IsRow limit (kinds_of_columns columns) row
columns-meet limit [] [] forms values = tt
columns-meet limit [] (v ∷ row) forms values = absurd values
columns-meet limit (column ∷ columns) [] forms values = absurd values
columns-meet limit (column ∷ columns) (v ∷ row) forms values = (record { form = forms.0; range = column-range column v values.0 }, columns-meet limit columns row forms.1 values.1)

pub table-row : (limit : ℕ) (columns : List Column) (row : Row) → IsOf limit columns row → IsRow limit (kinds_of_columns columns) row
table-row limit columns row of = columns-meet limit columns row of.0 of.1

-- ---- expressions

both-facts : (F G : Value → Type 0) (m : Meaning) → OnValue F m → OnValue G m → OnValue (λ v. F v × G v) m
both-facts F G (Err fault) f g = tt
both-facts F G (Ok v) f g = (f, g)

value-on : (F G : Value → Type 0) (m : Meaning) → ((v : Value) → F v → G v) → OnValue F m → OnValue G m
value-on F G (Err fault) to f = tt
value-on F G (Ok v) to f = to v f

pub expr-value : (limit : ℕ) (columns : List SqlType) (e : Expr) (row : Row) → IsExpr limit columns e → IsRow limit columns row → OnValue (IsValue limit (kind_of e)) (value_of row e)
expr-value limit columns e row is meets =
    let forms = meet-on (IsValue limit) (HasForm limit) (λ k v h. h.form) columns row meets in
    let ranges = meet-on (IsValue limit) IsRanged (λ k v h. h.range) columns row meets in
    value-on (λ v. HasForm limit (kind_of e) v × IsRanged (kind_of e) v) (IsValue limit (kind_of e)) (value_of row e) (λ v h. record { form = h.0; range = h.1 })
    (both-facts (HasForm limit (kind_of e)) (IsRanged (kind_of e)) (value_of row e)
    (values_have_form limit columns e row is.typed is.short forms) (values_are_ranged columns e row is.typed ranges))

behind-row : (limit : ℕ) (kind : SqlType) (kinds : List SqlType) (m : Meaning) (later : Result Row ValueFault) → OnValue (IsValue limit kind) m
    → AllByRecursion (IsRow limit kinds) (item_found later).rows → AllByRecursion (IsRow limit (kind ∷ kinds)) (item_found (behind_value m later)).rows
behind-row limit kind kinds (Err fault) later h all = tt
behind-row limit kind kinds (Ok v) (Err fault) h all = tt
behind-row limit kind kinds (Ok v) (Ok row) h all = ((h, all.0), tt)

pub items-row : (limit : ℕ) (columns : List SqlType) (items : List Expr) (row : Row) → AllByRecursion (IsExpr limit columns) items → IsRow limit columns row
    → AllByRecursion (IsRow limit (map kind_of items)) (item_found (values (map row_value_of items) row)).rows
items-row limit columns [] row all meets = (tt, tt)
items-row limit columns (item ∷ items) row all meets =
    behind-row limit (kind_of item) (map kind_of items) (row_value_of item row) (values (map row_value_of items) row) (expr-value limit columns item row all.0 meets) (items-row limit columns items row all.1 meets)

-- ---- what two operands of a set operation have together

module _ (limit : ℕ) where
  integer-bigint : (v : Value) → IsValue limit Integer v → IsValue limit BigInt v
  integer-bigint Null h = null-value limit BigInt
  integer-bigint (Truth b) h = let no : Integer ≡ Boolean = h.form in cc
  integer-bigint (Number d s) h = let r : FitsSigned w32 d = h.range in record { form = (omega (arith, ints), h.form.1); range = omega (arith, ints) }
  integer-bigint (Day d) h = let no : Integer ≡ Date = h.form.0 in cc
  integer-bigint (Text bytes) h = let no : Integer ≡ Varchar = h.form.0 in cc

  bigint-hugeint : (v : Value) → IsValue limit BigInt v → IsValue limit HugeInt v
  bigint-hugeint Null h = null-value limit HugeInt
  bigint-hugeint (Truth b) h = let no : BigInt ≡ Boolean = h.form in cc
  bigint-hugeint (Number d s) h = let r : FitsSigned w64 d = h.range in record { form = (omega (arith, ints), h.form.1); range = omega (arith, ints) }
  bigint-hugeint (Day d) h = let no : BigInt ≡ Date = h.form.0 in cc
  bigint-hugeint (Text bytes) h = let no : BigInt ≡ Varchar = h.form.0 in cc

  given : (a b : SqlType) (v : Value) → Some a ≡ Some b → IsValue limit a v → IsValue limit b v
  given a b v is h = let e : a ≡ b = cc in subst (λ (k : SqlType). IsValue limit k v) e h

  wider-left : (l r k : SqlType) (v : Value) → wider l r ≡ Some k → IsValue limit l v → IsValue limit k v
  wider-left Boolean r k v is h = cc
  wider-left (Decimal w s) r k v is h = cc
  wider-left Date r k v is h = cc
  wider-left Varchar r k v is h = cc
  wider-left Integer Boolean k v is h = cc
  wider-left Integer Integer k v is h = given Integer k v is h
  wider-left Integer BigInt k v is h = given BigInt k v is (integer-bigint v h)
  wider-left Integer HugeInt k v is h = given HugeInt k v is (bigint-hugeint v (integer-bigint v h))
  wider-left Integer (Decimal w s) k v is h = cc
  wider-left Integer Date k v is h = cc
  wider-left Integer Varchar k v is h = cc
  wider-left BigInt Boolean k v is h = cc
  wider-left BigInt Integer k v is h = given BigInt k v is h
  wider-left BigInt BigInt k v is h = given BigInt k v is h
  wider-left BigInt HugeInt k v is h = given HugeInt k v is (bigint-hugeint v h)
  wider-left BigInt (Decimal w s) k v is h = cc
  wider-left BigInt Date k v is h = cc
  wider-left BigInt Varchar k v is h = cc
  wider-left HugeInt Boolean k v is h = cc
  wider-left HugeInt Integer k v is h = given HugeInt k v is h
  wider-left HugeInt BigInt k v is h = given HugeInt k v is h
  wider-left HugeInt HugeInt k v is h = given HugeInt k v is h
  wider-left HugeInt (Decimal w s) k v is h = cc
  wider-left HugeInt Date k v is h = cc
  wider-left HugeInt Varchar k v is h = cc

  wider-right : (l r k : SqlType) (v : Value) → wider l r ≡ Some k → IsValue limit r v → IsValue limit k v
  wider-right Boolean r k v is h = cc
  wider-right (Decimal w s) r k v is h = cc
  wider-right Date r k v is h = cc
  wider-right Varchar r k v is h = cc
  wider-right Integer Boolean k v is h = cc
  wider-right Integer Integer k v is h = given Integer k v is h
  wider-right Integer BigInt k v is h = given BigInt k v is h
  wider-right Integer HugeInt k v is h = given HugeInt k v is h
  wider-right Integer (Decimal w s) k v is h = cc
  wider-right Integer Date k v is h = cc
  wider-right Integer Varchar k v is h = cc
  wider-right BigInt Boolean k v is h = cc
  wider-right BigInt Integer k v is h = given BigInt k v is (integer-bigint v h)
  wider-right BigInt BigInt k v is h = given BigInt k v is h
  wider-right BigInt HugeInt k v is h = given HugeInt k v is h
  wider-right BigInt (Decimal w s) k v is h = cc
  wider-right BigInt Date k v is h = cc
  wider-right BigInt Varchar k v is h = cc
  wider-right HugeInt Boolean k v is h = cc
  wider-right HugeInt Integer k v is h = given HugeInt k v is (bigint-hugeint v (integer-bigint v h))
  wider-right HugeInt BigInt k v is h = given HugeInt k v is (bigint-hugeint v h)
  wider-right HugeInt HugeInt k v is h = given HugeInt k v is h
  wider-right HugeInt (Decimal w s) k v is h = cc
  wider-right HugeInt Date k v is h = cc
  wider-right HugeInt Varchar k v is h = cc

  left-value : (l r k : SqlType) (v : Value) → IsCommon l r k → IsValue limit l v → IsValue limit k v
  left-value l r k v (inl same) h = subst (λ (kind : SqlType). IsValue limit kind v) (sym same.1) h
  left-value l r k v (inr is) h = wider-left l r k v is h

  right-value : (l r k : SqlType) (v : Value) → IsCommon l r k → IsValue limit r v → IsValue limit k v
  right-value l r k v (inl same) h = subst (λ (kind : SqlType). IsValue limit kind v) (sym same.1) (subst (λ (kind : SqlType). IsValue limit kind v) (sym same.0) h)
  right-value l r k v (inr is) h = wider-right l r k v is h

  pub left-row : (lefts rights kinds : List SqlType) (row : Row) → AreCommon lefts rights kinds → IsRow limit lefts row → IsRow limit kinds row
  left-row [] [] [] row common h = h
  left-row [] [] (k ∷ kinds) row common h = absurd common
  left-row [] (r ∷ rights) [] row common h = absurd common
  left-row [] (r ∷ rights) (k ∷ kinds) row common h = absurd common
  left-row (l ∷ lefts) [] [] row common h = absurd common
  left-row (l ∷ lefts) [] (k ∷ kinds) row common h = absurd common
  left-row (l ∷ lefts) (r ∷ rights) [] row common h = absurd common
  left-row (l ∷ lefts) (r ∷ rights) (k ∷ kinds) [] common h = absurd h
  left-row (l ∷ lefts) (r ∷ rights) (k ∷ kinds) (v ∷ row) common h = (left-value l r k v common.0 h.0, left-row lefts rights kinds row common.1 h.1)

  pub right-row : (lefts rights kinds : List SqlType) (row : Row) → AreCommon lefts rights kinds → IsRow limit rights row → IsRow limit kinds row
  right-row [] [] [] row common h = h
  right-row [] [] (k ∷ kinds) row common h = absurd common
  right-row [] (r ∷ rights) [] row common h = absurd common
  right-row [] (r ∷ rights) (k ∷ kinds) row common h = absurd common
  right-row (l ∷ lefts) [] [] row common h = absurd common
  right-row (l ∷ lefts) [] (k ∷ kinds) row common h = absurd common
  right-row (l ∷ lefts) (r ∷ rights) [] row common h = absurd common
  right-row (l ∷ lefts) (r ∷ rights) (k ∷ kinds) [] common h = absurd h
  right-row (l ∷ lefts) (r ∷ rights) (k ∷ kinds) (v ∷ row) common h = (right-value l r k v common.0 h.0, right-row lefts rights kinds row common.1 h.1)
