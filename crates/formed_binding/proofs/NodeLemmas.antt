-- What an operation makes of its operands, and a literal, a column and an aggregate.
use Rattle.std.proofs.Common.{◌≡◌, ℕ, ◌+◌, ◌≤◌, Bool, true, false, ◌==◌, nat_le, List, [], ◌∷◌, length, refl, sym, ap, ◌∙◌, subst, Option, Some, None, cond, arith, Ok, Err}
use Rattle.std.specs.Prelude.{ℤ, pos, negsuc, is_some}
use Rattle.ooc_types.specs.declared.schema.SqlType.{SqlType}
use Rattle.ooc_types.specs.declared.schema.SqlType.TheVariants.{Boolean, Integer, BigInt, HugeInt, Decimal, Date, Varchar}
use Rattle.ooc_types.specs.declared.value.Value.{Value}
use Rattle.ooc_types.specs.declared.value.Value.TheVariants as value
use Rattle.ooc_types.specs.declared.refusal.RefusalKind.TheVariants.{AggregateHere, SumTooWide}
use Rattle.sql_expr.specs.declared.tree.Expr.{Expr}
use Rattle.sql_expr.specs.declared.tree.Link.{Link}
use Rattle.sql_expr.specs.declared.tree.Expr.TheOpen.{Expr-F}
use Rattle.sql_expr.specs.declared.tree.Expr.TheVariants as tree
use Rattle.sql_expr.specs.declared.tree.Expr.TheVariants.{rolls-Constant, rolls-Column, rolls-Not, rolls-Minus, rolls-Every, rolls-Either, rolls-Chain, rolls-Compare, rolls-IsNull, rolls-Like, rolls-OneOf, rolls-Between}
use Rattle.sql_expr.specs.declared.tree.Expr.TheViews.{out-Expr, out-roll-Expr}
use Rattle.sql_expr.specs.Kinds.{kind_of}
use Rattle.bound_tree.specs.declared.kinds.AggregateKind.{AggregateKind}
use Rattle.bound_tree.specs.declared.kinds.AggregateKind.TheVariants as aggregates
use Rattle.sql_grammar.specs.declared.tree.expr.ColumnName.{ColumnName}
use Rattle.sql_grammar.specs.declared.tree.expr.Literal.{Literal}
use Rattle.sql_grammar.specs.declared.tree.expr.Literal.TheVariants as literals
use Rattle.sql_lex.specs.declared.values.DecimalValue.{DecimalValue}
use Rattle.sql_lex.specs.Values.{decimal_value, integer_value, unquoted}
use Rattle.sql_scope.specs.declared.call.Function.{Function}
use Rattle.sql_scope.specs.declared.call.Function.TheVariants.{Count, Sum, Least, Greatest}
use Rattle.sql_scope.specs.declared.part.Call.{Call}
use Rattle.sql_scope.specs.declared.part.Part.{Part}
use Rattle.sql_scope.specs.Answer.{Answer, ◌>>=◌, unless}
use Rattle.sql_scope.specs.Calls.{aggregate, count_type, distinct_call, kind_of_function, most_summed, star_call, sum_type, value_call, value_type}
use Rattle.sql_scope.specs.Dates.{day_of}
use Rattle.sql_scope.specs.Literals as rules
use Rattle.sql_scope.specs.Parts as parts
use Rattle.sql_scope.specs.Scopes.{View, first_token, kinds, named_column, without_aggregates}
use Rattle.sql_scope.specs.Texts.{text_at}
use Rattle.typed_scope.specs.Typed.{IsPartOver}
use Rattle.typed_scope.proofs.LeafLemmas.{column-typed, literal-typed, star-typed, value-typed, distinct-typed, first-answer}
use Rattle.typed_scope.proofs.PartLemmas.{answered}
use Rattle.well_formed.specs.Aggregates as formed
use Rattle.formed_binding.specs.Answers.{OfAnswer}
use Rattle.formed_binding.proofs.EachLemmas.{of-answer, whenever}
use Rattle.formed_binding.specs.Parts.{AreCalls, IsPart, IsView, calls_at, one_if}
use Rattle.formed_binding.proofs.Facts.{made, no-calls, part-expr}
use Rattle.formed_binding.specs.Covered.{Covered}
use Rattle.formed_binding.proofs.TreeLemmas.{covered-node}

-- ---- literals

abbrev pub IsConstant : Expr → Type 0
IsConstant e = (v : Value) × ((k : SqlType) × (tree.Constant v k ≡ e))

integer-constant : (place : ℕ) (n : Option ℤ) → OfAnswer IsConstant (rules.integer_literal place n)
integer-constant place None = tt
integer-constant place (Some (negsuc n)) = tt
integer-constant place (Some (pos n)) = (_, (_, refl))

decimal-constant : (place : ℕ) (d : Option DecimalValue) → OfAnswer IsConstant (rules.decimal_literal place d)
decimal-constant place None = tt
decimal-constant place (Some d) = (_, (_, refl))

date-constant : (place : ℕ) (day : Option ℤ) → OfAnswer IsConstant (rules.date_literal place day)
date-constant place None = tt
date-constant place (Some day) = (_, (_, refl))

text-constant : (m : Answer (List ℕ)) → OfAnswer IsConstant (m >>= (λ (text : List ℕ). Ok (tree.Constant (value.Text text) Varchar)))
text-constant (Err refusal) = tt
text-constant (Ok text) = (_, (_, refl))

pub is-constant : (view : View) (written : Literal) → OfAnswer IsConstant (rules.literal view written)
is-constant view (literals.Integer span) = integer-constant span.start (integer_value (text_at view.script span))
is-constant view (literals.Decimal span) = decimal-constant span.start (decimal_value (text_at view.script span))
is-constant view (literals.Text span) = text-constant (rules.text_literal view span)
is-constant view (literals.True span) = (_, (_, refl))
is-constant view (literals.False span) = (_, (_, refl))
is-constant view (literals.Date span) = date-constant span.start (day_of (unquoted (text_at view.script span)))

pub covered-constant : (keys : List Expr) (width : ℕ) (e : Expr) → IsConstant e → Covered keys width e
covered-constant keys width e is =
    subst (Covered keys width) is.1.1 (covered-node keys width (tree.Constant is.0 is.1.0) (Expr-F.Constant is.0 is.1.0) (ap out-Expr (sym (rolls-Constant is.0 is.1.0)) ∙ out-roll-Expr (Expr-F.Constant is.0 is.1.0)) tt tt)

pub literal-part : (view : View) (written : Literal) → OfAnswer (IsPart view false (λ place. 0)) (parts.literal view written)
literal-part view written = whenever (IsPart view false (λ place. 0)) (parts.literal view written)
    (λ part is. let a = first-answer (rules.literal view written) (parts.constant_part view) part is in
    made view false (λ place. 0) a.0 None [] part (λ calls. literal-typed (kinds view) calls view written part is) tt (λ place. omega arith)
    (λ none. covered-constant view.keys (length view.columns) a.0 (of-answer IsConstant (rules.literal view written) a.0 (is-constant view written) a.1.0)) a.1.1)

pub column-part : (view : View) (written : ColumnName) → IsView view → OfAnswer (IsPart view false (λ place. 0)) (parts.column view written)
column-part view written sees = whenever (IsPart view false (λ place. 0)) (parts.column view written)
    (λ part is. let a = first-answer (named_column view written.source written.name) (parts.column_part view written) part is in
    made view false (λ place. 0) a.0 (Some (first_token written.source written.name)) [] part (λ calls. column-typed calls view.limit view written part sees.proper is) tt (λ place. omega arith) (λ none. cc) a.1.1)

-- ---- aggregates

call-part : (view : View) (flag : Bool) (n : ℕ → ℕ) (place : ℕ) (kind : AggregateKind) (of : Option Expr) (result : SqlType) (part : Part) → ((calls : List Call) → IsPartOver (kinds view) calls view.limit part)
    → formed.IsAggregate view.limit (kinds view) (record { kind = kind; of = of; result = result }) → ((at : ℕ) → one_if (place == at) ≤ n at) → flag ≡ true
    → aggregate view place kind of result ≡ Ok part → IsPart view flag n part
call-part view flag n place kind of result part typed is_aggregate counted stands is = by view.aggregates refl is
  where
    by : (b : Bool) → view.aggregates ≡ b
        → ◌≡◌ {A = Answer Part} (unless b place AggregateHere (record { tree = tree.Column (length view.columns + place) result; bare = None; calls = record { place = place; aggregate = record { kind = kind; of = of; result = result } } ∷ [] })) (Ok part) → IsPart view flag n part
    by false e is = cc
    by true e is =
        let column = tree.Column (length view.columns + place) result in
        let shape : Expr-F Expr Link = Expr-F.Column (length view.columns + place) result in
        let within : length view.columns ≤ length view.columns + place = omega arith in
        let covered = covered-node view.keys (length view.columns) column shape (ap out-Expr (sym (rolls-Column (length view.columns + place) result)) ∙ out-roll-Expr shape) within tt in
        let rest = answered (λ (p : Part). AreCalls view flag p.calls × ((at : ℕ) → calls_at p.calls at ≤ n at) × (p.bare ≡ None → Covered view.keys (length view.columns) p.tree))
        (record { tree = column; bare = None; calls = record { place = place; aggregate = record { kind = kind; of = of; result = result } } ∷ [] }) part is
        ((record { aggregate = is_aggregate; here = e; stands = stands }, tt), (λ at. let h = counted at in omega arith), (λ none. covered)) in
        record { typed = typed; calls = rest.0; counted = rest.1; covered = rest.2 }

count-bigint : (place : ℕ) (function : Function) (kind : SqlType) → count_type place function ≡ Ok kind → BigInt ≡ kind
count-bigint place Count kind is = cc
count-bigint place Sum kind is = cc
count-bigint place Least kind is = cc
count-bigint place Greatest kind is = cc

pub star-part : (view : View) (flag : Bool) (n : ℕ → ℕ) (place : ℕ) (function : Option Function) → ((at : ℕ) → one_if (place == at) ≤ n at) → (is_some function ≡ true → flag ≡ true)
    → OfAnswer (IsPart view flag n) (star_call view place function)
star-part view flag n place None counted stands = tt
star-part view flag n place (Some function) counted stands = whenever (IsPart view flag n) (star_call view place (Some function))
    (λ part is. let a = first-answer (count_type place function) (aggregate view place aggregates.CountRows None) part is in
    call-part view flag n place aggregates.CountRows None a.0 part (λ calls. star-typed calls view.limit view place (Some function) part is)
    (record { argument = tt; result = ap Some (count-bigint place function a.0 a.1.0) }) counted (stands refl) a.1.1)

sums : (place : ℕ) (k kind : SqlType) → sum_type place k ≡ Ok kind → formed.sum_type k ≡ Some kind
sums place Boolean kind is = cc
sums place Integer kind is = let e : HugeInt ≡ kind = cc in ap Some e
sums place BigInt kind is = let e : HugeInt ≡ kind = cc in ap Some e
sums place HugeInt kind is = cc
sums place (Decimal w s) kind is = by (nat_le w most_summed) is
  where
    by : (b : Bool) → ◌≡◌ {A = Answer SqlType} (unless b place SumTooWide (Decimal 38 s)) (Ok kind) → cond b (Some (Decimal 38 s)) None ≡ Some kind
    by false is = cc
    by true is = let e : Decimal 38 s ≡ kind = cc in ap Some e
sums place Date kind is = cc
sums place Varchar kind is = cc

value-result : (place : ℕ) (function : Function) (k kind : SqlType) → value_type place function k ≡ Ok kind → formed.aggregate_type (kind_of_function function) (Some k) ≡ Some kind
value-result place Count k kind is = let e : BigInt ≡ kind = cc in ap Some e
value-result place Sum k kind is = sums place k kind is
value-result place Least k kind is = let e : k ≡ kind = cc in ap Some e
value-result place Greatest k kind is = let e : k ≡ kind = cc in ap Some e

-- an argument is bound where no aggregate may stand
argument-alone : (view : View) (flag : Bool) (n : ℕ → ℕ) (of : Part) → IsPart (without_aggregates view) flag n of → of.calls ≡ []
argument-alone view flag n of is = no-calls (without_aggregates view) flag of.calls refl is.calls

pub value-part : (view : View) (flag other : Bool) (n m : ℕ → ℕ) (place : ℕ) (function : Function) (of : Part) → IsPart (without_aggregates view) other m of
    → ((at : ℕ) → one_if (place == at) ≤ n at) → flag ≡ true → OfAnswer (IsPart view flag n) (value_call view place (Some function) of)
value-part view flag other n m place function of is_part counted stands = whenever (IsPart view flag n) (value_call view place (Some function) of)
    (λ part is. let a = first-answer (value_type place function (kind_of of.tree)) (aggregate view place (kind_of_function function) (Some of.tree)) part is in
    call-part view flag n place (kind_of_function function) (Some of.tree) a.0 part (λ calls. value-typed calls view.limit view place (Some function) of part (is_part.typed calls) is)
    (record { argument = part-expr (without_aggregates view) other m of is_part (argument-alone view other m of is_part); result = value-result place function (kind_of of.tree) a.0 a.1.0 }) counted stands a.1.1)

pub distinct-part : (view : View) (flag other : Bool) (n m : ℕ → ℕ) (place : ℕ) (function : Function) (of : Part) → IsPart (without_aggregates view) other m of
    → ((at : ℕ) → one_if (place == at) ≤ n at) → flag ≡ true → OfAnswer (IsPart view flag n) (distinct_call view place (Some function) of)
distinct-part view flag other n m place function of is_part counted stands = whenever (IsPart view flag n) (distinct_call view place (Some function) of)
    (λ part is. let a = first-answer (count_type place function) (aggregate view place aggregates.CountDistinct (Some of.tree)) part is in
    call-part view flag n place aggregates.CountDistinct (Some of.tree) a.0 part (λ calls. distinct-typed calls view.limit view place (Some function) of part is)
    (record { argument = part-expr (without_aggregates view) other m of is_part (argument-alone view other m of is_part); result = ap Some (count-bigint place function a.0 a.1.0) }) counted stands a.1.1)
