-- Columns, literals and aggregates are typed.
use Rattle.std.proofs.Common.{◌≡◌, ℕ, zero, suc, ◌+◌, ◌<◌, ◌≤◌, ◌^◌, Bool, true, false, cond, nat_lt, nat_le, List, [], ◌∷◌, map, length, refl, sym, ap, ◌∙◌, subst, Option, Some, None, Ok, Err, inl, arith}
use Rattle.std.specs.Prelude.{ℤ, pos, ◌+ℤ◌, slice_get}
use Rattle.std.specs.Str.{bytes_eq}
use Rattle.std.specs.List.{AllByRecursion}
use Rattle.std.proofs.lemmas.Bool.{and_parts, leb-true, ltb-true}
use Rattle.std.proofs.lemmas.Int.{ints}
use Rattle.date_values.specs.DateText.{day_text}
use Rattle.ooc_types.specs.declared.refusal.RefusalKind.TheVariants.{AggregateHere, SumTooWide, TextTooLong}
use Rattle.ooc_types.specs.declared.schema.SqlType.{SqlType}
use Rattle.ooc_types.specs.declared.schema.SqlType.TheVariants.{Boolean, Integer, BigInt, HugeInt, Decimal, Date, Varchar}
use Rattle.ooc_types.specs.declared.value.Value.{Value}
use Rattle.ooc_types.specs.declared.value.Value.TheVariants.{Truth, Number, Day, Text}
use Rattle.ooc_types.specs.Meets.{IsDay, first_day}
use Rattle.sql_expr.specs.declared.tree.Expr.{Expr}
use Rattle.sql_expr.specs.declared.tree.Expr.TheOpen.{Expr-F}
use Rattle.sql_expr.specs.declared.tree.Expr.TheVariants.{Column, Constant, rolls-Column, rolls-Constant}
use Rattle.sql_expr.specs.declared.tree.Expr.TheViews.{out-Expr, out-roll-Expr}
use Rattle.sql_expr.specs.Kinds.{kind_of}
use Rattle.sql_expr.specs.Operations.{IsProper}
use Rattle.sql_expr.specs.Typing.{IsLiteral, integer_type}
use Rattle.sql_expr.specs.Values.{HasShortTexts, IsShortNode, IsWithinLimit}
use Rattle.sql_expr.proofs.Every.{every_column, every_constant}
use Rattle.sql_expr.proofs.Nodes.{kind_out}
use Rattle.sql_grammar.specs.declared.tree.expr.Span.{Span}
use Rattle.sql_grammar.specs.declared.tree.expr.ColumnName.{ColumnName}
use Rattle.sql_grammar.specs.declared.tree.expr.Literal.{Literal}
use Rattle.sql_grammar.specs.declared.tree.expr.Literal.TheVariants as literals
use Rattle.sql_lex.specs.declared.values.DecimalValue.{DecimalValue}
use Rattle.sql_lex.specs.Values.{decimal_value, integer_value, is_integer, unquoted}
use Rattle.sql_lex.proofs.ProperLemmas.{decimal-proper}
use Rattle.std.specs.Str.Parse.{digits_value}
use Rattle.bound_tree.specs.declared.kinds.AggregateKind.{AggregateKind}
use Rattle.sql_scope.specs.declared.call.Function.{Function}
use Rattle.sql_scope.specs.declared.call.Function.TheVariants.{Count, Sum, Least, Greatest}
use Rattle.sql_scope.specs.declared.part.Call.{Call}
use Rattle.sql_scope.specs.declared.part.Part.{Part}
use Rattle.sql_scope.specs.declared.scope.ScopeColumn.{ScopeColumn}
use Rattle.sql_scope.specs.Answer.{Answer, ◌>>=◌, unless}
use Rattle.sql_scope.specs.Calls.{aggregate, count_type, distinct_call, most_summed, star_call, sum_type, value_call, value_type}
use Rattle.sql_scope.specs.Dates.{all_days, day_from, day_of}
use Rattle.sql_scope.specs.Literals as rules
use Rattle.sql_scope.specs.Parts.{column, column_part, constant_part, literal, part_of}
use Rattle.sql_scope.specs.Scopes.{Spot, View, first_token, found, in_source, is_in, is_named, is_of, kinds, named_column, only, spots}
use Rattle.sql_scope.specs.Texts.{folded_at, text_at}
use Rattle.typed_scope.specs.Typed.{IsPartOver, IsTypedNodeOver, IsTypedOver, seen_of}
use Rattle.typed_scope.proofs.PartLemmas.{answered}

-- what stands in front of an answer was answered
pub first-answer : {A B : Type 0} (m : Answer A) (f : A → Answer B) (b : B) → (m >>= f) ≡ Ok b → (a : A) × ((m ≡ Ok a) × (f a ≡ Ok b))
first-answer (Err refusal) f b is = cc
first-answer (Ok a) f b is = (a, (refl, is))

column-kind : (place : ℕ) (kind : SqlType) → kind_of (Column place kind) ≡ kind
column-kind place kind = kind_out (Column place kind) (Expr-F.Column place kind) (ap out-Expr (sym (rolls-Column place kind)) ∙ out-roll-Expr (Expr-F.Column place kind))

constant-kind : (value : Value) (kind : SqlType) → kind_of (Constant value kind) ≡ kind
constant-kind value kind = kind_out (Constant value kind) (Expr-F.Constant value kind) (ap out-Expr (sym (rolls-Constant value kind)) ∙ out-roll-Expr (Expr-F.Constant value kind))

-- ---- columns

abbrev Stands : List SqlType → Spot → Type 0
Stands columns spot = slice_get columns spot.place ≡ Some spot.kind

spots-stand : (test : ScopeColumn → Bool) (at : ℕ) (scope : List ScopeColumn) (columns : List SqlType)
    → ((k : ℕ) (kind : SqlType) → slice_get (map (λ (c : ScopeColumn). c.kind) scope) k ≡ Some kind → slice_get columns (at + k) ≡ Some kind) → AllByRecursion (Stands columns) (spots test at scope)
spots-stand test at [] columns h = tt
spots-stand test at (c ∷ scope) columns h =
    by (test c) (spots-stand test (at + 1) scope columns (λ k kind is. subst (λ (n : ℕ). slice_get columns n ≡ Some kind) (let e : at + suc k ≡ (at + 1) + k = omega arith in e) (h (suc k) kind is)))
  where
    by : (b : Bool) → AllByRecursion (Stands columns) (spots test (at + 1) scope) → AllByRecursion (Stands columns) (cond b (record { place = at; kind = c.kind } ∷ spots test (at + 1) scope) (spots test (at + 1) scope))
    by true rest = (subst (λ (n : ℕ). slice_get columns n ≡ Some c.kind) (let e : at + 0 ≡ at = omega arith in e) (h 0 c.kind refl), rest)
    by false rest = rest

all-stand : (test : ScopeColumn → Bool) (scope : List ScopeColumn) → AllByRecursion (Stands (map (λ (c : ScopeColumn). c.kind) scope)) (spots test 0 scope)
all-stand test scope =
    let columns = map (λ (c : ScopeColumn). c.kind) scope in
    spots-stand test 0 scope columns (λ k kind is. subst (λ (n : ℕ). slice_get columns n ≡ Some kind) (let e : k ≡ 0 + k = omega arith in e) is)

-- a tree that is a column which is there
record IsColumnOf (columns : List SqlType) (tree : Expr) : Type 0 where
  place : ℕ
  kind : SqlType
  is : Column place kind ≡ tree
  stands : slice_get columns place ≡ Some kind

only-column : (columns : List SqlType) (place : ℕ) (list : List Spot) (tree : Expr) → AllByRecursion (Stands columns) list → only place (found list) ≡ Ok tree → IsColumnOf columns tree
only-column columns place [] tree all is = cc
only-column columns place (spot ∷ []) tree all is = record { place = spot.place; kind = spot.kind; is = (let e : Column spot.place spot.kind ≡ tree = cc in e); stands = all.0 }
only-column columns place (spot ∷ other ∷ more) tree all is = cc

source-column : (columns : List SqlType) (place : ℕ) (sources list : List Spot) (tree : Expr) → AllByRecursion (Stands columns) list → in_source place (found sources) (found list) ≡ Ok tree → IsColumnOf columns tree
source-column columns place [] list tree all is = cc
source-column columns place (spot ∷ []) list tree all is = only-column columns place list tree all is
source-column columns place (spot ∷ other ∷ more) list tree all is = only-column columns place list tree all is

named-column : (view : View) (source : Option Span) (name : Span) (tree : Expr) → named_column view source name ≡ Ok tree → IsColumnOf (kinds view) tree
named-column view None name tree is =
    let test = is_named (folded_at view.script name) in
    only-column (kinds view) name.start (spots test 0 view.columns) tree (all-stand test view.columns) is
named-column view (Some source) name tree is =
    let test = is_in (folded_at view.script source) (folded_at view.script name) in
    source-column (kinds view) source.start (spots (is_of (folded_at view.script source)) 0 view.columns) (spots test 0 view.columns) tree (all-stand test view.columns) is

proper-at : (columns : List SqlType) (place : ℕ) (kind : SqlType) → AllByRecursion IsProper columns → slice_get columns place ≡ Some kind → IsProper kind
proper-at [] place kind all is = cc
proper-at (k ∷ columns) zero kind all is = let e : k ≡ kind = cc in subst IsProper e all.0
proper-at (k ∷ columns) (suc place) kind all is = proper-at columns place kind all.1 is

pub column-typed : (calls : List Call) (limit : ℕ) (view : View) (written : ColumnName) (part : Part) → AllByRecursion IsProper (kinds view) → column view written ≡ Ok part → IsPartOver (kinds view) calls limit part
column-typed calls limit view written part proper is =
    let a = first-answer (named_column view written.source written.name) (column_part view written) part is in
    let c = named-column view written.source written.name a.0 a.1.0 in
    let seen = seen_of (kinds view) calls in
    answered (IsPartOver (kinds view) calls limit) (part_of view a.0 (Some (first_token written.source written.name)) []) part a.1.1 (record {
      typed = λ all. subst (IsTypedOver seen) c.is (every_column (IsTypedNodeOver seen) c.place c.kind (inl c.stands));
      short = subst (HasShortTexts limit) c.is (every_column (IsShortNode limit) c.place c.kind tt);
      proper = subst (λ (e : Expr). IsProper (kind_of e)) c.is (subst IsProper (sym (column-kind c.place c.kind)) (proper-at (kinds view) c.place c.kind proper c.stands));
    })

-- ---- literals

constant-typed : (columns : List SqlType) (calls : List Call) (limit : ℕ) (view : View) (value : Value) (kind : SqlType) (part : Part) → IsLiteral kind value → IsWithinLimit limit value → IsProper kind
    → constant_part view (Constant value kind) ≡ Ok part → IsPartOver columns calls limit part
constant-typed columns calls limit view value kind part literal short proper is =
    answered (IsPartOver columns calls limit) (part_of view (Constant value kind) None []) part is (record {
      typed = λ all. every_constant (IsTypedNodeOver (seen_of columns calls)) value kind literal;
      short = every_constant (IsShortNode limit) value kind short;
      proper = subst IsProper (sym (constant-kind value kind)) proper;
    })

integer-literal : (n : ℕ) → n < 2 ^ 127 → IsLiteral (integer_type n) (Number (pos n) 0) × IsProper (integer_type n)
integer-literal n small = go (nat_lt n (2 ^ 31)) (nat_lt n (2 ^ 63)) refl refl
  where
    go : (a b : Bool) → nat_lt n (2 ^ 31) ≡ a → nat_lt n (2 ^ 63) ≡ b → IsLiteral (integer_type n) (Number (pos n) 0) × IsProper (integer_type n)
    go true b e f =
        let is : integer_type n ≡ Integer = ap (λ (t : Bool). cond t Integer (cond (nat_lt n (2 ^ 63)) BigInt HugeInt)) e in
        (subst (λ (k : SqlType). IsLiteral k (Number (pos n) 0)) (sym is) (refl, is), subst IsProper (sym is) tt)
    go false true e f =
        let is : integer_type n ≡ BigInt = ap (λ (t : Bool). cond t Integer (cond (nat_lt n (2 ^ 63)) BigInt HugeInt)) e ∙ ap (λ (t : Bool). cond t BigInt HugeInt) f in
        (subst (λ (k : SqlType). IsLiteral k (Number (pos n) 0)) (sym is) (refl, is), subst IsProper (sym is) tt)
    go false false e f =
        let is : integer_type n ≡ HugeInt = ap (λ (t : Bool). cond t Integer (cond (nat_lt n (2 ^ 63)) BigInt HugeInt)) e ∙ ap (λ (t : Bool). cond t BigInt HugeInt) f in
        (subst (λ (k : SqlType). IsLiteral k (Number (pos n) 0)) (sym is) (refl, is, small), subst IsProper (sym is) tt)

-- days from the first on are days of the calendar
day-there : (more days : ℕ) (text : List ℕ) (day : ℤ) → days + more ≤ all_days → day_from more days text ≡ Some day → IsDay day
unfolding day_from
day-there zero days text day few is = cc
day-there (suc more) days text day few is =
    by (bytes_eq (day_text (first_day +ℤ pos days)) text) (λ later. day-there more (days + 1) text day (omega arith) later) is
  where
    by : (b : Bool) → (day_from more (days + 1) text ≡ Some day → IsDay day) → cond b (Some (first_day +ℤ pos days)) (day_from more (days + 1) text) ≡ Some day → IsDay day
    by true next is = let e : (first_day +ℤ pos days) ≡ day = cc in subst IsDay e (omega (arith, ints), omega (arith, ints))
    by false next is = next is

module _ (columns : List SqlType) (calls : List Call) (view : View) (part : Part) where
  integer-typed : (place : ℕ) (text : List ℕ) → (rules.integer_literal place (integer_value text) >>= constant_part view) ≡ Ok part → IsPartOver columns calls view.limit part
  integer-typed place text is = by (is_integer text) refl is
    where
      by : (b : Bool) → is_integer text ≡ b → (rules.integer_literal place (cond b (Some (pos (digits_value 10 text))) None) >>= constant_part view) ≡ Ok part → IsPartOver columns calls view.limit part
      by false e is = cc
      by true e is =
          let small = ltb-true (digits_value 10 text) (2 ^ 127) (and_parts _ _ e).1 in
          let h = integer-literal (digits_value 10 text) small in
          constant-typed columns calls view.limit view (Number (pos (digits_value 10 text)) 0) (integer_type (digits_value 10 text)) part h.0 tt h.1 is

  decimal-of : (place : ℕ) (got : Option DecimalValue) (text : List ℕ) → decimal_value text ≡ got → (rules.decimal_literal place got >>= constant_part view) ≡ Ok part → IsPartOver columns calls view.limit part
  decimal-of place None text e is = cc
  decimal-of place (Some d) text e is =
      let p = decimal-proper text d e in
      constant-typed columns calls view.limit view (Number d.digits d.scale) (Decimal d.width d.scale) part
      (subst (λ (z : ℤ). IsLiteral (Decimal d.width d.scale) (Number z d.scale)) (sym p.written)
      (refl, record { some_digit = p.some_digit; places = p.places; small = p.small; most = p.most; least = p.least }))
      tt (p.some_digit, p.most, p.places) is

  text-of : (place : ℕ) (text : List ℕ) → ((rules.limited view.limit place text >>= (λ (text : List ℕ). Ok (Constant (Text text) Varchar))) >>= constant_part view) ≡ Ok part → IsPartOver columns calls view.limit part
  text-of place text is = by (nat_le (length text) view.limit) refl is
    where
      by : (b : Bool) → nat_le (length text) view.limit ≡ b → ((unless b place TextTooLong text >>= (λ (text : List ℕ). Ok (Constant (Text text) Varchar))) >>= constant_part view) ≡ Ok part → IsPartOver columns calls view.limit part
      by false e is = cc
      by true e is = constant-typed columns calls view.limit view (Text text) Varchar part refl (leb-true (length text) view.limit e) tt is

  date-of : (place : ℕ) (got : Option ℤ) (text : List ℕ) → day_of text ≡ got → (rules.date_literal place got >>= constant_part view) ≡ Ok part → IsPartOver columns calls view.limit part
  unfolding day_of
  date-of place None text e is = cc
  date-of place (Some day) text e is = constant-typed columns calls view.limit view (Day day) Date part (refl, day-there all_days 0 text day (omega arith) e) tt tt is

pub literal-typed : (columns : List SqlType) (calls : List Call) (view : View) (written : Literal) (part : Part) → literal view written ≡ Ok part → IsPartOver columns calls view.limit part
literal-typed columns calls view (literals.Integer span) part is = integer-typed columns calls view part span.start (text_at view.script span) is
literal-typed columns calls view (literals.Decimal span) part is = decimal-of columns calls view part span.start (decimal_value (text_at view.script span)) (text_at view.script span) refl is
literal-typed columns calls view (literals.Text span) part is = text-of columns calls view part span.start (unquoted (text_at view.script span)) is
literal-typed columns calls view (literals.True span) part is = constant-typed columns calls view.limit view (Truth true) Boolean part refl tt tt is
literal-typed columns calls view (literals.False span) part is = constant-typed columns calls view.limit view (Truth false) Boolean part refl tt tt is
literal-typed columns calls view (literals.Date span) part is = date-of columns calls view part span.start (day_of (unquoted (text_at view.script span))) (unquoted (text_at view.script span)) refl is

-- ---- aggregates

length-kinds : (scope : List ScopeColumn) → length scope ≡ length (map (λ (c : ScopeColumn). c.kind) scope)
length-kinds [] = refl
length-kinds (c ∷ scope) = ap suc (length-kinds scope)

abbrev call_part : View → ℕ → AggregateKind → Option Expr → SqlType → Part
call_part view place kind of result =
    record { tree = Column (length view.columns + place) result; bare = None; calls = record { place = place; aggregate = record { kind = kind; of = of; result = result } } ∷ [] }

aggregate-typed : (calls : List Call) (limit : ℕ) (view : View) (place : ℕ) (kind : AggregateKind) (of : Option Expr) (result : SqlType) (part : Part) → IsProper result → aggregate view place kind of result ≡ Ok part → IsPartOver (kinds view) calls limit part
aggregate-typed calls limit view place kind of result part proper is = by view.aggregates is
  where
    by : (b : Bool) → unless b place AggregateHere (call_part view place kind of result) ≡ Ok part → IsPartOver (kinds view) calls limit part
    by false is = cc
    by true is = answered (IsPartOver (kinds view) calls limit) (call_part view place kind of result) part is (record {
      typed = λ all. every_column (IsTypedNodeOver (seen_of (kinds view) calls)) (length view.columns + place) result
          (subst (λ (n : ℕ). seen_of (kinds view) calls (n + place) result) (sym (length-kinds view.columns)) all.0);
      short = every_column (IsShortNode limit) (length view.columns + place) result tt;
      proper = subst IsProper (sym (column-kind (length view.columns + place) result)) proper;
    })

count-proper : (place : ℕ) (function : Function) (result : SqlType) → count_type place function ≡ Ok result → IsProper result
count-proper place Count result is = let e : BigInt ≡ result = cc in subst IsProper e tt
count-proper place Sum result is = cc
count-proper place Least result is = cc
count-proper place Greatest result is = cc

sum-proper : (place : ℕ) (kind result : SqlType) → IsProper kind → sum_type place kind ≡ Ok result → IsProper result
sum-proper place Boolean result proper is = cc
sum-proper place Integer result proper is = let e : HugeInt ≡ result = cc in subst IsProper e tt
sum-proper place BigInt result proper is = let e : HugeInt ≡ result = cc in subst IsProper e tt
sum-proper place HugeInt result proper is = cc
sum-proper place Date result proper is = cc
sum-proper place Varchar result proper is = cc
sum-proper place (Decimal w s) result proper is = by (nat_le w most_summed) is
  where
    by : (b : Bool) → unless b place SumTooWide (Decimal 38 s) ≡ Ok result → IsProper result
    by false is = cc
    by true is = let e : Decimal 38 s ≡ result = cc in let most = proper.1 in let less = proper.2 in subst IsProper e (omega arith, omega arith, omega arith)

value-proper : (place : ℕ) (function : Function) (kind result : SqlType) → IsProper kind → value_type place function kind ≡ Ok result → IsProper result
value-proper place Count kind result proper is = let e : BigInt ≡ result = cc in subst IsProper e tt
value-proper place Sum kind result proper is = sum-proper place kind result proper is
value-proper place Least kind result proper is = let e : kind ≡ result = cc in subst IsProper e proper
value-proper place Greatest kind result proper is = let e : kind ≡ result = cc in subst IsProper e proper

pub star-typed : (calls : List Call) (limit : ℕ) (view : View) (place : ℕ) (function : Option Function) (part : Part) → star_call view place function ≡ Ok part → IsPartOver (kinds view) calls limit part
star-typed calls limit view place None part is = cc
star-typed calls limit view place (Some function) part is =
    let a = first-answer (count_type place function) _ part is in
    aggregate-typed calls limit view place _ _ a.0 part (count-proper place function a.0 a.1.0) a.1.1

pub value-typed : (calls : List Call) (limit : ℕ) (view : View) (place : ℕ) (function : Option Function) (of part : Part) → IsPartOver (kinds view) calls limit of → value_call view place function of ≡ Ok part → IsPartOver (kinds view) calls limit part
value-typed calls limit view place None of part typed is = cc
value-typed calls limit view place (Some function) of part typed is =
    let a = first-answer (value_type place function (kind_of of.tree)) _ part is in
    aggregate-typed calls limit view place _ _ a.0 part (value-proper place function (kind_of of.tree) a.0 typed.proper a.1.0) a.1.1

pub distinct-typed : (calls : List Call) (limit : ℕ) (view : View) (place : ℕ) (function : Option Function) (of part : Part) → distinct_call view place function of ≡ Ok part → IsPartOver (kinds view) calls limit part
distinct-typed calls limit view place None of part is = cc
distinct-typed calls limit view place (Some function) of part is =
    let a = first-answer (count_type place function) _ part is in
    aggregate-typed calls limit view place _ _ a.0 part (count-proper place function a.0 a.1.0) a.1.1
