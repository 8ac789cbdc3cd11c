-- What operations make of typed operands is typed.
use Rattle.std.proofs.Common.{◌≡◌, ℕ, ◌+◌, Bool, true, false, ◌&&◌, List, [], ◌∷◌, ◌++◌, refl, sym, ap, ◌∙◌, subst, Ok}
use Rattle.std.specs.List.{AllByRecursion}
use Rattle.std.proofs.lemmas.Bool.{and_parts}
use Rattle.ooc_types.specs.declared.refusal.RefusalKind.{RefusalKind}
use Rattle.ooc_types.specs.declared.schema.SqlType.{SqlType}
use Rattle.ooc_types.specs.declared.schema.SqlType.TheVariants.{Boolean, Integer, BigInt, HugeInt, Decimal, Date, Varchar}
use Rattle.ooc_decimal.specs.Numeric.{IsNumeric}
use Rattle.sql_expr.specs.declared.families.Family.{Family}
use Rattle.sql_expr.specs.declared.families.Family.TheVariants.{Truths, Numbers, Texts, Dates}
use Rattle.sql_expr.specs.declared.tree.Expr.{Expr}
use Rattle.sql_expr.specs.declared.tree.Expr.TheOpen.{Expr-F}
use Rattle.sql_expr.specs.declared.tree.Expr.TheVariants.{Not, Minus, Compare, IsNull, Between, rolls-Not, rolls-Minus, rolls-Compare, rolls-IsNull, rolls-Between}
use Rattle.sql_expr.specs.declared.tree.Expr.TheViews.{out-Expr, out-roll-Expr}
use Rattle.sql_expr.specs.Kinds.{kind_of}
use Rattle.sql_expr.specs.Operations.{IsComparable, IsProper, family}
use Rattle.sql_expr.specs.Values.{IsShortNode}
use Rattle.sql_expr.proofs.Every.{every_not, every_minus, every_compare, every_is_null, every_between}
use Rattle.sql_expr.proofs.Nodes.{kind_out}
use Rattle.sql_grammar.specs.declared.tree.expr.CompareSign.{CompareSign as WrittenCompare}
use Rattle.sql_scope.specs.declared.part.Call.{Call}
use Rattle.sql_scope.specs.declared.part.Part.{Part}
use Rattle.sql_scope.specs.Answer.{Answer, ◌>>=◌, unless}
use Rattle.sql_scope.specs.Operations.{are_comparable, are_of_one, is_boolean, is_number}
use Rattle.sql_scope.specs.Parts.{between, comparison, minus, negation, null_test, part_of}
use Rattle.sql_scope.specs.Scopes.{View}
use Rattle.sql_scope.specs.Trees.{compare_sign}
use Rattle.typed_scope.specs.Typed.{AreSeen, IsTypedNodeOver, IsTypedOver, IsTypedPart, Seen}

-- ---- what was asked for, where there is an answer

pub asked : {A B : Type 0} (holds : Bool) (place : ℕ) (kind : RefusalKind) (a : A) (f : A → Answer B) (b : B) → (unless holds place kind a >>= f) ≡ Ok b → (holds ≡ true) × (f a ≡ Ok b)
asked true place kind a f b is = (refl, is)
asked false place kind a f b is = cc

pub answered : {A : Type 0} (P : A → Type 0) (a b : A) → ◌≡◌ {A = Answer A} (Ok a) (Ok b) → P a → P b
answered P a b is h = let same : a ≡ b = cc in subst P same h

-- ---- types by their families

pub truth-kind : (kind : SqlType) → is_boolean kind ≡ true → kind ≡ Boolean
truth-kind Boolean is = refl
truth-kind Integer is = cc
truth-kind BigInt is = cc
truth-kind HugeInt is = cc
truth-kind (Decimal w s) is = cc
truth-kind Date is = cc
truth-kind Varchar is = cc

number-kind : (kind : SqlType) → IsProper kind → is_number kind ≡ true → IsNumeric kind
number-kind Boolean proper is = cc
number-kind Integer proper is = tt
number-kind BigInt proper is = tt
number-kind HugeInt proper is = tt
number-kind (Decimal w s) proper is = proper
number-kind Date proper is = cc
number-kind Varchar proper is = cc

one-family : (f g : Family) → are_of_one f g ≡ true → f ≡ g
one-family Truths Truths is = refl
one-family Truths Numbers is = cc
one-family Truths Texts is = cc
one-family Truths Dates is = cc
one-family Numbers Truths is = cc
one-family Numbers Numbers is = refl
one-family Numbers Texts is = cc
one-family Numbers Dates is = cc
one-family Texts Truths is = cc
one-family Texts Numbers is = cc
one-family Texts Texts is = refl
one-family Texts Dates is = cc
one-family Dates Truths is = cc
one-family Dates Numbers is = cc
one-family Dates Texts is = cc
one-family Dates Dates is = refl

pub comparable : (k l : SqlType) → are_comparable k l ≡ true → IsComparable k l
comparable k l is = one-family (family k) (family l) is

-- ---- the parts of a list of aggregates

pub front : {A : Type 0} (P : A → Type 0) (xs ys : List A) → AllByRecursion P (xs ++ ys) → AllByRecursion P xs
front P [] ys all = tt
front P (x ∷ xs) ys all = (all.0, front P xs ys all.1)

pub back : {A : Type 0} (P : A → Type 0) (xs ys : List A) → AllByRecursion P (xs ++ ys) → AllByRecursion P ys
back P [] ys all = all
back P (x ∷ xs) ys all = back P xs ys all.1

-- ---- the type of a node

pub boolean-out : (e : Expr) → kind_of e ≡ Boolean → IsProper (kind_of e)
boolean-out e is = subst IsProper (sym is) tt

minus-kind : (of : Expr) (kind : SqlType) → kind_of (Minus of kind) ≡ kind
minus-kind of kind = kind_out (Minus of kind) (Expr-F.Minus of kind) (ap out-Expr (sym (rolls-Minus of kind)) ∙ out-roll-Expr (Expr-F.Minus of kind))

not-kind : (of : Expr) → kind_of (Not of) ≡ Boolean
not-kind of = kind_out (Not of) (Expr-F.Not of) (ap out-Expr (sym (rolls-Not of)) ∙ out-roll-Expr (Expr-F.Not of))

module _ (seen : Seen) (width limit : ℕ) where
  abbrev Typed : Part → Type 0
  Typed = IsTypedPart seen width limit

  abbrev Over : Expr → Type 0
  Over = IsTypedOver seen

  abbrev AllSeen : List Call → Type 0
  AllSeen = AreSeen seen width

  abbrev IsSeenCall : Call → Type 0
  IsSeenCall call = seen (width + call.place) call.aggregate.result

  pub minus-typed : (view : View) (place : ℕ) (of part : Part) → Typed of → minus view place of ≡ Ok part → Typed part
  minus-typed view place of part typed is =
      let kind = kind_of of.tree in
      let a = asked (is_number kind) place _ (Minus of.tree kind) _ part is in
      answered Typed (part_of view (Minus of.tree kind) of.bare of.calls) part a.1 (record {
        typed = λ calls. every_minus (IsTypedNodeOver seen) of.tree kind (typed.typed calls) (number-kind kind typed.proper a.0, refl);
        short = every_minus (IsShortNode limit) of.tree kind typed.short tt;
        proper = subst IsProper (sym (minus-kind of.tree kind)) typed.proper;
      })

  pub negation-typed : (view : View) (place : ℕ) (of part : Part) → Typed of → negation view place of ≡ Ok part → Typed part
  negation-typed view place of part typed is =
      let a = asked (is_boolean (kind_of of.tree)) place _ (Not of.tree) _ part is in
      answered Typed (part_of view (Not of.tree) of.bare of.calls) part a.1 (record {
        typed = λ calls. every_not (IsTypedNodeOver seen) of.tree (typed.typed calls) (truth-kind (kind_of of.tree) a.0);
        short = every_not (IsShortNode limit) of.tree typed.short tt;
        proper = boolean-out (Not of.tree) (not-kind of.tree);
      })

  pub comparison-typed : (view : View) (place : ℕ) (sign : WrittenCompare) (left right part : Part) → Typed left → Typed right → comparison view place sign left right ≡ Ok part → Typed part
  comparison-typed view place sign left right part l r is =
      let tree = Compare (compare_sign sign) left.tree right.tree in
      let a = asked (are_comparable (kind_of left.tree) (kind_of right.tree)) place _ tree _ part is in
      answered Typed (part_of view tree _ (left.calls ++ right.calls)) part a.1 (record {
        typed = λ calls. every_compare (IsTypedNodeOver seen) (compare_sign sign) left.tree right.tree (l.typed (front IsSeenCall left.calls right.calls calls)) (r.typed (back IsSeenCall left.calls right.calls calls))
            (comparable (kind_of left.tree) (kind_of right.tree) a.0);
        short = every_compare (IsShortNode limit) (compare_sign sign) left.tree right.tree l.short r.short tt;
        proper = boolean-out tree (kind_out tree (Expr-F.Compare (compare_sign sign) left.tree right.tree)
            (ap out-Expr (sym (rolls-Compare (compare_sign sign) left.tree right.tree)) ∙ out-roll-Expr (Expr-F.Compare (compare_sign sign) left.tree right.tree)));
      })

  pub null_test-typed : (view : View) (negated : Bool) (of part : Part) → Typed of → null_test view negated of ≡ Ok part → Typed part
  null_test-typed view negated of part typed is =
      answered Typed (part_of view (IsNull of.tree negated) of.bare of.calls) part is (record {
        typed = λ calls. every_is_null (IsTypedNodeOver seen) of.tree negated (typed.typed calls) tt;
        short = every_is_null (IsShortNode limit) of.tree negated typed.short tt;
        proper = boolean-out (IsNull of.tree negated) (kind_out (IsNull of.tree negated) (Expr-F.IsNull of.tree negated)
            (ap out-Expr (sym (rolls-IsNull of.tree negated)) ∙ out-roll-Expr (Expr-F.IsNull of.tree negated)));
      })

  pub between-typed : (view : View) (place : ℕ) (negated : Bool) (of low high part : Part) → Typed of → Typed low → Typed high → between view place negated of low high ≡ Ok part → Typed part
  between-typed view place negated of low high part o l h is =
      let tree = Between of.tree low.tree high.tree negated in
      let first = are_comparable (kind_of of.tree) (kind_of low.tree) in
      let second = are_comparable (kind_of of.tree) (kind_of high.tree) in
      let a = asked (first && second) place _ tree _ part is in
      let both = and_parts first second a.0 in
      answered Typed (part_of view tree _ (of.calls ++ (low.calls ++ high.calls))) part a.1 (record {
        typed = λ calls. let later = back IsSeenCall of.calls (low.calls ++ high.calls) calls in
            every_between (IsTypedNodeOver seen) of.tree low.tree high.tree negated
            (o.typed (front IsSeenCall of.calls (low.calls ++ high.calls) calls)) (l.typed (front IsSeenCall low.calls high.calls later)) (h.typed (back IsSeenCall low.calls high.calls later))
            (comparable (kind_of of.tree) (kind_of low.tree) both.0, comparable (kind_of of.tree) (kind_of high.tree) both.1);
        short = every_between (IsShortNode limit) of.tree low.tree high.tree negated o.short l.short h.short tt;
        proper = boolean-out tree (kind_out tree (Expr-F.Between of.tree low.tree high.tree negated)
            (ap out-Expr (sym (rolls-Between of.tree low.tree high.tree negated)) ∙ out-roll-Expr (Expr-F.Between of.tree low.tree high.tree negated)));
      })
