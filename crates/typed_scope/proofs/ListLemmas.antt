-- LIKE, and IN with constants, of typed operands are typed.
use Rattle.std.proofs.Common.{◌≡◌, ℕ, Bool, true, false, List, [], ◌∷◌, refl, sym, ap, ◌∙◌, subst, Ok}
use Rattle.std.specs.List.{AllByRecursion}
use Rattle.std.proofs.lemmas.Bool.{and_parts}
use Rattle.ooc_types.specs.declared.refusal.RefusalKind.{RefusalKind}
use Rattle.ooc_types.specs.declared.refusal.RefusalKind.TheVariants.{TypeMismatch}
use Rattle.ooc_types.specs.declared.schema.SqlType.{SqlType}
use Rattle.ooc_types.specs.declared.schema.SqlType.TheVariants.{Boolean, Integer, BigInt, HugeInt, Decimal, Date, Varchar}
use Rattle.sql_expr.specs.declared.tree.Expr.{Expr}
use Rattle.sql_expr.specs.declared.tree.Expr.TheOpen.{Expr-F}
use Rattle.sql_expr.specs.declared.tree.Expr.TheVariants.{Like, OneOf, rolls-Like, rolls-OneOf}
use Rattle.sql_expr.specs.declared.tree.Expr.TheViews.{out-Expr, out-roll-Expr}
use Rattle.sql_expr.specs.Kinds.{kind_of}
use Rattle.sql_expr.specs.Operations.{IsComparable}
use Rattle.sql_expr.specs.Values.{HasShortTexts, IsShortNode}
use Rattle.sql_expr.proofs.Every.{every_like, every_one_of}
use Rattle.sql_expr.proofs.Nodes.{kind_out}
use Rattle.sql_grammar.specs.declared.tree.expr.Span.{Span}
use Rattle.sql_scope.specs.declared.part.Part.{Part}
use Rattle.sql_scope.specs.Answer.{unless}
use Rattle.sql_scope.specs.Literals.{text_literal}
use Rattle.sql_scope.specs.Operations.{are_comparable, is_text}
use Rattle.sql_scope.specs.Parts.{like, one_of, over_one, part_of}
use Rattle.sql_scope.specs.Scopes.{View}
use Rattle.sql_scope.specs.Trees as trees
use Rattle.typed_scope.specs.Typed.{IsTypedNodeOver, IsTypedOver, IsTypedPart, Seen}
use Rattle.typed_scope.proofs.LeafLemmas.{first-answer}
use Rattle.typed_scope.proofs.PartLemmas.{answered, asked, boolean-out, comparable}

given : {A : Type 0} (holds : Bool) (place : ℕ) (kind : RefusalKind) (a b : A) → unless holds place kind a ≡ Ok b → (holds ≡ true) × (a ≡ b)
given true place kind a b is = (refl, (let e : a ≡ b = cc in e))
given false place kind a b is = cc

text-kind : (kind : SqlType) → is_text kind ≡ true → kind ≡ Varchar
text-kind Boolean is = cc
text-kind Integer is = cc
text-kind BigInt is = cc
text-kind HugeInt is = cc
text-kind (Decimal w s) is = cc
text-kind Date is = cc
text-kind Varchar is = refl

all-compare : (kind : SqlType) (list : List Expr) → trees.all_comparable kind list ≡ true → AllByRecursion (λ (e : Expr). IsComparable kind (kind_of e)) list
all-compare kind [] is = tt
all-compare kind (e ∷ list) is =
    let both = and_parts (are_comparable kind (kind_of e)) (trees.all_comparable kind list) is in (comparable kind (kind_of e) both.0, all-compare kind list both.1)

module _ (seen : Seen) (width limit : ℕ) where
  abbrev Typed : Part → Type 0
  Typed = IsTypedPart seen width limit

  pub like-typed : (view : View) (place : ℕ) (negated : Bool) (pattern : Span) (of part : Part) → Typed of → like view place negated pattern of ≡ Ok part → Typed part
  like-typed view place negated pattern of part typed is =
      let a = first-answer (trees.like view place negated pattern of.tree) (over_one view of) part is in
      let b = first-answer (text_literal view pattern) (λ text. unless (is_text (kind_of of.tree)) place TypeMismatch (Like of.tree text negated)) a.0 a.1.0 in
      let g = given (is_text (kind_of of.tree)) place TypeMismatch (Like of.tree b.0 negated) a.0 b.1.1 in
      answered Typed (part_of view a.0 of.bare of.calls) part a.1.1 (subst (λ (t : Expr). Typed (part_of view t of.bare of.calls)) g.1 (record {
        typed = λ calls. every_like (IsTypedNodeOver seen) of.tree b.0 negated (typed.typed calls) (text-kind (kind_of of.tree) g.0);
        short = every_like (IsShortNode limit) of.tree b.0 negated typed.short tt;
        proper = boolean-out (Like of.tree b.0 negated) (kind_out (Like of.tree b.0 negated) (Expr-F.Like of.tree b.0 negated)
            (ap out-Expr (sym (rolls-Like of.tree b.0 negated)) ∙ out-roll-Expr (Expr-F.Like of.tree b.0 negated)));
      }))

  pub one_of-typed : (view : View) (place : ℕ) (negated : Bool) (of : Part) (list : List Expr) (part : Part) → Typed of → AllByRecursion (IsTypedOver seen) list → AllByRecursion (HasShortTexts limit) list
      → one_of view place negated of list ≡ Ok part → Typed part
  one_of-typed view place negated of list part typed constants shorts is =
      let tree = OneOf of.tree list negated in
      let a = asked (trees.all_comparable (kind_of of.tree) list) place TypeMismatch tree (over_one view of) part is in
      answered Typed (part_of view tree of.bare of.calls) part a.1 (record {
        typed = λ calls. every_one_of (IsTypedNodeOver seen) of.tree list negated (typed.typed calls) constants (all-compare (kind_of of.tree) list a.0);
        short = every_one_of (IsShortNode limit) of.tree list negated typed.short shorts tt;
        proper = boolean-out tree (kind_out tree (Expr-F.OneOf of.tree list negated) (ap out-Expr (sym (rolls-OneOf of.tree list negated)) ∙ out-roll-Expr (Expr-F.OneOf of.tree list negated)));
      })
