-- Trees of the tests are typed.
use Rattle.std.proofs.Common.{◌≡◌, ℕ, Bool, List, [], ◌∷◌, ◌++◌, refl, sym, ap, ◌∙◌, subst}
use Rattle.std.specs.Prelude.{Some, slice_get}
use Rattle.std.specs.List.{AllByRecursion}
use Rattle.ooc_types.specs.declared.value.Value.{Value}
use Rattle.ooc_types.specs.declared.schema.SqlType.{SqlType}
use Rattle.ooc_types.specs.declared.schema.SqlType.TheVariants.{Boolean, Varchar}
use Rattle.sql_expr.specs.declared.tree.ChainSign.{ChainSign}
use Rattle.sql_expr.specs.declared.tree.CompareSign.{CompareSign}
use Rattle.sql_expr.specs.declared.tree.Expr.{Expr}
use Rattle.sql_expr.specs.declared.tree.Link.{Link}
use Rattle.sql_expr.specs.declared.tree.Expr.TheOpen.{Expr-F}
use Rattle.sql_expr.specs.declared.tree.Expr.TheVariants as variant
use Rattle.sql_expr.specs.declared.tree.Expr.TheViews.{outs-Constant, outs-Column, outs-Chain, outs-Compare, outs-Between, outs-OneOf, outs-Every, outs-Either, outs-Like}
use Rattle.sql_expr.specs.Kinds.{kind_of}
use Rattle.sql_expr.specs.Operations.{IsComparable, IsLinked, family}
use Rattle.ooc_types.specs.Meets.{Meets}
use Rattle.sql_expr.specs.Typing.{IsTyped, IsLiteral, FitsRow}
use Rattle.sql_expr.proofs.Nodes.{kind_out, chain_kind}
use Rattle.sql_expr.proofs.Opened.{AllOf}
use Rattle.sql_expr.proofs.Typed.{typed_constant, typed_column, typed_pair, typed_compare, typed_between, typed_one_of, typed_every, typed_either, typed_like}
use Rattle.expr_runs.specs.Built.{columns, limit, IsBuilt, AreBuilt}

pub built_constant : (v : Value) (kind : SqlType) → IsLiteral kind v → IsBuilt kind (variant.Constant v kind)
built_constant v kind h = record { typed = typed_constant columns v kind h; is = kind_out (variant.Constant v kind) (Expr-F.Constant v kind) (outs-Constant v kind) }

pub built_column : (place : ℕ) (kind : SqlType) → slice_get columns place ≡ Some kind → IsBuilt kind (variant.Column place kind)
built_column place kind h = record { typed = typed_column columns place kind h; is = kind_out (variant.Column place kind) (Expr-F.Column place kind) (outs-Column place kind) }

pub same_built : (kind : SqlType) (a e : Expr) → a ≡ e → IsBuilt kind e → IsBuilt kind a
same_built kind a e is h = subst (IsBuilt kind) (sym is) h

pub built_chain : (first a : Expr) (links : List Link) (sign : ChainSign) (right : Expr) (left with kind : SqlType) → a ≡ first
    → links ≡ record { sign = sign; right = right; kind = kind } ∷ [] → IsBuilt left first → IsBuilt with right → IsLinked sign left with kind
    → IsBuilt kind (variant.Chain a links)
built_chain first a links sign right left with kind is one f r linked =
    let item : Link = record { sign = sign; right = right; kind = kind } in
    let typed = typed_pair columns first item left with f.typed f.is r.typed r.is linked in
    let whole : IsBuilt kind (variant.Chain first (item ∷ [])) = record { typed = typed; is = chain_kind (variant.Chain first (item ∷ [])) first (item ∷ []) (outs-Chain first (item ∷ [])) } in
    subst (λ (e : Expr). IsBuilt kind (variant.Chain e links)) (sym is) (subst (λ (ls : List Link). IsBuilt kind (variant.Chain first ls)) (sym one) whole)

comparable : (kind : SqlType) (l r : Expr) → IsBuilt kind l → IsBuilt kind r → IsComparable (kind_of l) (kind_of r)
comparable kind l r a b = ap family (a.is ∙ sym b.is)

pub built_compare : (sign : CompareSign) (kind : SqlType) (l r : Expr) → IsBuilt kind l → IsBuilt kind r → IsBuilt Boolean (variant.Compare sign l r)
built_compare sign kind l r a b =
    record {
      typed = typed_compare columns sign l r a.typed b.typed (comparable kind l r a b);
      is = kind_out (variant.Compare sign l r) (Expr-F.Compare sign l r) (outs-Compare sign l r);
    }

pub built_between : (kind : SqlType) (of low high : Expr) (negated : Bool) → IsBuilt kind of → IsBuilt kind low → IsBuilt kind high
    → IsBuilt Boolean (variant.Between of low high negated)
built_between kind of low high negated o l h =
    record {
      typed = typed_between columns of low high negated o.typed l.typed h.typed (comparable kind of low o l) (comparable kind of high o h);
      is = kind_out (variant.Between of low high negated) (Expr-F.Between of low high negated) (outs-Between of low high negated);
    }

all_typed : (kind : SqlType) (list : List Expr) → AreBuilt kind list → AllOf (IsTyped columns) list
all_typed kind [] all = tt
all_typed kind (e ∷ list) all = (all.0.typed, all_typed kind list all.1)

all_comparable : (kind : SqlType) (of : Expr) (list : List Expr) → IsBuilt kind of → AreBuilt kind list → AllByRecursion (λ e. IsComparable (kind_of of) (kind_of e)) list
all_comparable kind of [] o all = tt
all_comparable kind of (e ∷ list) o all = (comparable kind of e o all.0, all_comparable kind of list o all.1)

all_conditions : (list : List Expr) → AreBuilt Boolean list → AllByRecursion (λ e. kind_of e ≡ Boolean) list
all_conditions [] all = tt
all_conditions (e ∷ list) all = (all.0.is, all_conditions list all.1)

pub built_one_of : (kind : SqlType) (of : Expr) (list : List Expr) (negated : Bool) → IsBuilt kind of → AreBuilt kind list → IsBuilt Boolean (variant.OneOf of list negated)
built_one_of kind of list negated o all =
    record {
      typed = typed_one_of columns of list negated o.typed (all_typed kind list all) (all_comparable kind of list o all);
      is = kind_out (variant.OneOf of list negated) (Expr-F.OneOf of list negated) (outs-OneOf of list negated);
    }

pub built_every : (list : List Expr) → AreBuilt Boolean list → IsBuilt Boolean (variant.Every list)
built_every list all =
    record { typed = typed_every columns list (all_typed Boolean list all) (all_conditions list all); is = kind_out (variant.Every list) (Expr-F.Every list) (outs-Every list) }

pub built_either : (list : List Expr) → AreBuilt Boolean list → IsBuilt Boolean (variant.Either list)
built_either list all =
    record { typed = typed_either columns list (all_typed Boolean list all) (all_conditions list all); is = kind_out (variant.Either list) (Expr-F.Either list) (outs-Either list) }

pub built_like : (of : Expr) (pattern : List ℕ) (negated : Bool) → IsBuilt Varchar of → IsBuilt Boolean (variant.Like of pattern negated)
built_like of pattern negated o =
    record {
      typed = typed_like columns of pattern negated o.typed o.is;
      is = kind_out (variant.Like of pattern negated) (Expr-F.Like of pattern negated) (outs-Like of pattern negated);
    }

behind : (kind : SqlType) (list : List Expr) (e : Expr) → AreBuilt kind list → IsBuilt kind e → AreBuilt kind (list ++ e ∷ [])
behind kind [] e all h = (h, tt)
behind kind (x ∷ list) e all h = (all.0, behind kind list e all.1 h)

pub one_more : (kind : SqlType) (list new : List Expr) (e : Expr) → AreBuilt kind list → IsBuilt kind e → new ≡ list ++ e ∷ [] → AreBuilt kind new
one_more kind list new e all h is = subst (AreBuilt kind) (sym is) (behind kind list e all h)

-- a tree over a row that meets the columns
pub fits : (kind : SqlType) (e : Expr) (row rows : List Value) → IsBuilt kind e → Meets limit columns row → rows ≡ row → FitsRow e rows
fits kind e row rows built meets is =
    record { columns = columns; limit = limit; typed = built.typed; meets = subst (λ (r : List Value). Meets limit columns r) (sym is) meets }
