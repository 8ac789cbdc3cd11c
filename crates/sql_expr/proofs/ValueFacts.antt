-- A fact that columns, literals and the results of operations have is one of every value.
use Rattle.std.proofs.Common.{◌≡◌, ℕ, zero, suc, Bool, true, false, cond, ◌||◌, not, List, [], ◌∷◌, map, refl, sym, ap, subst}
use Rattle.std.specs.Prelude.{ℤ, pos, negsuc, slice_get, slice_index_or, Some, Ok, Err}
use Rattle.ooc_types.specs.declared.truth.Truth.{Truth as Ternary}
use Rattle.ooc_types.specs.declared.truth.Truth.TheVariants.{Yes, No, Unknown}
use Rattle.ooc_types.specs.declared.value.Value.{Value}
use Rattle.ooc_types.specs.declared.value.Value.TheVariants.{Null, Truth, Number}
use Rattle.ooc_types.specs.declared.schema.SqlType.{SqlType}
use Rattle.ooc_types.specs.declared.schema.SqlType.TheVariants.{Boolean}
use Rattle.sql_expr.specs.declared.fault.ValueFault.TheVariants.{Overflow}
use Rattle.sql_expr.specs.declared.tree.ChainSign.{ChainSign}
use Rattle.sql_expr.specs.declared.tree.ChainSign.TheVariants.{Plus, Minus, Times, Quotient, Remainder}
use Rattle.sql_expr.specs.declared.tree.CompareSign.{CompareSign}
use Rattle.sql_expr.specs.declared.tree.Expr.{Expr}
use Rattle.sql_expr.specs.declared.tree.Link.{Link}
use Rattle.sql_expr.specs.declared.tree.Expr.TheOpen.{Expr-F, Link-F}
use Rattle.sql_expr.specs.declared.tree.Expr.TheFolds.{ind-Expr}
use Rattle.sql_expr.specs.declared.tree.Expr.TheViews.{out-Expr, roll-Expr, out-roll-Expr}
use Rattle.sql_expr.specs.Arithmetic.{Meaning, is_in_range, amount, exact, unless_zero, combined, counted, numbers_applied, applied, opposite}
use Rattle.sql_expr.specs.Comparison.{compared, holds, is_null}
use Rattle.ooc_types.specs.Order.{value_cmp}
use Rattle.sql_expr.specs.Kinds.{kind_of, last_kind}
use Rattle.sql_expr.specs.Logic.{truth_value, truth_in, negated_if, and_truth, or_truth}
use Rattle.sql_expr.specs.Meaning.{value_of, then_value, perhaps_not, and_behind, or_behind, every_from, either_from, plain_link, linked, chain_from, comparison, one_of, between, null_test, liked}
use Rattle.sql_expr.specs.Operations.{IsProper}
use Rattle.sql_expr.specs.Typing.{IsTyped, IsLiteral, AreLinks}
use Rattle.sql_expr.specs.Values.{OnValue}
use Rattle.sql_expr.proofs.Linked.{linked_proper, numeric_proper}
use Rattle.sql_expr.proofs.Nodes.{value_out, kind_out, chain_value, chain_kind}
use Rattle.sql_expr.proofs.Opened.{opened_typed, Children, children_hold}

on_then : (P : Value → Type 0) (m : Meaning) (f : Value → Meaning) → ((v : Value) → OnValue P (f v)) → OnValue P (then_value m f)
on_then P (Err fault) f h = tt
on_then P (Ok v) f h = h v

-- what a fact must hold of
pub record Rules (Fact : SqlType → Value → Type 0) : Type 0 where
  pub null : (kind : SqlType) → Fact kind Null
  pub truth : (b : Bool) → Fact Boolean (Truth b)
  pub amounts : (kind : SqlType) (digits : ℤ) → IsProper kind → is_in_range kind digits ≡ true → Fact kind (amount kind digits)

module _ (Fact : SqlType → Value → Type 0) (rules : Rules Fact) where
  abbrev On : SqlType → Meaning → Type 0
  On kind m = OnValue (Fact kind) m

  truths : (t : Ternary) → Fact Boolean (truth_value t)
  truths Yes = rules.truth true
  truths No = rules.truth false
  truths Unknown = rules.null Boolean

  negations : (negated : Bool) (v : Value) → On Boolean (perhaps_not negated v)
  negations negated v = truths (negated_if negated (truth_in v))

  comparisons : (sign : CompareSign) (v w : Value) → Fact Boolean (compared sign v w)
  comparisons sign v w =
      elim (is_null v || is_null w) as (λ (b : Bool). Fact Boolean (cond b Null (Truth (holds sign (value_cmp v w))))) [
        | true ↦ rules.null Boolean
        | false ↦ rules.truth (holds sign (value_cmp v w))
      ]

  compared_on : (sign : CompareSign) (m n : Meaning) → On Boolean (comparison sign m n)
  compared_on sign m n = on_then (Fact Boolean) m _ (λ v. on_then (Fact Boolean) n _ (λ w. comparisons sign v w))

  and_on : (t : Ternary) (m : Meaning) → On Boolean (and_behind t m)
  and_on No m = rules.truth false
  and_on Yes m = on_then (Fact Boolean) m _ (λ w. truths (and_truth Yes (truth_in w)))
  and_on Unknown m = on_then (Fact Boolean) m _ (λ w. truths (and_truth Unknown (truth_in w)))

  or_on : (t : Ternary) (m : Meaning) → On Boolean (or_behind t m)
  or_on Yes m = rules.truth true
  or_on No m = on_then (Fact Boolean) m _ (λ w. truths (or_truth No (truth_in w)))
  or_on Unknown m = on_then (Fact Boolean) m _ (λ w. truths (or_truth Unknown (truth_in w)))

  every_on : (m : Meaning) (ms : List Meaning) → On Boolean m → On Boolean (every_from m ms)
  every_on (Err fault) ms h = tt
  every_on (Ok v) [] h = h
  every_on (Ok v) (n ∷ ns) h = every_on (and_behind (truth_in v) n) ns (and_on (truth_in v) n)

  either_on : (m : Meaning) (ms : List Meaning) → On Boolean m → On Boolean (either_from m ms)
  either_on (Err fault) ms h = tt
  either_on (Ok v) [] h = h
  either_on (Ok v) (n ∷ ns) h = either_on (or_behind (truth_in v) n) ns (or_on (truth_in v) n)

  exact_on : (kind : SqlType) (digits : ℤ) → IsProper kind → On kind (exact kind digits)
  exact_on kind digits proper =
      elim (is_in_range kind digits) as (λ (b : Bool). is_in_range kind digits ≡ b → On kind (cond b (Ok (amount kind digits)) (Err Overflow))) [
        | true ↦ λ h. rules.amounts kind digits proper h
        | false ↦ λ h. tt
      ] refl

  unless_on : (kind : SqlType) (b : ℤ) (m : Meaning) → On kind m → On kind (unless_zero b m)
  unless_on kind (pos zero) m h = rules.null kind
  unless_on kind (pos (suc n)) m h = h
  unless_on kind (negsuc n) m h = h

  combined_on : (sign : ChainSign) (kind : SqlType) (a : ℤ) (m : ℕ) (b : ℤ) (n : ℕ) → IsProper kind → On kind (combined sign kind a m b n)
  combined_on Plus kind a m b n proper = exact_on kind _ proper
  combined_on Minus kind a m b n proper = exact_on kind _ proper
  combined_on Times kind a m b n proper = exact_on kind _ proper
  combined_on Quotient kind a m b n proper = unless_on kind b _ (exact_on kind _ proper)
  combined_on Remainder kind a m b n proper = unless_on kind b _ (exact_on kind _ proper)

  numbers_on : (sign : ChainSign) (kind : SqlType) (v w : Value) → IsProper kind → On kind (numbers_applied sign kind v w)
  numbers_on sign kind (Number a m) (Number b n) proper = combined_on sign kind a m b n proper
  numbers_on sign kind v w proper = rules.null kind

  applied_on : (sign : ChainSign) (kind : SqlType) (v w : Value) → IsProper kind → On kind (applied sign kind v w)
  applied_on sign kind v w proper = numbers_on sign kind (counted v) (counted w) proper

  opposite_on : (kind : SqlType) (v : Value) → IsProper kind → On kind (opposite kind v)
  opposite_on kind (Number a m) proper = exact_on kind _ proper
  opposite_on kind v proper = rules.null kind

  chain_on : (row : List Value) (kind : SqlType) (m : Meaning) (links : List Link) → On kind m → AreLinks kind links
      → On (last_kind kind (map (λ link. link.kind) links)) (chain_from m (map (plain_link row) links))
  chain_on row kind (Err fault) links h typed = tt
  chain_on row kind (Ok v) [] h typed = h
  chain_on row kind (Ok v) (link ∷ links) h typed =
      chain_on row link.kind (linked (Ok v) (plain_link row link)) links
      (on_then (Fact link.kind) (value_of row link.right) _
      (λ w. applied_on link.sign link.kind v w (linked_proper link.sign kind (kind_of link.right) link.kind typed.0))) typed.1

  -- typed over columns whose values have the fact, with literals that have it where a premise of the tree holds
  module _ (columns : List SqlType) (row : List Value)
      (column : (place : ℕ) (kind : SqlType) → slice_get columns place ≡ Some kind → Fact kind (slice_index_or row place Null))
      (Premise : Expr → Type 0)
      (literal : (e : Expr) (v : Value) (kind : SqlType) → out-Expr e ≡ Expr-F.Constant v kind → Premise e → IsLiteral kind v → Fact kind v)
      (first : (e of : Expr) (links : List Link) → out-Expr e ≡ Expr-F.Chain of links → Premise e → Premise of) where
    abbrev Has : Expr → Type 0
    Has e = IsTyped columns e → Premise e → On (kind_of e) (value_of row e)

    -- a node by its type and its value
    by : (e : Expr) (kind : SqlType) (m : Meaning) → kind_of e ≡ kind → value_of row e ≡ m → On kind m → On (kind_of e) (value_of row e)
    by e kind m k v h = subst (λ (x : SqlType). On x (value_of row e)) (sym k) (subst (On kind) (sym v) h)

    node_has : (e : Expr) (x : Expr-F Expr Link) → out-Expr e ≡ x → Children Has x → Has e
    node_has e (Expr-F.Constant v k) is have typed premise =
        by e k (Ok v) (kind_out e (Expr-F.Constant v k) is) (value_out row e (Expr-F.Constant v k) is)
        (literal e v k is premise (opened_typed columns e (Expr-F.Constant v k) typed is).node)
    node_has e (Expr-F.Column place k) is have typed premise =
        by e k (Ok (slice_index_or row place Null)) (kind_out e (Expr-F.Column place k) is) (value_out row e (Expr-F.Column place k) is)
        (column place k (opened_typed columns e (Expr-F.Column place k) typed is).node)
    node_has e (Expr-F.Not of) is have typed premise =
        by e Boolean _ (kind_out e (Expr-F.Not of) is) (value_out row e (Expr-F.Not of) is) (on_then (Fact Boolean) (value_of row of) _ (negations true))
    node_has e (Expr-F.Minus of k) is have typed premise =
        by e k _ (kind_out e (Expr-F.Minus of k) is) (value_out row e (Expr-F.Minus of k) is)
        (on_then (Fact k) (value_of row of) _ (λ v. opposite_on k v (numeric_proper k (opened_typed columns e (Expr-F.Minus of k) typed is).node.0)))
    node_has e (Expr-F.Every list) is have typed premise =
        by e Boolean _ (kind_out e (Expr-F.Every list) is) (value_out row e (Expr-F.Every list) is) (every_on (Ok (Truth true)) (map (value_of row) list) (rules.truth true))
    node_has e (Expr-F.Either list) is have typed premise =
        by e Boolean _ (kind_out e (Expr-F.Either list) is) (value_out row e (Expr-F.Either list) is) (either_on (Ok (Truth false)) (map (value_of row) list) (rules.truth false))
    node_has e (Expr-F.Chain of links) is have typed premise =
        let n = opened_typed columns e (Expr-F.Chain of links) typed is in
        by e _ _ (chain_kind e of links is) (chain_value row e of links is)
        (chain_on row (kind_of of) (value_of row of) links (have.0 n.children.0 (first e of links is premise)) n.node.1)
    node_has e (Expr-F.Compare sign left right) is have typed premise =
        by e Boolean _ (kind_out e (Expr-F.Compare sign left right) is) (value_out row e (Expr-F.Compare sign left right) is)
        (compared_on sign (value_of row left) (value_of row right))
    node_has e (Expr-F.IsNull of negated) is have typed premise =
        by e Boolean _ (kind_out e (Expr-F.IsNull of negated) is) (value_out row e (Expr-F.IsNull of negated) is)
        (on_then (Fact Boolean) (value_of row of) (λ v. Ok (null_test negated v)) (λ v. rules.truth (cond negated (not (is_null v)) (is_null v))))
    node_has e (Expr-F.Like of pattern negated) is have typed premise =
        by e Boolean _ (kind_out e (Expr-F.Like of pattern negated) is) (value_out row e (Expr-F.Like of pattern negated) is)
        (on_then (Fact Boolean) (value_of row of) _ (λ v. negations negated (liked pattern v)))
    node_has e (Expr-F.OneOf of list negated) is have typed premise =
        by e Boolean _ (kind_out e (Expr-F.OneOf of list negated) is) (value_out row e (Expr-F.OneOf of list negated) is)
        (on_then (Fact Boolean) (one_of (value_of row of) (map (value_of row) list)) _ (negations negated))
    node_has e (Expr-F.Between of low high negated) is have typed premise =
        by e Boolean _ (kind_out e (Expr-F.Between of low high negated) is) (value_out row e (Expr-F.Between of low high negated) is)
        (on_then (Fact Boolean) (between (value_of row of) (value_of row low) (value_of row high)) _ (negations negated))

    has : (e : Expr) → Has e
    has = ind-Expr Has (λ l. Has l.right)
        (λ x y is. node_has (roll-Expr x) x (out-roll-Expr x) (children_hold Has (λ l. Has l.right) Has (λ e p. p) (λ l p. p) x y is))
        (λ x y is. subst Has (ap (λ (l : Link-F Expr Link). l.right) is) y.right.1)

    pub has_fact : (e : Expr) → IsTyped columns e → Premise e → On (kind_of e) (value_of row e)
    has_fact e typed premise = has e typed premise
