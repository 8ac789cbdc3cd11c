-- One operand of AND, OR or IN more.
use Rattle.std.proofs.Common.{◌≡◌, ◌≢◌, ℕ, zero, suc, ◌+◌, ◌<◌, true, false, List, [], ◌∷◌, refl, sym, ap, ◌∙◌, subst, get_or, drop, length, arith}
use Rattle.std.specs.Prelude.{Ok, Err}
use Rattle.ooc_types.specs.declared.truth.Truth.{Truth as Ternary}
use Rattle.ooc_types.specs.declared.truth.Truth.TheVariants.{Yes, No, Unknown}
use Rattle.ooc_types.specs.declared.value.Value.{Value}
use Rattle.ooc_types.specs.declared.value.Value.TheVariants.{Truth}
use Rattle.ooc_types.specs.declared.schema.SqlType.{SqlType}
use Rattle.sql_expr.specs.declared.fault.ValueFault.{ValueFault}
use Rattle.sql_expr.specs.declared.tree.Expr.{Expr}
use Rattle.sql_expr.specs.Arithmetic.{Meaning}
use Rattle.sql_expr.specs.Kinds.{kind_of}
use Rattle.sql_expr.specs.Logic.{truth_value, truth_in, and_truth, or_truth}
use Rattle.sql_expr.specs.Meaning.{and_behind, or_behind, every_from, either_from}
use Rattle.sql_expr.specs.Ready.{AreConditions, AreComparable}
use Rattle.sql_expr.specs.Operations.{IsComparable}
use Rattle.sql_expr.specs.Typing.{FitsRow}

pub drop_is : (list : List Expr) (i : ℕ) (e : Expr) → i < length list → e ≡ get_or list i e → drop i list ≡ e ∷ drop (i + 1) list
drop_is [] i e h is = absurd (omega arith)
drop_is (x ∷ list) zero e h is = ap (λ y. y ∷ list) (sym is)
drop_is (x ∷ list) (suc i) e h is =
    let next : suc (i + 1) ≡ suc i + 1 = omega arith in
    drop_is list i e (omega arith) is ∙ ap (λ n. e ∷ drop n (x ∷ list)) next

and_known : (all truth : Ternary) → all ≢ No → and_behind (truth_in (truth_value all)) (Ok (truth_value truth)) ≡ Ok (truth_value (and_truth all truth))
and_known No truth h = absurd (h refl)
and_known Yes Yes h = refl
and_known Yes No h = refl
and_known Yes Unknown h = refl
and_known Unknown Yes h = refl
and_known Unknown No h = refl
and_known Unknown Unknown h = refl

or_known : (any truth : Ternary) → any ≢ Yes → or_behind (truth_in (truth_value any)) (Ok (truth_value truth)) ≡ Ok (truth_value (or_truth any truth))
or_known Yes truth h = absurd (h refl)
or_known No Yes h = refl
or_known No No h = refl
or_known No Unknown h = refl
or_known Unknown Yes h = refl
or_known Unknown No h = refl
or_known Unknown Unknown h = refl

or_fails : (any : Ternary) (fault : ValueFault) → any ≢ Yes → or_behind (truth_in (truth_value any)) (Err fault) ≡ Err fault
or_fails Yes fault h = absurd (h refl)
or_fails No fault h = refl
or_fails Unknown fault h = refl

pub every_next : (all truth next : Ternary) (m : Meaning) (ms : List Meaning) → all ≢ No → m ≡ Ok (truth_value truth) → next ≡ and_truth all truth
    → every_from (Ok (truth_value all)) (m ∷ ms) ≡ every_from (Ok (truth_value next)) ms
every_next all truth next m ms going value is =
    ap (λ (x : Meaning). every_from x ms) (ap (and_behind (truth_in (truth_value all))) value ∙ and_known all truth going ∙ ap (λ t. Ok (truth_value t)) (sym is))

pub either_next : (any truth next : Ternary) (m : Meaning) (ms : List Meaning) → any ≢ Yes → m ≡ Ok (truth_value truth) → next ≡ or_truth any truth
    → either_from (Ok (truth_value any)) (m ∷ ms) ≡ either_from (Ok (truth_value next)) ms
either_next any truth next m ms going value is =
    ap (λ (x : Meaning). either_from x ms) (ap (or_behind (truth_in (truth_value any))) value ∙ or_known any truth going ∙ ap (λ t. Ok (truth_value t)) (sym is))

pub either_fails : (any : Ternary) (fault : ValueFault) (m : Meaning) (ms : List Meaning) → any ≢ Yes → m ≡ Err fault → either_from (Ok (truth_value any)) (m ∷ ms) ≡ Err fault
either_fails any fault m ms going value =
    ap (λ (x : Meaning). either_from x ms) (ap (or_behind (truth_in (truth_value any))) value ∙ or_fails any fault going)

pub every_stops : (next : Ternary) (ms : List Meaning) → next ≡ No → every_from (Ok (truth_value next)) ms ≡ Ok (Truth false)
every_stops next [] h = ap (λ t. Ok (truth_value t)) h
every_stops next (m ∷ ms) h = ap (λ t. every_from (and_behind (truth_in (truth_value t)) m) ms) h ∙ every_stops No ms refl

pub either_stops : (next : Ternary) (ms : List Meaning) → next ≡ Yes → either_from (Ok (truth_value next)) ms ≡ Ok (Truth true)
either_stops next [] h = ap (λ t. Ok (truth_value t)) h
either_stops next (m ∷ ms) h = ap (λ t. either_from (or_behind (truth_in (truth_value t)) m) ms) h ∙ either_stops Yes ms refl

pub conditions_next : (row : List Value) (list : List Expr) (i : ℕ) (e : Expr) → drop i list ≡ e ∷ drop (i + 1) list
    → AreConditions row (drop i list) → AreConditions row (drop (i + 1) list)
conditions_next row list i e is ready = let all = subst (AreConditions row) is ready in all.2

pub comparables_now : (row : List Value) (kind : SqlType) (list : List Expr) (i : ℕ) (e : Expr) → drop i list ≡ e ∷ drop (i + 1) list
    → AreComparable row kind (drop i list) → FitsRow e row × IsComparable kind (kind_of e)
comparables_now row kind list i e is ready = let all = subst (AreComparable row kind) is ready in (all.0, all.1)

pub comparables_next : (row : List Value) (kind : SqlType) (list : List Expr) (i : ℕ) (e : Expr) → drop i list ≡ e ∷ drop (i + 1) list
    → AreComparable row kind (drop i list) → AreComparable row kind (drop (i + 1) list)
comparables_next row kind list i e is ready = let all = subst (AreComparable row kind) is ready in all.2
