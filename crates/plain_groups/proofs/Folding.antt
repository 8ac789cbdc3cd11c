-- The state of a list of values, one value more.
use Rattle.std.proofs.Common.{◌≡◌, ℕ, ◌+◌, ◌<◌, ◌+ℤ◌, List, [], ◌∷◌, take, get_or, length, ap, ◌∙◌, arith}
use Rattle.std.specs.List.{fold}
use Rattle.std.proofs.lemmas.Grind.{fold-append}
use Rattle.ooc_types.specs.declared.value.Value.{Value}
use Rattle.sql_expr.specs.Outcomes.{digits_of}
use Rattle.sql_meaning.specs.Aggregates.{State, either_of, greater, lesser, nothing_taken, one_taken, present_value, state_of, together}
use Rattle.plain_rows.proofs.Collecting.{take-next}

pub state-next : (values : List Value) (i : ℕ) (value : Value) → i < length values → value ≡ get_or values i value
    → state_of (take (i + 1) values) ≡ together (state_of (take i values)) (one_taken value)
state-next values i value within is =
    ap state_of (take-next values i value within is) ∙ fold-append (λ state value. together state (one_taken value)) nothing_taken (take i values) (value ∷ [])

pub total-next : (values : List Value) (i : ℕ) (value : Value) → i < length values → value ≡ get_or values i value
    → (state_of (take (i + 1) values)).total ≡ either_of ◌+ℤ◌ (state_of (take i values)).total (digits_of value)
total-next values i value within is = ap (λ (s : State). s.total) (state-next values i value within is)

pub least-next : (values : List Value) (i : ℕ) (value : Value) → i < length values → value ≡ get_or values i value
    → (state_of (take (i + 1) values)).least ≡ either_of lesser (state_of (take i values)).least (present_value value)
least-next values i value within is = ap (λ (s : State). s.least) (state-next values i value within is)

pub most-next : (values : List Value) (i : ℕ) (value : Value) → i < length values → value ≡ get_or values i value
    → (state_of (take (i + 1) values)).most ≡ either_of greater (state_of (take i values)).most (present_value value)
most-next values i value within is = ap (λ (s : State). s.most) (state-next values i value within is)

taken-from : (s : State) (values : List Value) → (fold (λ state value. together state (one_taken value)) s values).taken ≡ s.taken + length values
taken-from s [] = omega arith
taken-from s (value ∷ values) = let h = taken-from (together s (one_taken value)) values in omega arith

pub taken-all : (values : List Value) → (state_of values).taken ≡ length values
taken-all values = taken-from nothing_taken values ∙ (let e : 0 + length values ≡ length values = omega arith in e)
