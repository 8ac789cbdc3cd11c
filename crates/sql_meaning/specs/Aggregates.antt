-- What aggregates compute of a list of values.
use Rattle.std.specs.Prelude.{ℕ, ℤ, pos, ◌+◌, ◌+ℤ◌, if◌then◌else◌, List, fold, Option, Some, None}
use Rattle.std.specs.Ordering.{is_gt}
use Rattle.ooc_types.specs.declared.value.Value.{Value}
use Rattle.ooc_types.specs.declared.value.Value.TheVariants.{Null, Number}
use Rattle.sql_expr.specs.Outcomes.{digits_of}
use Rattle.sql_expr.specs.Comparison.{is_null}
use Rattle.sql_meaning.specs.declared.kinds.AggKind.{AggKind}
use Rattle.sql_meaning.specs.declared.kinds.AggKind.TheVariants.{CountRows, Count, Sum, Min, Max}
use Rattle.ooc_types.specs.Strict.{strict_cmp}

-- What was taken: how many values, and how many that aren't NULL; of these the sum of the digits, the least and the
-- greatest.
pub record State : Type 0 where
  pub taken : ℕ
  pub present : ℕ
  pub total : Option ℤ
  pub least : Option Value
  pub most : Option Value

-- both, or the one that is there
abbrev pub either_of : {A : Type 0} → (A → A → A) → Option A → Option A → Option A
either_of f None b = b
either_of f (Some a) None = Some a
either_of f (Some a) (Some b) = Some (f a b)

abbrev pub lesser : Value → Value → Value
lesser v w = if is_gt (strict_cmp v w) then w else v

abbrev pub greater : Value → Value → Value
greater v w = if is_gt (strict_cmp v w) then v else w

abbrev pub nothing_taken : State
nothing_taken = record { taken = 0; present = 0; total = None; least = None; most = None }

abbrev pub present_value : Value → Option Value
present_value v = if is_null v then None else Some v

abbrev pub one_taken : Value → State
one_taken v = record { taken = 1; present = if is_null v then 0 else 1; total = digits_of v; least = present_value v; most = present_value v }

abbrev pub together : State → State → State
together s t = record {
  taken = s.taken + t.taken;
  present = s.present + t.present;
  total = either_of ◌+ℤ◌ s.total t.total;
  least = either_of lesser s.least t.least;
  most = either_of greater s.most t.most;
}

-- a left fold over the values
abbrev pub state_of : List Value → State
state_of = fold (λ state value. together state (one_taken value)) nothing_taken

abbrev pub or_null : Option Value → Value
or_null None = Null
or_null (Some v) = v

abbrev pub sum_value : ℕ → Option ℤ → Value
sum_value scale None = Null
sum_value scale (Some total) = Number total scale

-- count of no value is 0; sum, min and max of no value are NULL
abbrev pub finished : AggKind → ℕ → State → Value
finished CountRows scale state = Number (pos state.taken) 0
finished Count scale state = Number (pos state.present) 0
finished Sum scale state = sum_value scale state.total
finished Min scale state = or_null state.least
finished Max scale state = or_null state.most
