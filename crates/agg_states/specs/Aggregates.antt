-- What aggregates compute of a list of values.
use Rattle.std.specs.Prelude.{ℕ, ℤ, pos, ◌+◌, ◌+ℤ◌, Bool, true, false, if◌then◌else◌, List, Option, Some, None}
use Rattle.std.specs.List.{fold}
use Rattle.std.specs.declared.cmp.Ordering.{Ordering}
use Rattle.std.specs.Ordering.{is_gt}
use Rattle.ooc_types.specs.declared.value.Value.{Value}
use Rattle.ooc_types.specs.declared.value.Value.TheVariants.{Null, Truth, Number, Day, Text}
use Rattle.ooc_types.specs.Strict.{strict_cmp}
use Rattle.agg_states.specs.declared.kind.Best.{Best}
use Rattle.agg_states.specs.declared.kind.Best.TheVariants.{Least, Most}
use Rattle.agg_states.specs.declared.kind.AggKind.{AggKind}
use Rattle.agg_states.specs.declared.kind.AggKind.TheVariants.{CountRows, Count, Sum, Min, Max}

-- What was taken: how many values, and how many that aren't NULL; of these the sum of the digits, the least and the
-- greatest.
pub record State : Type 0 where
  pub taken : ℕ
  pub present : ℕ
  pub total : Option ℤ
  pub least : Option Value
  pub most : Option Value

-- both, or the one that is there
abbrev pub either_of : {A : Type 0} → (A → A → A) → Option A → Option A → Option A
either_of f None b = b
either_of f (Some a) None = Some a
either_of f (Some a) (Some b) = Some (f a b)

-- where the first stands to the second, as the least and as the greatest of them are looked for
abbrev pub past : Best → Value → Value → Ordering
past Least v w = strict_cmp v w
past Most v w = strict_cmp w v

-- the one of two that isn't past the other
abbrev pub better : Best → Value → Value → Value
better best v w = if is_gt (past best v w) then w else v

abbrev pub is_null : Value → Bool
is_null Null = true
is_null (Truth truth) = false
is_null (Number digits scale) = false
is_null (Day day) = false
is_null (Text bytes) = false

-- the digits of a number, and none of another value
abbrev pub digits_of : Value → Option ℤ
digits_of (Number digits scale) = Some digits
digits_of Null = None
digits_of (Truth truth) = None
digits_of (Day day) = None
digits_of (Text bytes) = None

abbrev pub nothing_taken : State
nothing_taken = record { taken = 0; present = 0; total = None; least = None; most = None }

abbrev pub present_value : Value → Option Value
present_value v = if is_null v then None else Some v

abbrev pub one_taken : Value → State
one_taken v = record { taken = 1; present = if is_null v then 0 else 1; total = digits_of v; least = present_value v; most = present_value v }

abbrev pub together : State → State → State
together s t = record {
  taken = s.taken + t.taken;
  present = s.present + t.present;
  total = either_of ◌+ℤ◌ s.total t.total;
  least = either_of (better Least) s.least t.least;
  most = either_of (better Most) s.most t.most;
}

-- a left fold over the values
abbrev pub state_of : List Value → State
state_of = fold (λ state value. together state (one_taken value)) nothing_taken

abbrev pub or_null : Option Value → Value
or_null None = Null
or_null (Some v) = v

-- the digits of a number at this scale, or NULL
abbrev pub number_value : ℕ → Option ℤ → Value
number_value scale None = Null
number_value scale (Some digits) = Number digits scale

-- count of no value is 0; sum, min and max of no value are NULL
abbrev pub finished : AggKind → ℕ → State → Value
finished CountRows scale state = Number (pos state.taken) 0
finished Count scale state = Number (pos state.present) 0
finished Sum scale state = number_value scale state.total
finished Min scale state = or_null state.least
finished Max scale state = or_null state.most
