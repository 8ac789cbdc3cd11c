-- Ways to compute an aggregate: values are added one by one, and aggregates are merged in any grouping.
use Rattle.std.specs.Prelude.{◌≡◌, ℕ, Bool, true, false, if◌then◌else◌, List, [], ◌∷◌, ◌++◌, length, All}
use Rattle.std.specs.List.{fold}
use Rattle.ooc_types.specs.declared.value.Value.{Value}
use Rattle.ooc_types.specs.declared.schema.SqlType.{SqlType}
use Rattle.ooc_decimal.specs.Numeric.{scale_of}
use Rattle.agg_states.specs.declared.kind.AggKind.{AggKind}
use Rattle.agg_states.specs.declared.kind.AggKind.TheVariants.{CountRows}
use Rattle.agg_states.specs.Aggregates.{state_of, finished}
use Rattle.agg_states.specs.Tally.{Tally, started, added, merged}
use Rattle.agg_states.specs.Bounds.{IsOfForm, IsOfType}

pub data Way : Type 0 where
  Adds : List Value → Way
  Merges : Way → Way → Way

-- all values that are taken
abbrev pub values_in : Way → List Value
values_in (Adds values) = values
values_in (Merges first second) = values_in first ++ values_in second

-- what comes of it
abbrev pub outcome : AggKind → SqlType → Way → Tally
outcome kind of (Adds values) = fold added (started kind of) values
outcome kind of (Merges first second) = merged (outcome kind of first) (outcome kind of second)

-- the aggregate of a list of values: how many they are, and what a left fold over them gives
abbrev pub tally_of : AggKind → SqlType → List Value → Tally
tally_of kind of values = record { kind = kind; of = of; rows = length values; cell = finished kind (scale_of of) (state_of values) }

-- a value of the type's form and in its range; count(*) takes any
abbrev pub IsTaken : AggKind → SqlType → Value → Type 0
IsTaken kind of value = (kind ≡ CountRows → ⊥) → IsOfForm of value × IsOfType of value

-- each value that is added is taken
abbrev pub AreTaken : AggKind → SqlType → Way → Type 0
AreTaken kind of (Adds values) = All (IsTaken kind of) values
AreTaken kind of (Merges first second) = AreTaken kind of first × AreTaken kind of second

-- the values of one side, where each choice says on which side a value is, and all that are left are on the first
abbrev pub side_of : Bool → List Bool → List Value → List Value
side_of first [] values = if first then values else []
side_of first (choice ∷ choices) [] = []
side_of true (true ∷ choices) (value ∷ values) = value ∷ side_of true choices values
side_of true (false ∷ choices) (value ∷ values) = side_of true choices values
side_of false (true ∷ choices) (value ∷ values) = side_of false choices values
side_of false (false ∷ choices) (value ∷ values) = value ∷ side_of false choices values
