-- Sums that 128 bits hold.
use Rattle.std.specs.Prelude.{◌≡◌, ℕ, List, take, All, IfSome, FitsSigned}
use Rattle.std.specs.Int.{w128}
use Rattle.ooc_types.specs.declared.value.Value.{Value}
use Rattle.bound_tree.specs.declared.kinds.AggregateKind.TheVariants.{Sum}
use Rattle.bound_tree.specs.declared.select.Aggregate.{Aggregate}
use Rattle.sql_meaning.specs.Found.{Row}
use Rattle.sql_meaning.specs.Groups.{values_taken}
use Rattle.sql_meaning.specs.Statements.{aggregation_of}
use Rattle.plain_groups.specs.Arguments.{FitsArgument}
use Rattle.sql_meaning.specs.Aggregates.{state_of}

-- the sum of each front of the values fits
abbrev pub HasSums : List Value → Type 0
HasSums values = (n : ℕ) → IfSome (state_of (take n values)).total (FitsSigned w128)

-- rows over which the argument of an aggregate is typed
abbrev pub FitsRows : List Row → Aggregate → Type 0
FitsRows rows aggregate = All (λ row. IfSome aggregate.of (FitsArgument row)) rows

-- rows of which an aggregate can be computed: its argument is typed over them, and its sums fit
pub record CanAggregate (rows : List Row) (aggregate : Aggregate) : Type 0 where
  pub fits : FitsRows rows aggregate
  pub sums : aggregate.kind ≡ Sum → HasSums (values_taken (aggregation_of aggregate) rows)
