-- Aggregates and groupings.
use Rattle.std.specs.Option.{option_map}
use Rattle.std.specs.Prelude.{◌≡◌, ℕ, ◌+◌, ◌≤◌, nat_le, if◌then◌else◌, List, [], ◌∷◌, length, IfSome, Option, Some, None, ⊤}
use Rattle.std.specs.List.{AllByRecursion}
use Rattle.ooc_types.specs.declared.schema.SqlType.{SqlType}
use Rattle.ooc_types.specs.declared.schema.SqlType.TheVariants.{Boolean, Integer, BigInt, HugeInt, Decimal, Date, Varchar}
use Rattle.sql_expr.specs.Kinds.{kind_of}
use Rattle.bound_tree.specs.declared.kinds.AggregateKind.{AggregateKind}
use Rattle.bound_tree.specs.declared.kinds.AggregateKind.TheVariants.{CountRows, Count, CountDistinct, Sum, Min, Max}
use Rattle.bound_tree.specs.declared.select.Aggregate.{Aggregate}
use Rattle.bound_tree.specs.declared.select.Grouping.{Grouping}
use Rattle.well_formed.specs.Exprs.{IsExpr, IsCondition}
use Rattle.well_formed.specs.Given.{kinds_of_group}

-- the widest DECIMAL that is summed, and how wide its sum is
abbrev pub most_summed : ℕ
most_summed = 27

abbrev pub sum_width : ℕ
sum_width = 38

-- An INTEGER or BIGINT sums to HUGEINT, and a DECIMAL of at most 27 digits to one of 38; nothing else is summed.
abbrev pub sum_type : SqlType → Option SqlType
sum_type Boolean = None
sum_type Integer = Some HugeInt
sum_type BigInt = Some HugeInt
sum_type HugeInt = None
sum_type (Decimal width scale) = if nat_le width most_summed then Some (Decimal sum_width scale) else None
sum_type Date = None
sum_type Varchar = None

-- The type that an aggregate gives, by that of its argument. `count(*)` alone has none.
abbrev pub aggregate_type : AggregateKind → Option SqlType → Option SqlType
aggregate_type CountRows None = Some BigInt
aggregate_type CountRows (Some kind) = None
aggregate_type Count None = None
aggregate_type Count (Some kind) = Some BigInt
aggregate_type CountDistinct None = None
aggregate_type CountDistinct (Some kind) = Some BigInt
aggregate_type Sum None = None
aggregate_type Sum (Some kind) = sum_type kind
aggregate_type Min None = None
aggregate_type Min (Some kind) = Some kind
aggregate_type Max None = None
aggregate_type Max (Some kind) = Some kind

pub record IsAggregate (limit : ℕ) (columns : List SqlType) (aggregate : Aggregate) : Type 0 where
  pub argument : IfSome aggregate.of (IsExpr limit columns)
  pub result : aggregate_type aggregate.kind (option_map kind_of aggregate.of) ≡ Some aggregate.result

-- one kind of one argument
abbrev pub AreSame : Aggregate → Aggregate → Type 0
AreSame a b = (a.kind ≡ b.kind) × (a.of ≡ b.of)

-- each aggregate once
abbrev pub AreDifferent : List Aggregate → Type 0
AreDifferent [] = ⊤
AreDifferent (aggregate ∷ aggregates) = AllByRecursion (λ other. AreSame aggregate other → ⊥) aggregates × AreDifferent aggregates

-- `count(DISTINCT x)` stands beside no other aggregate
abbrev pub StandsAlone : List Aggregate → Aggregate → Type 0
StandsAlone aggregates aggregate = aggregate.kind ≡ CountDistinct → length aggregates ≡ 1

-- how many keys and aggregates there may be
abbrev pub most_places : ℕ
most_places = 64

-- Keys and arguments are over the columns of all sources, HAVING over the row of a group.
pub record IsGrouping (limit : ℕ) (columns : List SqlType) (grouping : Grouping) : Type 0 where
  pub keys : AllByRecursion (IsExpr limit columns) grouping.keys
  pub aggregates : AllByRecursion (IsAggregate limit columns) grouping.aggregates
  pub different : AreDifferent grouping.aggregates
  pub distinct : AllByRecursion (StandsAlone grouping.aggregates) grouping.aggregates
  pub having : IfSome grouping.having (AllByRecursion (IsCondition limit (kinds_of_group grouping)))
  pub most : length grouping.keys + length grouping.aggregates ≤ most_places
