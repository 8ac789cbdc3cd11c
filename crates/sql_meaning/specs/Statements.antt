-- What a bound SELECT means, over the rows of tables.
use Rattle.std.specs.Option.{option_map}
use Rattle.std.specs.Prelude.{ℕ, Bool, true, false, List, [], ◌++◌, map, flat_map, length, unwrap_or, Option, Some, None, Ok, Err}
use Rattle.ooc_decimal.specs.Numeric.{scale_of}
use Rattle.ooc_types.specs.declared.value.Value.{Value}
use Rattle.sql_expr.specs.declared.fault.ValueFault.{ValueFault}
use Rattle.sql_expr.specs.declared.tree.Expr.{Expr}
use Rattle.sql_expr.specs.Arithmetic.{Meaning}
use Rattle.sql_expr.specs.Kinds.{kind_of}
use Rattle.sql_expr.specs.Logic.{truth_value, negated_if}
use Rattle.sql_expr.specs.Meaning.{value_of}
use Rattle.sql_expr.specs.Plain.{plainness}
use Rattle.bound_tree.specs.declared.kinds.AggregateKind.{AggregateKind}
use Rattle.bound_tree.specs.declared.kinds.AggregateKind.TheVariants as of
use Rattle.bound_tree.specs.declared.kinds.JoinKind.{JoinKind}
use Rattle.bound_tree.specs.declared.kinds.JoinKind.TheVariants.{First, Inner, Left, Cross}
use Rattle.bound_tree.specs.declared.kinds.SetKind.{SetKind}
use Rattle.bound_tree.specs.declared.kinds.SetKind.TheVariants.{Union, Except, Intersect}
use Rattle.bound_tree.specs.declared.select.Aggregate.{Aggregate}
use Rattle.bound_tree.specs.declared.select.Grouping.{Grouping as BoundGrouping}
use Rattle.bound_tree.specs.declared.select.SortKey.{SortKey as BoundKey}
use Rattle.bound_tree.specs.declared.select.Cut.{Cut as BoundCut}
use Rattle.bound_tree.specs.declared.select.BoundCore.{BoundCore}
use Rattle.bound_tree.specs.declared.select.BoundRows.{BoundRows}
use Rattle.bound_tree.specs.declared.select.BoundSelect.{BoundSelect}
use Rattle.bound_tree.specs.declared.select.BoundSource.{BoundSource}
use Rattle.bound_tree.specs.declared.select.Conjunct.{Conjunct}
use Rattle.bound_tree.specs.declared.select.SourceRows.{SourceRows}
use Rattle.bound_tree.specs.declared.select.BoundRows.TheOpen.{BoundCore-F, BoundRows-F, BoundSelect-F, BoundSource-F, Conjunct-F, SourceRows-F}
use Rattle.bound_tree.specs.declared.select.BoundRows.TheFolds.{fold-BoundCore, fold-BoundRows, fold-BoundSelect, fold-BoundSource, fold-Conjunct, fold-SourceRows}
use Rattle.sql_meaning.specs.declared.kinds.AggKind.{AggKind}
use Rattle.sql_meaning.specs.declared.kinds.AggKind.TheVariants.{CountRows, Count, Sum, Min, Max}
use Rattle.sql_meaning.specs.Found.{Found, Row, clean, unless_faulted}
use Rattle.sql_meaning.specs.Judged.{Condition, RowValue}
use Rattle.sql_meaning.specs.From.{Source}
use Rattle.sql_meaning.specs.Groups.{Aggregation, Grouping}
use Rattle.sql_meaning.specs.Ordered.{SortKey, value_at}
use Rattle.sql_meaning.specs.Select.{Core, Cut, selected, cut_found}
use Rattle.sql_meaning.specs.Sets.{Times, union_all, union, intersect_all, intersect, except_all, except, combined, member}

-- the rows of a table, by its name in small letters
abbrev pub Tables : Type 0
Tables = List ℕ → List Row

-- ---- expressions

abbrev pub row_value_of : Expr → RowValue
row_value_of expr row = value_of row expr

abbrev pub condition_of : Expr → Condition
condition_of expr = record { plain = (plainness expr).condition; says = row_value_of expr }

-- ---- grouping

abbrev pub agg_kind_of : AggregateKind → AggKind
agg_kind_of of.CountRows = CountRows
agg_kind_of of.Count = Count
agg_kind_of of.CountDistinct = Count
agg_kind_of of.Sum = Sum
agg_kind_of of.Min = Min
agg_kind_of of.Max = Max

-- `count(DISTINCT x)` takes each value once
abbrev pub takes_once : AggregateKind → Bool
takes_once of.CountRows = false
takes_once of.Count = false
takes_once of.CountDistinct = true
takes_once of.Sum = false
takes_once of.Min = false
takes_once of.Max = false

abbrev pub argument_scale : Option Expr → ℕ
argument_scale None = 0
argument_scale (Some expr) = scale_of (kind_of expr)

abbrev pub aggregation_of : Aggregate → Aggregation
aggregation_of aggregate = record {
  kind = agg_kind_of aggregate.kind;
  of = option_map row_value_of aggregate.of;
  scale = argument_scale aggregate.of;
  distinct = takes_once aggregate.kind;
}

abbrev pub grouping_of : BoundGrouping → Grouping
grouping_of grouping = record { keys = map row_value_of grouping.keys; aggregates = map aggregation_of grouping.aggregates }

abbrev pub having_of : Option BoundGrouping → List Condition
having_of None = []
having_of (Some grouping) = map condition_of (unwrap_or grouping.having [])

-- ---- sources and WHERE

abbrev pub pads_of : JoinKind → Bool
pads_of First = false
pads_of Inner = false
pads_of Left = true
pads_of Cross = false

-- what a conjunct of WHERE says, and the faults of its subquery
pub record Meant : Type 0 where
  pub condition : Condition
  pub faults : List ValueFault

-- whether the value is among these, or isn't
abbrev pub member_says : Bool → List Value → Meaning → Meaning
member_says negated values (Err fault) = Err fault
member_says negated values (Ok value) = Ok (truth_value (negated_if negated (member value values)))

-- IN with a subquery of one column; it isn't plain
abbrev pub membership : Bool → Found Row → Expr → Condition
membership negated found expr =
    record { plain = false; says = λ row. member_says negated (map (value_at 0) found.rows) (value_of row expr) }

-- ---- set operations

abbrev pub times_of : SetKind → Bool → Times
times_of Union true = union_all
times_of Union false = union
times_of Except true = except_all
times_of Except false = except
times_of Intersect true = intersect_all
times_of Intersect false = intersect

-- The faults are those of both operands; where there is one, nothing that follows is taken.
abbrev pub set_found : Times → Found Row → Found Row → Found Row
set_found times left right = unless_faulted (left.faults ++ right.faults) (clean (combined times left.rows right.rows))

-- ---- order

abbrev pub key_of : BoundKey → SortKey
key_of key = record { place = key.place; descending = key.descending }

abbrev pub cut_of : Option BoundCut → Option Cut
cut_of None = None
cut_of (Some cut) = Some (record { keys = map key_of cut.keys; limit = cut.limit; offset = unwrap_or cut.offset 0 })

-- ---- the whole, by its parts

abbrev pub rows_step : BoundRows-F (Found Row) Meant (Found Row) (Found Row) (Found Row) Source → Found Row
rows_step (BoundRows-F.Core found) = found
rows_step (BoundRows-F.Set kind all left right kinds) = set_found (times_of kind all) left right

abbrev pub conjunct_step : Conjunct-F (Found Row) Meant (Found Row) (Found Row) (Found Row) Source → Meant
conjunct_step (Conjunct-F.Condition expr) = record { condition = condition_of expr; faults = [] }
conjunct_step (Conjunct-F.Member expr query negated) = record { condition = membership negated query expr; faults = query.faults }

-- a table gives its rows, and a subquery what it means
abbrev pub source_rows_step : Tables → SourceRows-F (Found Row) Meant (Found Row) (Found Row) (Found Row) Source → Found Row
source_rows_step tables (SourceRows-F.Table name) = clean (tables name)
source_rows_step tables (SourceRows-F.Query found) = found

abbrev pub core_of : List Meant → Option BoundGrouping → List Expr → Bool → Core
core_of conjuncts grouping items distinct = record {
  conjuncts = map (λ meant. meant.condition) conjuncts;
  inner = flat_map (λ meant. meant.faults) conjuncts;
  grouping = option_map grouping_of grouping;
  having = having_of grouping;
  items = map row_value_of items;
  distinct = distinct;
}

abbrev pub core_step : BoundCore-F (Found Row) Meant (Found Row) (Found Row) (Found Row) Source → Found Row
core_step core = selected (core_of core.conjuncts core.grouping core.items core.distinct) core.sources

abbrev pub select_step : BoundSelect-F (Found Row) Meant (Found Row) (Found Row) (Found Row) Source → Found Row
select_step select = cut_found (cut_of select.cut) select.rows

abbrev pub source_step : BoundSource-F (Found Row) Meant (Found Row) (Found Row) (Found Row) Source → Source
source_step source = record { found = source.rows; width = length source.kinds; pads = pads_of source.join; on = map condition_of source.on }

-- the rows of a SELECT without its order and limit
abbrev pub rows_meaning : Tables → BoundRows → Found Row
rows_meaning tables =
    fold-BoundRows (Found Row) Meant (Found Row) (Found Row) (Found Row) Source rows_step conjunct_step (source_rows_step tables) core_step select_step source_step

-- the rows of a SELECT, in order where it has one, and the faults that it notes
abbrev pub select_meaning : Tables → BoundSelect → Found Row
select_meaning tables =
    fold-BoundSelect (Found Row) Meant (Found Row) (Found Row) (Found Row) Source rows_step conjunct_step (source_rows_step tables) core_step select_step source_step

abbrev pub conjunct_meaning : Tables → Conjunct → Meant
conjunct_meaning tables =
    fold-Conjunct (Found Row) Meant (Found Row) (Found Row) (Found Row) Source rows_step conjunct_step (source_rows_step tables) core_step select_step source_step

abbrev pub source_rows_meaning : Tables → SourceRows → Found Row
source_rows_meaning tables =
    fold-SourceRows (Found Row) Meant (Found Row) (Found Row) (Found Row) Source rows_step conjunct_step (source_rows_step tables) core_step select_step source_step

abbrev pub core_meaning : Tables → BoundCore → Found Row
core_meaning tables =
    fold-BoundCore (Found Row) Meant (Found Row) (Found Row) (Found Row) Source rows_step conjunct_step (source_rows_step tables) core_step select_step source_step

abbrev pub source_meaning : Tables → BoundSource → Source
source_meaning tables =
    fold-BoundSource (Found Row) Meant (Found Row) (Found Row) (Found Row) Source rows_step conjunct_step (source_rows_step tables) core_step select_step source_step
