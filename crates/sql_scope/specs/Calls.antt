-- Calls of functions: the aggregates.
use Rattle.std.specs.Str.{bytes_eq}
use Rattle.std.specs.Prelude.{ℕ, ◌+◌, codes, if◌then◌else◌, nat_le, List, [], ◌∷◌, length, Option, Some, None, Ok}
use Rattle.ooc_types.specs.declared.schema.SqlType.{SqlType}
use Rattle.ooc_types.specs.declared.schema.SqlType.TheVariants.{Integer, BigInt, HugeInt, Decimal}
use Rattle.ooc_types.specs.declared.refusal.RefusalKind.TheVariants.{NoFunction, TypeMismatch, SumTooWide, AggregateHere}
use Rattle.sql_expr.specs.declared.tree.Expr.{Expr as Tree}
use Rattle.sql_expr.specs.declared.tree.Expr.TheVariants.{Column}
use Rattle.sql_expr.specs.Kinds.{kind_of}
use Rattle.sql_scope.specs.declared.fault.BindFault.{BindFault}
use Rattle.sql_scope.specs.declared.fault.BindFault.TheVariants.{Refused}
use Rattle.sql_scope.specs.declared.call.Function.{Function}
use Rattle.sql_scope.specs.declared.call.Function.TheVariants.{Count, Sum, Least, Greatest}
use Rattle.bound_tree.specs.declared.kinds.AggregateKind.{AggregateKind}
use Rattle.bound_tree.specs.declared.kinds.AggregateKind.TheVariants as aggregates
use Rattle.sql_scope.specs.declared.part.Part.{Part}
use Rattle.sql_scope.specs.Answer.{Answer, refuse, unless, ◌>>=◌}
use Rattle.sql_scope.specs.Scopes.{View, without_aggregates}

abbrev pub no_function_at : ℕ → BindFault
no_function_at place = Refused place NoFunction

abbrev pub function_of : List ℕ → Option Function
function_of name =
    if bytes_eq name (codes "count") then Some Count else if bytes_eq name (codes "sum") then Some Sum
    else if bytes_eq name (codes "min") then Some Least else if bytes_eq name (codes "max") then Some Greatest else None

-- what a function computes of its argument
abbrev pub kind_of_function : Function → AggregateKind
kind_of_function Count = aggregates.Count
kind_of_function Sum = aggregates.Sum
kind_of_function Least = aggregates.Min
kind_of_function Greatest = aggregates.Max

-- the widest DECIMAL that is summed, and how wide its sum is
abbrev pub most_summed : ℕ
most_summed = 27

abbrev pub sum_width : ℕ
sum_width = 38

abbrev pub sum_type : ℕ → SqlType → Answer SqlType
sum_type place Integer = Ok HugeInt
sum_type place BigInt = Ok HugeInt
sum_type place HugeInt = refuse place SumTooWide
sum_type place (Decimal width scale) = unless (nat_le width most_summed) place SumTooWide (Decimal sum_width scale)
sum_type place kind = refuse place TypeMismatch

abbrev pub value_type : ℕ → Function → SqlType → Answer SqlType
value_type place Count kind = Ok BigInt
value_type place Sum kind = sum_type place kind
value_type place Least kind = Ok kind
value_type place Greatest kind = Ok kind

-- `*` and DISTINCT stand in count alone
abbrev pub count_type : ℕ → Function → Answer SqlType
count_type place Count = Ok BigInt
count_type place Sum = refuse place NoFunction
count_type place Least = refuse place NoFunction
count_type place Greatest = refuse place NoFunction

-- Behind the columns of the sources stands a column for each byte of the script: that of the aggregate whose name
-- begins there.
abbrev pub aggregate : View → ℕ → AggregateKind → Option Tree → SqlType → Answer Part
aggregate view place kind of result = unless view.aggregates place AggregateHere (record {
  tree = Column (length view.columns + place) result;
  bare = None;
  calls = record { place = place; aggregate = record { kind = kind; of = of; result = result } } ∷ [];
})

-- what an argument is bound in
abbrev pub argument_view : Option Function → View → View
argument_view None view = view
argument_view (Some function) view = without_aggregates view

-- a function over `*`
abbrev pub star_call : View → ℕ → Option Function → Answer Part
star_call view place None = refuse place NoFunction
star_call view place (Some function) = count_type place function >>= aggregate view place aggregates.CountRows None

-- a function over its argument
abbrev pub value_call : View → ℕ → Option Function → Part → Answer Part
value_call view place None of = refuse place NoFunction
value_call view place (Some function) of =
    value_type place function (kind_of of.tree) >>= aggregate view place (kind_of_function function) (Some of.tree)

-- a function over DISTINCT and its argument
abbrev pub distinct_call : View → ℕ → Option Function → Part → Answer Part
distinct_call view place None of = refuse place NoFunction
distinct_call view place (Some function) of =
    count_type place function >>= aggregate view place aggregates.CountDistinct (Some of.tree)
