-- The types of the columns that the parts of a bound statement give.
use Rattle.std.specs.Prelude.{ℕ, List, ◌++◌, map, flat_map, Option, Some, None}
use Rattle.ooc_types.specs.declared.schema.Column.{Column}
use Rattle.ooc_types.specs.declared.schema.SqlType.{SqlType}
use Rattle.sql_expr.specs.Kinds.{kind_of}
use Rattle.bound_tree.specs.declared.select.Grouping.{Grouping}
use Rattle.bound_tree.specs.declared.select.BoundCore.{BoundCore}
use Rattle.bound_tree.specs.declared.select.BoundRows.{BoundRows}
use Rattle.bound_tree.specs.declared.select.BoundSelect.{BoundSelect}
use Rattle.bound_tree.specs.declared.select.BoundSource.{BoundSource}
use Rattle.bound_tree.specs.declared.select.Conjunct.{Conjunct}
use Rattle.bound_tree.specs.declared.select.SourceRows.{SourceRows}
use Rattle.bound_tree.specs.declared.select.BoundRows.TheOpen.{BoundRows-F}
use Rattle.bound_tree.specs.declared.select.BoundRows.TheViews.{out-BoundCore, out-BoundRows, out-BoundSelect, out-BoundSource}

-- The columns of each table that is there, by its name in small letters.
abbrev pub Schemas : Type 0
Schemas = List ℕ → Option (List Column)

abbrev pub kinds_of_columns : List Column → List SqlType
kinds_of_columns columns = map (λ column. column.kind) columns

abbrev pub kinds_of_select : BoundSelect → List SqlType
kinds_of_select select = kinds_of_columns (out-BoundSelect select).columns

abbrev pub kinds_of_source : BoundSource → List SqlType
kinds_of_source source = (out-BoundSource source).kinds

-- the columns of all sources, in written order
abbrev pub kinds_of_sources : List BoundSource → List SqlType
kinds_of_sources sources = flat_map kinds_of_source sources

-- the row of a group: the keys, and then the aggregates
abbrev pub kinds_of_group : Grouping → List SqlType
kinds_of_group grouping = map kind_of grouping.keys ++ map (λ aggregate. aggregate.result) grouping.aggregates

-- What items are over: the row of a group where there is a grouping, else the columns of all sources.
abbrev pub kinds_below_items : List BoundSource → Option Grouping → List SqlType
kinds_below_items sources None = kinds_of_sources sources
kinds_below_items sources (Some grouping) = kinds_of_group grouping

abbrev pub kinds_of_core : BoundCore → List SqlType
kinds_of_core core = map kind_of (out-BoundCore core).items

abbrev pub kinds_in_rows : BoundRows-F BoundRows Conjunct SourceRows BoundCore BoundSelect BoundSource → List SqlType
kinds_in_rows (BoundRows-F.Core core) = kinds_of_core core
kinds_in_rows (BoundRows-F.Set kind all left right kinds) = kinds

abbrev pub kinds_of_rows : BoundRows → List SqlType
kinds_of_rows rows = kinds_in_rows (out-BoundRows rows)
