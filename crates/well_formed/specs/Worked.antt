-- A small statement, worked: over a table `t` with one column `k INTEGER`,
--     SELECT k, count(*) AS n FROM t WHERE k IN (SELECT k FROM t AS u) GROUP BY k HAVING count(*) > 1 ORDER BY n DESC LIMIT 2
use Rattle.std.specs.Str.{bytes_eq}
use Rattle.std.specs.Prelude.{ℕ, pos, codes, true, false, if◌then◌else◌, List, [], ◌∷◌, Some, None}
use Rattle.ooc_types.specs.declared.value.Value.TheVariants.{Number}
use Rattle.ooc_types.specs.declared.schema.Column.{Column as SchemaColumn}
use Rattle.ooc_types.specs.declared.schema.SqlType.TheVariants.{Integer, BigInt}
use Rattle.sql_expr.specs.declared.tree.CompareSign.TheVariants.{Greater}
use Rattle.sql_expr.specs.declared.tree.Expr.{Expr}
use Rattle.sql_expr.specs.declared.tree.Expr.TheVariants.{Column, Constant, Compare}
use Rattle.bound_tree.specs.declared.kinds.AggregateKind.TheVariants.{CountRows}
use Rattle.bound_tree.specs.declared.kinds.JoinKind.TheVariants.{First}
use Rattle.bound_tree.specs.declared.select.Grouping.{Grouping}
use Rattle.bound_tree.specs.declared.select.BoundCore.{BoundCore}
use Rattle.bound_tree.specs.declared.select.BoundRows.TheVariants.{Core}
use Rattle.bound_tree.specs.declared.select.BoundSelect.{BoundSelect}
use Rattle.bound_tree.specs.declared.select.BoundSource.{BoundSource}
use Rattle.bound_tree.specs.declared.select.Conjunct.TheVariants.{Member}
use Rattle.bound_tree.specs.declared.select.SourceRows.TheVariants.{Table}
use Rattle.bound_tree.specs.declared.select.BoundRows.TheViews.{roll-BoundCore, roll-BoundSelect, roll-BoundSource}
use Rattle.well_formed.specs.Given.{Schemas}

abbrev pub key_column : SchemaColumn
key_column = record { name = codes "k"; kind = Integer; nullable = true }

abbrev pub count_column : SchemaColumn
count_column = record { name = codes "n"; kind = BigInt; nullable = true }

abbrev pub worked_schemas : Schemas
worked_schemas name = if bytes_eq name (codes "t") then Some (key_column ∷ []) else None

-- the table under a name
abbrev pub named_table : List ℕ → BoundSource
named_table name = roll-BoundSource (record { name = name; rows = Table (codes "t"); kinds = Integer ∷ []; join = First; on = [] })

abbrev pub key : Expr
key = Column 0 Integer

abbrev pub inner_core : BoundCore
inner_core = roll-BoundCore (record { sources = named_table (codes "u") ∷ []; conjuncts = []; grouping = None; items = key ∷ []; distinct = false })

abbrev pub inner_select : BoundSelect
inner_select = roll-BoundSelect (record { rows = Core inner_core; columns = key_column ∷ []; cut = None })

-- over the row of a group
abbrev pub count : Expr
count = Column 1 BigInt

abbrev pub above_one : Expr
above_one = Compare Greater count (Constant (Number (pos 1) 0) Integer)

abbrev pub worked_grouping : Grouping
worked_grouping = record {
  keys = key ∷ [];
  aggregates = record { kind = CountRows; of = None; result = BigInt } ∷ [];
  having = Some (above_one ∷ []);
}

abbrev pub worked_core : BoundCore
worked_core = roll-BoundCore (record {
  sources = named_table (codes "t") ∷ [];
  conjuncts = Member key inner_select false ∷ [];
  grouping = Some worked_grouping;
  items = key ∷ count ∷ [];
  distinct = false;
})

abbrev pub worked_select : BoundSelect
worked_select = roll-BoundSelect (record {
  rows = Core worked_core;
  columns = key_column ∷ count_column ∷ [];
  cut = Some (record { keys = record { place = 1; descending = true } ∷ []; limit = Some 2; offset = None });
})
