-- A SELECT over one table, without grouping, DISTINCT, set operations and subqueries.
use Rattle.std.specs.Prelude.{ℕ, Bool, true, false, not, ◌&&◌, List, [], ◌∷◌, flat_map, Option, Some, None}
use Rattle.std.specs.List.{list_all}
use Rattle.ooc_types.specs.declared.schema.SqlType.{SqlType}
use Rattle.sql_expr.specs.declared.tree.Expr.{Expr}
use Rattle.bound_tree.specs.declared.kinds.JoinKind.{JoinKind}
use Rattle.bound_tree.specs.declared.kinds.JoinKind.TheVariants.{First, Inner, Left, Cross}
use Rattle.bound_tree.specs.declared.select.Grouping.{Grouping}
use Rattle.bound_tree.specs.declared.select.BoundCore.{BoundCore}
use Rattle.bound_tree.specs.declared.select.BoundRows.{BoundRows}
use Rattle.bound_tree.specs.declared.select.BoundSelect.{BoundSelect}
use Rattle.bound_tree.specs.declared.select.BoundSource.{BoundSource}
use Rattle.bound_tree.specs.declared.select.Conjunct.{Conjunct}
use Rattle.bound_tree.specs.declared.select.SourceRows.{SourceRows}
use Rattle.bound_tree.specs.declared.select.BoundRows.TheOpen.{BoundRows-F, Conjunct-F, SourceRows-F}
use Rattle.bound_tree.specs.declared.select.BoundRows.TheViews.{out-BoundCore, out-BoundRows, out-BoundSelect, out-BoundSource, out-Conjunct, out-SourceRows}

-- ---- one part after the other

abbrev pub is_first : JoinKind → Bool
is_first First = true
is_first Inner = false
is_first Left = false
is_first Cross = false

abbrev pub has_none : {A : Type 0} → List A → Bool
has_none [] = true
has_none (x ∷ xs) = false

abbrev pub is_table_in : SourceRows-F BoundRows Conjunct SourceRows BoundCore BoundSelect BoundSource → Bool
is_table_in (SourceRows-F.Table name) = true
is_table_in (SourceRows-F.Query select) = false

abbrev pub table_in : SourceRows-F BoundRows Conjunct SourceRows BoundCore BoundSelect BoundSource → List ℕ
table_in (SourceRows-F.Table name) = name
table_in (SourceRows-F.Query select) = []

-- a table that comes first, so that it has no ON
abbrev pub is_first_table : BoundSource → Bool
is_first_table source =
    is_table_in (out-SourceRows (out-BoundSource source).rows) && (is_first (out-BoundSource source).join && has_none (out-BoundSource source).on)

abbrev pub is_one_table : List BoundSource → Bool
is_one_table [] = false
is_one_table (source ∷ []) = is_first_table source
is_one_table (source ∷ second ∷ more) = false

abbrev pub is_condition_in : Conjunct-F BoundRows Conjunct SourceRows BoundCore BoundSelect BoundSource → Bool
is_condition_in (Conjunct-F.Condition expr) = true
is_condition_in (Conjunct-F.Member of query negated) = false

-- a conjunct without a subquery
abbrev pub is_condition : Conjunct → Bool
is_condition conjunct = is_condition_in (out-Conjunct conjunct)

abbrev pub condition_in_node : Conjunct-F BoundRows Conjunct SourceRows BoundCore BoundSelect BoundSource → List Expr
condition_in_node (Conjunct-F.Condition expr) = expr ∷ []
condition_in_node (Conjunct-F.Member of query negated) = []

abbrev pub condition_of_conjunct : Conjunct → List Expr
condition_of_conjunct conjunct = condition_in_node (out-Conjunct conjunct)

-- the conditions among conjuncts
abbrev pub conditions_among : List Conjunct → List Expr
conditions_among conjuncts = flat_map condition_of_conjunct conjuncts

abbrev pub is_ungrouped : Option Grouping → Bool
is_ungrouped None = true
is_ungrouped (Some grouping) = false

abbrev pub is_scan_core : BoundCore → Bool
is_scan_core core =
    is_one_table (out-BoundCore core).sources
    && (list_all is_condition (out-BoundCore core).conjuncts && (is_ungrouped (out-BoundCore core).grouping && not (out-BoundCore core).distinct))

-- ---- the SELECT

abbrev pub core_in : BoundRows-F BoundRows Conjunct SourceRows BoundCore BoundSelect BoundSource → Option BoundCore
core_in (BoundRows-F.Core core) = Some core
core_in (BoundRows-F.Set kind all left right kinds) = None

-- the core of a SELECT without set operations
abbrev pub core_of_select : BoundSelect → Option BoundCore
core_of_select select = core_in (out-BoundRows (out-BoundSelect select).rows)

abbrev pub is_scan_of : Option BoundCore → Bool
is_scan_of None = false
is_scan_of (Some core) = is_scan_core core

abbrev pub is_scan : BoundSelect → Bool
is_scan select = is_scan_of (core_of_select select)

-- ---- its parts

abbrev pub table_of_sources : List BoundSource → List ℕ
table_of_sources [] = []
table_of_sources (source ∷ sources) = table_in (out-SourceRows (out-BoundSource source).rows)

abbrev pub kinds_of_sources : List BoundSource → List SqlType
kinds_of_sources [] = []
kinds_of_sources (source ∷ sources) = (out-BoundSource source).kinds

abbrev pub table_of_core : Option BoundCore → List ℕ
table_of_core None = []
table_of_core (Some core) = table_of_sources (out-BoundCore core).sources

abbrev pub kinds_of_core : Option BoundCore → List SqlType
kinds_of_core None = []
kinds_of_core (Some core) = kinds_of_sources (out-BoundCore core).sources

abbrev pub conditions_of_core : Option BoundCore → List Expr
conditions_of_core None = []
conditions_of_core (Some core) = conditions_among (out-BoundCore core).conjuncts

abbrev pub items_of_core : Option BoundCore → List Expr
items_of_core None = []
items_of_core (Some core) = (out-BoundCore core).items

-- the name of its table, in small letters
abbrev pub scan_table : BoundSelect → List ℕ
scan_table select = table_of_core (core_of_select select)

-- the types of the table's columns
abbrev pub scan_kinds : BoundSelect → List SqlType
scan_kinds select = kinds_of_core (core_of_select select)

-- the conjuncts of its WHERE
abbrev pub scan_conditions : BoundSelect → List Expr
scan_conditions select = conditions_of_core (core_of_select select)

abbrev pub scan_items : BoundSelect → List Expr
scan_items select = items_of_core (core_of_select select)
