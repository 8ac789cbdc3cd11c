-- Conditions and items that are typed over the columns of the table.
use Rattle.std.specs.Prelude.{◌≡◌, List, [], ◌∷◌, ◌++◌, ⊤}
use Rattle.std.specs.List.{AllByRecursion}
use Rattle.ooc_types.specs.declared.schema.SqlType.{SqlType}
use Rattle.ooc_types.specs.declared.schema.SqlType.TheVariants.{Boolean}
use Rattle.sql_expr.specs.declared.tree.Expr.{Expr}
use Rattle.sql_expr.specs.Kinds.{kind_of}
use Rattle.sql_expr.specs.Typing.{IsTyped}
use Rattle.bound_tree.specs.declared.select.BoundCore.{BoundCore}
use Rattle.bound_tree.specs.declared.select.BoundSelect.{BoundSelect}
use Rattle.bound_tree.specs.declared.select.Conjunct.{Conjunct}
use Rattle.bound_tree.specs.declared.select.BoundRows.TheViews.{out-BoundCore}
use Rattle.plain_rows.specs.declared.test.Test.{Test}
use Rattle.plain_rows.specs.declared.test.Test.TheVariants as of
use Rattle.plain_rows.specs.Cores.{IsTestOver}
use Rattle.table_scan.specs.declared.reading.Reading.{Reading}
use Rattle.table_scan.specs.Scan.{condition_of_conjunct, conditions_among, kinds_of_sources, scan_kinds, scan_conditions, scan_items}

abbrev pub IsConditionOver : List SqlType → Expr → Type 0
IsConditionOver columns expr = IsTyped columns expr × (kind_of expr ≡ Boolean)

-- the conditions and items of a core over one table
pub record IsTypedCore (core : BoundCore) : Type 0 where
  pub conditions : AllByRecursion (IsConditionOver (kinds_of_sources (out-BoundCore core).sources)) (conditions_among (out-BoundCore core).conjuncts)
  pub items : AllByRecursion (IsTyped (kinds_of_sources (out-BoundCore core).sources)) (out-BoundCore core).items

-- those of a SELECT over one table
pub record IsTypedScan (select : BoundSelect) : Type 0 where
  pub conditions : AllByRecursion (IsConditionOver (scan_kinds select)) (scan_conditions select)
  pub items : AllByRecursion (IsTyped (scan_kinds select)) (scan_items select)

-- tests that are these conditions, in this order
abbrev pub AreTests : List Test → List Expr → Type 0
AreTests [] [] = ⊤
AreTests [] (expr ∷ exprs) = ⊥
AreTests (test ∷ tests) [] = ⊥
AreTests (of.Condition expr ∷ tests) (condition ∷ conditions) = (expr.now ≡ condition) × AreTests tests conditions
AreTests (of.Member expr values negated ∷ tests) (condition ∷ conditions) = ⊥

-- the test of a conjunct behind others
pub record AddsTest (old new : List Test) (conjunct : Conjunct) : Type 0 where
  pub more : List Test
  pub adds : new ≡ old ++ more
  pub are : AreTests more (condition_of_conjunct conjunct)

-- what is read is typed over the columns of the table
pub record IsReading (reading : Reading) : Type 0 where
  pub tests : AllByRecursion (IsTestOver reading.kinds.now) reading.tests.items
  pub items : AllByRecursion (IsTyped reading.kinds.now) reading.items.now
