-- The operands of WHERE.
use Rattle.std.specs.Prelude.{◌≡◌, ℕ, List}
use Rattle.std.specs.List.{AllByRecursion}
use Rattle.ooc_types.specs.declared.schema.SqlType.{SqlType}
use Rattle.ooc_types.specs.declared.schema.SqlType.TheVariants.{Boolean}
use Rattle.bound_tree.specs.declared.select.Conjunct.{Conjunct}
use Rattle.sql_clauses.specs.declared.conditions.FilterOperand.{FilterOperand}
use Rattle.sql_clauses.specs.declared.conditions.Filter.{Filter}
use Rattle.well_formed.specs.Cores.{IsConjunct}
use Rattle.well_formed.specs.Given.{Schemas}
use Rattle.well_formed.specs.Rows.{IsWellFormedConjunct}

-- a conjunct, where it is BOOLEAN
pub record IsOperand (limit : ℕ) (schemas : Schemas) (columns : List SqlType) (operand : FilterOperand) : Type 0 where
  pub formed : IsWellFormedConjunct limit schemas operand.conjunct
  pub conjunct : operand.kind ≡ Boolean → IsConjunct limit columns operand.conjunct

-- the operands so far, which are conjuncts where what stands there is BOOLEAN
pub record IsFilter (limit : ℕ) (schemas : Schemas) (columns : List SqlType) (filter : Filter) : Type 0 where
  pub formed : AllByRecursion (IsWellFormedConjunct limit schemas) filter.conjuncts
  pub conjuncts : filter.kind ≡ Boolean → AllByRecursion (IsConjunct limit columns) filter.conjuncts

pub record AreConjuncts (limit : ℕ) (schemas : Schemas) (columns : List SqlType) (list : List Conjunct) : Type 0 where
  pub formed : AllByRecursion (IsWellFormedConjunct limit schemas) list
  pub conjuncts : AllByRecursion (IsConjunct limit columns) list
