-- A core whose clauses are bound.
use Rattle.std.specs.Prelude.{◌≡◌, true}
use Rattle.std.specs.List.{AllByRecursion}
use Rattle.sql_scope.specs.Scopes.{View, columns_of, kinds, over_columns, over_keys}
use Rattle.sql_clauses.specs.declared.cores.Core.{Core}
use Rattle.sql_clauses.specs.Aggregates.{are_unmixed}
use Rattle.well_formed.specs.Exprs.{IsExpr}
use Rattle.well_formed.specs.From.{IsFrom}
use Rattle.well_formed.specs.Given.{kinds_of_sources}
use Rattle.well_formed.specs.Rows.{IsWellFormedSource}
use Rattle.formed_binding.specs.Filters.{AreConjuncts}
use Rattle.formed_binding.specs.Items.{AreShown}

-- what the items of a core see
abbrev pub seen_by : View → Core → View
seen_by view core = over_keys (over_columns view core.columns) core.keys

-- The clauses of a core are well-formed, and no two calls of its items and its HAVING stand at one place.
pub record HasClauses (view : View) (core : Core) : Type 0 where
  pub from : IsFrom view.limit core.sources
  pub sources : AllByRecursion (IsWellFormedSource view.limit (columns_of view.tables)) core.sources
  pub seen : kinds (seen_by view core) ≡ kinds_of_sources core.sources
  pub conjuncts : AreConjuncts view.limit (columns_of view.tables) (kinds (seen_by view core)) core.conjuncts
  pub keys : AllByRecursion (IsExpr view.limit (kinds (seen_by view core))) core.keys
  pub shown : AreShown (seen_by view core) core.grouped (λ place. 1) core.selected
  pub unmixed : are_unmixed core.selected.outputs.calls ≡ true
