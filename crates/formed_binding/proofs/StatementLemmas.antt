-- What a statement is bound to.
use Rattle.std.proofs.Common.{◌≡◌, ℕ, List, Ok}
use Rattle.std.specs.List.{AllByRecursion}
use Rattle.bound_tree.specs.declared.statement.Bound.{Bound}
use Rattle.sql_grammar.specs.declared.tree.statement.Statement.{Statement}
use Rattle.sql_grammar.specs.declared.tree.statement.Statement.TheVariants as statement
use Rattle.sql_scope.specs.declared.scope.TableColumns.{TableColumns}
use Rattle.sql_scope.specs.Scopes.{View, columns_of}
use Rattle.bind_rules.specs.Bound.{bound_of, bound_over, explained, select_binding, selected_rows, view_of}
use Rattle.well_formed.specs.Statements.{IsWellFormed}
use Rattle.formed_binding.specs.Answers.{OfAnswer}
use Rattle.formed_binding.specs.Keeps.{HasSchemas}
use Rattle.formed_binding.specs.Named.{IsSelected}
use Rattle.formed_binding.specs.Placed.{StandApart}
use Rattle.formed_binding.specs.Tables.{AreProper}
use Rattle.formed_binding.proofs.CopyLemmas.{copied-formed}
use Rattle.formed_binding.proofs.EachLemmas.{of-answer, on-answer, whenever}
use Rattle.formed_binding.proofs.InductionLemmas.{every-select}
use Rattle.formed_binding.proofs.TableLemmas.{created-formed, dropped-formed}

module _ (view : View) (schemas : HasSchemas view) where
  abbrev Formed : Bound → Type 0
  Formed = IsWellFormed view.limit (columns_of view.tables)

  pub every-statement : (written : Statement) → StandApart written → OfAnswer Formed (bound_over view written)
  every-statement (statement.CreateTable name columns) apart = whenever Formed (bound_over view (statement.CreateTable name columns)) (λ bound is. created-formed view.limit view name columns bound is)
  every-statement (statement.DropTable name) apart = whenever Formed (bound_over view (statement.DropTable name)) (λ bound is. dropped-formed view.limit view name bound is)
  every-statement (statement.Copy name file options) apart = whenever Formed (bound_over view (statement.Copy name file options)) (λ bound is. copied-formed view.limit view name file options bound is)
  every-statement (statement.Explain select) apart =
      on-answer (IsSelected view.limit (columns_of view.tables)) Formed ((select_binding select).select view) explained (every-select select apart view schemas) (λ bound h. h.formed)
  every-statement (statement.Select select) apart =
      on-answer (IsSelected view.limit (columns_of view.tables)) Formed ((select_binding select).select view) selected_rows (every-select select apart view schemas) (λ bound h. h.formed)

pub bound-formed : (written : Statement) (script : List ℕ) (tables : List TableColumns) (limit : ℕ) (bound : Bound) → StandApart written → AllByRecursion (λ (table : TableColumns). AreProper table.columns) tables
    → bound_of written script tables limit ≡ Ok bound → IsWellFormed limit (columns_of tables) bound
bound-formed written script tables limit bound apart schemas is =
    of-answer (IsWellFormed limit (columns_of tables)) (bound_over (view_of script tables limit) written) bound (every-statement (view_of script tables limit) schemas written apart) is
