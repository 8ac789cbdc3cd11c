-- A SELECT whose columns have numbers of 32 bits: each FROM of it and of its subqueries has at most so many columns.
use Rattle.std.specs.Prelude.{◌<◌, ⊤}
use Rattle.bound_tree.specs.declared.select.BoundCore.{BoundCore}
use Rattle.bound_tree.specs.declared.select.BoundRows.{BoundRows}
use Rattle.bound_tree.specs.declared.select.BoundSelect.{BoundSelect}
use Rattle.bound_tree.specs.declared.select.BoundSource.{BoundSource}
use Rattle.bound_tree.specs.declared.select.Conjunct.{Conjunct}
use Rattle.bound_tree.specs.declared.select.SourceRows.{SourceRows}
use Rattle.bound_tree.specs.declared.select.BoundRows.TheOpen.{BoundCore-F}
use Rattle.bound_tree.specs.declared.select.BoundRows.TheFolds.{every-BoundRows, every-Conjunct, every-SourceRows, every-BoundCore, every-BoundSelect, every-BoundSource}
use Rattle.plan_tree.specs.Plannable.{columns_of_sources}
use Rattle.sql_plan.specs.Chosen.{columns_limit}

abbrev pub IsNumberedCore : BoundCore-F BoundRows Conjunct SourceRows BoundCore BoundSelect BoundSource → Type 0
IsNumberedCore core = columns_of_sources core.sources < columns_limit

abbrev pub AreNumbered : BoundSelect → Type 0
AreNumbered = every-BoundSelect (λ x. ⊤) (λ x. ⊤) (λ x. ⊤) IsNumberedCore (λ x. ⊤) (λ x. ⊤)

abbrev pub AreNumberedRows : BoundRows → Type 0
AreNumberedRows = every-BoundRows (λ x. ⊤) (λ x. ⊤) (λ x. ⊤) IsNumberedCore (λ x. ⊤) (λ x. ⊤)

abbrev pub AreNumberedConjunct : Conjunct → Type 0
AreNumberedConjunct = every-Conjunct (λ x. ⊤) (λ x. ⊤) (λ x. ⊤) IsNumberedCore (λ x. ⊤) (λ x. ⊤)

abbrev pub AreNumberedInput : SourceRows → Type 0
AreNumberedInput = every-SourceRows (λ x. ⊤) (λ x. ⊤) (λ x. ⊤) IsNumberedCore (λ x. ⊤) (λ x. ⊤)

abbrev pub AreNumberedCore : BoundCore → Type 0
AreNumberedCore = every-BoundCore (λ x. ⊤) (λ x. ⊤) (λ x. ⊤) IsNumberedCore (λ x. ⊤) (λ x. ⊤)

abbrev pub AreNumberedSource : BoundSource → Type 0
AreNumberedSource = every-BoundSource (λ x. ⊤) (λ x. ⊤) (λ x. ⊤) IsNumberedCore (λ x. ⊤) (λ x. ⊤)
