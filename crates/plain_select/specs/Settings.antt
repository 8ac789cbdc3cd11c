-- What a SELECT can be answered over: well-formed statements, and tables that meet their schemas.
use Rattle.std.specs.Prelude.{ℕ, List, map, length, Some}
use Rattle.std.specs.List.{AllByRecursion}
use Rattle.bound_tree.specs.declared.select.BoundCore.{BoundCore}
use Rattle.bound_tree.specs.declared.select.BoundRows.{BoundRows}
use Rattle.bound_tree.specs.declared.select.BoundSelect.{BoundSelect}
use Rattle.bound_tree.specs.declared.select.BoundSource.{BoundSource}
use Rattle.bound_tree.specs.declared.select.Conjunct.{Conjunct}
use Rattle.bound_tree.specs.declared.select.SourceRows.{SourceRows}
use Rattle.bound_tree.specs.declared.select.BoundRows.TheOpen.{BoundSource-F, Conjunct-F}
use Rattle.bound_tree.specs.declared.select.BoundRows.TheViews.{out-BoundSource, out-Conjunct}
use Rattle.bound_laws.specs.Meeting.{MeetSchemas}
use Rattle.sql_meaning.specs.Found.{Found, Row}
use Rattle.sql_meaning.specs.From.{Source}
use Rattle.sql_meaning.specs.Ordered.{value_at}
use Rattle.sql_meaning.specs.Statements.{Tables, condition_of, pads_of, select_meaning}
use Rattle.well_formed.specs.Given.{Schemas}
use Rattle.well_formed.specs.Rows.{AreWellFormedRows, IsWellFormedConjunct, IsWellFormedCore, IsWellFormedInput, IsWellFormedSelect, IsWellFormedSource}
use Rattle.plain_rows.specs.Tests.{Parts, parts_of}
use Rattle.plain_cores.specs.declared.table.Table.{Table}
use Rattle.plain_cores.specs.Named.{tables_in}

-- Some limit of texts and some schemas that the tables meet, over which a statement is well-formed.
pub record IsSetting (tables : List Table) (Well : ℕ → Schemas → Type 0) : Type 0 where
  pub limit : ℕ
  pub schemas : Schemas
  pub well : Well limit schemas
  pub meet : MeetSchemas limit schemas (tables_in tables)

abbrev pub CanAnswer : List Table → BoundSelect → Type 0
CanAnswer tables select = IsSetting tables (λ limit schemas. IsWellFormedSelect limit schemas select)

abbrev pub CanAnswerRows : List Table → BoundRows → Type 0
CanAnswerRows tables rows = IsSetting tables (λ limit schemas. AreWellFormedRows limit schemas rows)

abbrev pub CanAnswerCore : List Table → BoundCore → Type 0
CanAnswerCore tables core = IsSetting tables (λ limit schemas. IsWellFormedCore limit schemas core)

abbrev pub CanAnswerInput : List Table → SourceRows → Type 0
CanAnswerInput tables rows = IsSetting tables (λ limit schemas. IsWellFormedInput limit schemas rows)

abbrev pub CanAnswerSources : List Table → List BoundSource → Type 0
CanAnswerSources tables sources = IsSetting tables (λ limit schemas. AllByRecursion (IsWellFormedSource limit schemas) sources)

abbrev pub CanAnswerConjunct : List Table → Conjunct → Type 0
CanAnswerConjunct tables conjunct = IsSetting tables (λ limit schemas. IsWellFormedConjunct limit schemas conjunct)

abbrev pub CanAnswerConjuncts : List Table → List Conjunct → Type 0
CanAnswerConjuncts tables conjuncts = IsSetting tables (λ limit schemas. AllByRecursion (IsWellFormedConjunct limit schemas) conjuncts)

-- a source with what it gives
abbrev pub source_with : BoundSource-F BoundRows Conjunct SourceRows BoundCore BoundSelect BoundSource → Found Row → Source
source_with source found = record { found = found; width = length source.kinds; pads = pads_of source.join; on = map condition_of source.on }

-- what its ON is made of
abbrev pub on_parts : BoundSource → List Parts
on_parts source = map parts_of (out-BoundSource source).on

abbrev pub conjunct_parts_in : Tables → Conjunct-F BoundRows Conjunct SourceRows BoundCore BoundSelect BoundSource → Parts
conjunct_parts_in tables (Conjunct-F.Condition expr) = parts_of expr
conjunct_parts_in tables (Conjunct-F.Member expr query negated) =
    record { of = expr; among = Some (record { values = map (value_at 0) (select_meaning tables query).rows; negated = negated }) }

-- what a conjunct is made of, with the values of its subquery
abbrev pub conjunct_parts : Tables → Conjunct → Parts
conjunct_parts tables conjunct = conjunct_parts_in tables (out-Conjunct conjunct)
