-- What a plan reads of bound sources and conjuncts.
use Rattle.std.specs.Prelude.{ℕ, Bool, ◌&&◌, not, is_some, if◌then◌else◌, List, [], ◌∷◌, flat_map, length, Option, Some, None}
use Rattle.std.specs.List.{list_all}
use Rattle.sql_expr.specs.declared.tree.Expr.{Expr}
use Rattle.bound_tree.specs.declared.select.BoundCore.{BoundCore}
use Rattle.bound_tree.specs.declared.select.BoundRows.{BoundRows}
use Rattle.bound_tree.specs.declared.select.BoundSelect.{BoundSelect}
use Rattle.bound_tree.specs.declared.select.BoundSource.{BoundSource}
use Rattle.bound_tree.specs.declared.select.Conjunct.{Conjunct}
use Rattle.bound_tree.specs.declared.select.SourceRows.{SourceRows}
use Rattle.bound_tree.specs.declared.select.BoundRows.TheOpen.{Conjunct-F, SourceRows-F}
use Rattle.bound_tree.specs.declared.select.BoundRows.TheViews.{out-BoundSource, out-Conjunct, out-SourceRows}
use Rattle.sql_meaning.specs.Statements.{pads_of}
use Rattle.plan_tree.specs.declared.stages.PlanInput.{PlanInput}
use Rattle.plan_tree.specs.declared.stages.PlanConjunct.TheOpen.{PlanInput-F}
use Rattle.plan_tree.specs.declared.stages.PlanConjunct.TheViews.{roll-PlanInput}
use Rattle.plan_tree.specs.FreeFrom.{FreeTable}
use Rattle.plan_tree.specs.Planned.{Counts, rows_counted}
use Rattle.plan_tree.specs.Split.{is_plain_expr}

abbrev pub name_in : SourceRows-F BoundRows Conjunct SourceRows BoundCore BoundSelect BoundSource → Option (List ℕ)
name_in (SourceRows-F.Table name) = Some name
name_in (SourceRows-F.Query select) = None

-- the table that is read, if it is one
abbrev pub table_name : SourceRows → Option (List ℕ)
table_name rows = name_in (out-SourceRows rows)

abbrev pub table_input : Option (List ℕ) → PlanInput
table_input None = roll-PlanInput (PlanInput-F.Table [])
table_input (Some name) = roll-PlanInput (PlanInput-F.Table name)

abbrev pub is_free_source : BoundSource → Bool
is_free_source source =
    is_some (table_name (out-BoundSource source).rows) && (not (pads_of (out-BoundSource source).join) && list_all is_plain_expr (out-BoundSource source).on)

abbrev pub bound_table : Counts → BoundSource → FreeTable
bound_table counts source = record {
  width = length (out-BoundSource source).kinds;
  rows = rows_counted counts (table_name (out-BoundSource source).rows);
  on = (out-BoundSource source).on;
}

abbrev pub plain_in : Conjunct-F BoundRows Conjunct SourceRows BoundCore BoundSelect BoundSource → Option Expr
plain_in (Conjunct-F.Condition expr) = if is_plain_expr expr then Some expr else None
plain_in (Conjunct-F.Member of query negated) = None

-- a plain conjunct of WHERE as an expression
abbrev pub plain_conjunct : Conjunct → Option Expr
plain_conjunct conjunct = plain_in (out-Conjunct conjunct)

abbrev pub ons_in : List BoundSource → List Expr
ons_in sources = flat_map (λ source. (out-BoundSource source).on) sources

-- the first source where FROM is free
abbrev pub first_of_free : List BoundSource → Option BoundSource
first_of_free [] = None
first_of_free (first ∷ sources) = if list_all is_free_source (first ∷ sources) then Some first else None
