-- The plan of a node, by its parts.
use Rattle.std.proofs.Common.{◌≡◌, ℕ, Bool, List, map, ap, ◌∙◌, length}
use Rattle.sql_expr.specs.declared.tree.Expr.{Expr}
use Rattle.ooc_types.specs.declared.schema.SqlType.{SqlType}
use Rattle.bound_tree.specs.declared.kinds.SetKind.{SetKind}
use Rattle.bound_tree.specs.declared.select.BoundCore.{BoundCore}
use Rattle.bound_tree.specs.declared.select.BoundRows.{BoundRows}
use Rattle.bound_tree.specs.declared.select.BoundSelect.{BoundSelect}
use Rattle.bound_tree.specs.declared.select.BoundSource.{BoundSource}
use Rattle.bound_tree.specs.declared.select.Conjunct.{Conjunct}
use Rattle.bound_tree.specs.declared.select.SourceRows.{SourceRows}
use Rattle.bound_tree.specs.declared.select.BoundRows.TheOpen.{BoundRows-F, Conjunct-F, SourceRows-F}
use Rattle.bound_tree.specs.declared.select.BoundRows.TheFolds.{fold_out-BoundCore, fold_out-BoundRows, fold_out-BoundSelect, fold_out-BoundSource, fold_out-Conjunct, fold_out-SourceRows, map-BoundRows, map-Conjunct, map-SourceRows}
use Rattle.bound_tree.specs.declared.select.BoundRows.TheViews.{out-BoundCore, out-BoundRows, out-BoundSelect, out-BoundSource, out-Conjunct, out-SourceRows}
use Rattle.sql_meaning.specs.Statements.{pads_of}
use Rattle.plan_tree.specs.declared.parts.SourcePlan.{SourcePlan}
use Rattle.plan_tree.specs.declared.stages.PlanConjunct.{PlanConjunct}
use Rattle.plan_tree.specs.declared.stages.PlanCore.{PlanCore}
use Rattle.plan_tree.specs.declared.stages.PlanInput.{PlanInput}
use Rattle.plan_tree.specs.declared.stages.PlanRows.{PlanRows}
use Rattle.plan_tree.specs.declared.stages.PlanSelect.{PlanSelect}
use Rattle.plan_tree.specs.declared.stages.PlanConjunct.TheOpen.{PlanConjunct-F, PlanInput-F, PlanRows-F}
use Rattle.plan_tree.specs.declared.stages.PlanConjunct.TheViews.{roll-PlanConjunct, roll-PlanInput, roll-PlanRows, roll-PlanSelect}
use Rattle.plan_tree.specs.Planned.{Counts, planned_core, plan_rows_step, plan_conjunct_step, plan_input_step, plan_core_step, plan_select_step, plan_source_step, plan_of_rows, plan_of_conjunct, plan_of_input, plan_of_core, plan_of_select, plan_of_source}

module _ (counts : Counts) where
  abbrev pub rows_map : BoundRows-F BoundRows Conjunct SourceRows BoundCore BoundSelect BoundSource → BoundRows-F PlanRows PlanConjunct PlanInput PlanCore PlanSelect SourcePlan
  rows_map = map-BoundRows BoundRows Conjunct SourceRows BoundCore BoundSelect BoundSource PlanRows PlanConjunct PlanInput PlanCore PlanSelect SourcePlan (plan_of_rows counts) (plan_of_conjunct counts) (plan_of_input counts) (plan_of_core counts) (plan_of_select counts) (plan_of_source counts)

  abbrev pub conjunct_map : Conjunct-F BoundRows Conjunct SourceRows BoundCore BoundSelect BoundSource → Conjunct-F PlanRows PlanConjunct PlanInput PlanCore PlanSelect SourcePlan
  conjunct_map = map-Conjunct BoundRows Conjunct SourceRows BoundCore BoundSelect BoundSource PlanRows PlanConjunct PlanInput PlanCore PlanSelect SourcePlan (plan_of_rows counts) (plan_of_conjunct counts) (plan_of_input counts) (plan_of_core counts) (plan_of_select counts) (plan_of_source counts)

  abbrev pub input_map : SourceRows-F BoundRows Conjunct SourceRows BoundCore BoundSelect BoundSource → SourceRows-F PlanRows PlanConjunct PlanInput PlanCore PlanSelect SourcePlan
  input_map = map-SourceRows BoundRows Conjunct SourceRows BoundCore BoundSelect BoundSource PlanRows PlanConjunct PlanInput PlanCore PlanSelect SourcePlan (plan_of_rows counts) (plan_of_conjunct counts) (plan_of_input counts) (plan_of_core counts) (plan_of_select counts) (plan_of_source counts)

  pub rows_core : (x : BoundRows) (core : BoundCore) → out-BoundRows x ≡ BoundRows-F.Core core → plan_of_rows counts x ≡ roll-PlanRows (PlanRows-F.Core (plan_of_core counts core))
  rows_core x core is =
      fold_out-BoundRows PlanRows PlanConjunct PlanInput PlanCore PlanSelect SourcePlan plan_rows_step plan_conjunct_step plan_input_step (plan_core_step counts) plan_select_step plan_source_step x ∙ ap (λ y. plan_rows_step (rows_map y)) is

  pub rows_set : (x : BoundRows) (kind : SetKind) (all : Bool) (left right : BoundRows) (kinds : List SqlType) → out-BoundRows x ≡ BoundRows-F.Set kind all left right kinds
      → plan_of_rows counts x ≡ roll-PlanRows (PlanRows-F.Set kind all (plan_of_rows counts left) (plan_of_rows counts right))
  rows_set x kind all left right kinds is =
      fold_out-BoundRows PlanRows PlanConjunct PlanInput PlanCore PlanSelect SourcePlan plan_rows_step plan_conjunct_step plan_input_step (plan_core_step counts) plan_select_step plan_source_step x ∙ ap (λ y. plan_rows_step (rows_map y)) is

  pub conjunct_condition : (x : Conjunct) (expr : Expr) → out-Conjunct x ≡ Conjunct-F.Condition expr → plan_of_conjunct counts x ≡ roll-PlanConjunct (PlanConjunct-F.Condition expr)
  conjunct_condition x expr is =
      fold_out-Conjunct PlanRows PlanConjunct PlanInput PlanCore PlanSelect SourcePlan plan_rows_step plan_conjunct_step plan_input_step (plan_core_step counts) plan_select_step plan_source_step x ∙ ap (λ y. plan_conjunct_step (conjunct_map y)) is

  pub conjunct_member : (x : Conjunct) (of : Expr) (query : BoundSelect) (negated : Bool) → out-Conjunct x ≡ Conjunct-F.Member of query negated
      → plan_of_conjunct counts x ≡ roll-PlanConjunct (PlanConjunct-F.Member of (plan_of_select counts query) negated)
  conjunct_member x of query negated is =
      fold_out-Conjunct PlanRows PlanConjunct PlanInput PlanCore PlanSelect SourcePlan plan_rows_step plan_conjunct_step plan_input_step (plan_core_step counts) plan_select_step plan_source_step x ∙ ap (λ y. plan_conjunct_step (conjunct_map y)) is

  pub input_table : (x : SourceRows) (name : List ℕ) → out-SourceRows x ≡ SourceRows-F.Table name → plan_of_input counts x ≡ roll-PlanInput (PlanInput-F.Table name)
  input_table x name is =
      fold_out-SourceRows PlanRows PlanConjunct PlanInput PlanCore PlanSelect SourcePlan plan_rows_step plan_conjunct_step plan_input_step (plan_core_step counts) plan_select_step plan_source_step x ∙ ap (λ y. plan_input_step (input_map y)) is

  pub input_query : (x : SourceRows) (select : BoundSelect) → out-SourceRows x ≡ SourceRows-F.Query select → plan_of_input counts x ≡ roll-PlanInput (PlanInput-F.Query (plan_of_select counts select))
  input_query x select is =
      fold_out-SourceRows PlanRows PlanConjunct PlanInput PlanCore PlanSelect SourcePlan plan_rows_step plan_conjunct_step plan_input_step (plan_core_step counts) plan_select_step plan_source_step x ∙ ap (λ y. plan_input_step (input_map y)) is

  pub core_is : (x : BoundCore) → plan_of_core counts x
      ≡ planned_core counts (map (plan_of_source counts) (out-BoundCore x).sources) (map (plan_of_conjunct counts) (out-BoundCore x).conjuncts) (out-BoundCore x).grouping (out-BoundCore x).items (out-BoundCore x).distinct
  core_is x = fold_out-BoundCore PlanRows PlanConjunct PlanInput PlanCore PlanSelect SourcePlan plan_rows_step plan_conjunct_step plan_input_step (plan_core_step counts) plan_select_step plan_source_step x

  pub select_is : (x : BoundSelect) → plan_of_select counts x ≡ roll-PlanSelect (record { rows = plan_of_rows counts (out-BoundSelect x).rows; columns = (out-BoundSelect x).columns; cut = (out-BoundSelect x).cut })
  select_is x = fold_out-BoundSelect PlanRows PlanConjunct PlanInput PlanCore PlanSelect SourcePlan plan_rows_step plan_conjunct_step plan_input_step (plan_core_step counts) plan_select_step plan_source_step x

  abbrev pub planned_source : BoundSource → SourcePlan
  planned_source x = record {
    name = (out-BoundSource x).name;
    input = plan_of_input counts (out-BoundSource x).rows;
    width = length (out-BoundSource x).kinds;
    pads = pads_of (out-BoundSource x).join;
    on = (out-BoundSource x).on;
  }

  pub source_is : (x : BoundSource) → plan_of_source counts x ≡ planned_source x
  source_is x = fold_out-BoundSource PlanRows PlanConjunct PlanInput PlanCore PlanSelect SourcePlan plan_rows_step plan_conjunct_step plan_input_step (plan_core_step counts) plan_select_step plan_source_step x
