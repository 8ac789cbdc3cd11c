-- The text of a plan.
use Rattle.std.specs.Prelude.{ℕ, Bool, List, [], ◌∷◌, ◌++◌, map, flat_map, length, codes, Option, Some, None}
use Rattle.sql_expr.specs.declared.tree.Expr.{Expr}
use Rattle.bound_tree.specs.declared.select.Grouping.{Grouping}
use Rattle.plan_tree.specs.declared.stages.PlanConjunct.{PlanConjunct}
use Rattle.plan_tree.specs.declared.stages.PlanCore.{PlanCore}
use Rattle.plan_tree.specs.declared.stages.PlanInput.{PlanInput}
use Rattle.plan_tree.specs.declared.stages.PlanRows.{PlanRows}
use Rattle.plan_tree.specs.declared.stages.PlanSelect.{PlanSelect}
use Rattle.plan_tree.specs.declared.stages.PlanSource.{PlanSource}
use Rattle.plan_tree.specs.declared.stages.PlanConjunct.TheOpen.{PlanConjunct-F, PlanCore-F, PlanInput-F, PlanRows-F, PlanSelect-F, PlanSource-F}
use Rattle.plan_tree.specs.declared.stages.PlanConjunct.TheFolds.{fold-PlanConjunct, fold-PlanCore, fold-PlanInput, fold-PlanRows, fold-PlanSelect, fold-PlanSource}
use Rattle.plan_tree.specs.declared.stages.PlanConjunct.TheViews.{out-PlanCore, out-PlanSource}
use Rattle.plan_text.specs.Lines.{subquery_line, end_line, scan_line, join_line, in_line, end_in_line, filter_line, grouping_lines, project_line, distinct_line, set_line, cut_lines}

-- What a source adds to the text: the lines of its subquery, if it is one, and the line of its stage, as the first
-- source and as a later one.
pub record SourceText : Type 0 where
  pub query : List ℕ
  pub scan : List ℕ
  pub join : List ℕ

abbrev pub named_query : List ℕ → Option (List ℕ) → List ℕ
named_query name None = []
named_query name (Some lines) = subquery_line name ++ (lines ++ end_line name)

abbrev pub source_step : PlanSource-F (List ℕ) (Option (List ℕ)) (List ℕ) (List ℕ) (List ℕ) SourceText → SourceText
source_step source = record {
  query = named_query source.name source.rows;
  scan = scan_line source.name (length source.filters);
  join = join_line source.pads source.name (length source.keys) (length source.filters) (length source.rest);
}

-- the lines of the subquery, if it is one
abbrev pub input_step : PlanInput-F (List ℕ) (Option (List ℕ)) (List ℕ) (List ℕ) (List ℕ) SourceText → Option (List ℕ)
input_step (PlanInput-F.Table name) = None
input_step (PlanInput-F.Query lines) = Some lines

abbrev pub conjunct_step : PlanConjunct-F (List ℕ) (Option (List ℕ)) (List ℕ) (List ℕ) (List ℕ) SourceText → List ℕ
conjunct_step (PlanConjunct-F.Condition expr) = []
conjunct_step (PlanConjunct-F.Member expr lines negated) = in_line ++ (lines ++ end_in_line)

abbrev pub from_lines : List SourceText → List ℕ
from_lines [] = []
from_lines (first ∷ later) = first.scan ++ flat_map (λ (source : SourceText). source.join) later

-- The subqueries of FROM, those of IN, and then the stages in their order.
abbrev pub core_step : PlanCore-F (List ℕ) (Option (List ℕ)) (List ℕ) (List ℕ) (List ℕ) SourceText → List ℕ
core_step core =
    flat_map (λ (source : SourceText). source.query) core.sources
    ++ (flat_map (λ (lines : List ℕ). lines) core.others
    ++ (from_lines core.sources
    ++ (filter_line (length core.plain) (length core.others)
    ++ (grouping_lines core.grouping ++ (project_line (length core.items) ++ distinct_line core.distinct)))))

abbrev pub rows_step : PlanRows-F (List ℕ) (Option (List ℕ)) (List ℕ) (List ℕ) (List ℕ) SourceText → List ℕ
rows_step (PlanRows-F.Core lines) = lines
rows_step (PlanRows-F.Set kind all left right) = left ++ (right ++ set_line kind all)

abbrev pub select_step : PlanSelect-F (List ℕ) (Option (List ℕ)) (List ℕ) (List ℕ) (List ℕ) SourceText → List ℕ
select_step select = select.rows ++ cut_lines select.cut

-- the lines of a SELECT
abbrev pub select_lines : PlanSelect → List ℕ
select_lines = fold-PlanSelect (List ℕ) (Option (List ℕ)) (List ℕ) (List ℕ) (List ℕ) SourceText conjunct_step input_step rows_step core_step select_step source_step

abbrev pub rows_lines : PlanRows → List ℕ
rows_lines = fold-PlanRows (List ℕ) (Option (List ℕ)) (List ℕ) (List ℕ) (List ℕ) SourceText conjunct_step input_step rows_step core_step select_step source_step

abbrev pub core_lines : PlanCore → List ℕ
core_lines = fold-PlanCore (List ℕ) (Option (List ℕ)) (List ℕ) (List ℕ) (List ℕ) SourceText conjunct_step input_step rows_step core_step select_step source_step

abbrev pub source_text : PlanSource → SourceText
source_text = fold-PlanSource (List ℕ) (Option (List ℕ)) (List ℕ) (List ℕ) (List ℕ) SourceText conjunct_step input_step rows_step core_step select_step source_step

abbrev pub input_lines : PlanInput → Option (List ℕ)
input_lines = fold-PlanInput (List ℕ) (Option (List ℕ)) (List ℕ) (List ℕ) (List ℕ) SourceText conjunct_step input_step rows_step core_step select_step source_step

abbrev pub conjunct_lines : PlanConjunct → List ℕ
conjunct_lines = fold-PlanConjunct (List ℕ) (Option (List ℕ)) (List ℕ) (List ℕ) (List ℕ) SourceText conjunct_step input_step rows_step core_step select_step source_step

-- what EXPLAIN prints: the header, the lines, and an empty line
abbrev pub plan_text : PlanSelect → List ℕ
plan_text plan = codes "plan\n" ++ (select_lines plan ++ codes "\n")

-- ---- by parts

-- the lines of a source's subquery, if it is one
abbrev pub query_lines : PlanSource → List ℕ
query_lines source = (source_text source).query

abbrev pub scan_of : PlanSource → List ℕ
scan_of source = scan_line (out-PlanSource source).name (length (out-PlanSource source).filters)

abbrev pub join_of : PlanSource → List ℕ
join_of source = join_line (out-PlanSource source).pads (out-PlanSource source).name (length (out-PlanSource source).keys) (length (out-PlanSource source).filters) (length (out-PlanSource source).rest)

-- the lines of the sources
abbrev pub from_of : List PlanSource → List ℕ
from_of [] = []
from_of (first ∷ later) = scan_of first ++ flat_map join_of later

-- the lines of a core behind those of its subqueries
abbrev pub stages_of : PlanCore → List ℕ
stages_of core =
    from_of (out-PlanCore core).sources
    ++ (filter_line (length (out-PlanCore core).plain) (length (out-PlanCore core).others)
    ++ (grouping_lines (out-PlanCore core).grouping ++ (project_line (length (out-PlanCore core).items) ++ distinct_line (out-PlanCore core).distinct)))
