-- What the stages of a plan give, over the rows of tables.
use Rattle.std.specs.Prelude.{Bool, List, [], ◌∷◌, ◌++◌, map, flat_map, Option}
use Rattle.sql_expr.specs.declared.tree.Expr.{Expr}
use Rattle.bound_tree.specs.declared.select.Grouping.{Grouping}
use Rattle.sql_meaning.specs.Found.{Found, Row, clean, and_then, unless_faulted}
use Rattle.sql_meaning.specs.Judged.{filtered}
use Rattle.sql_meaning.specs.Plan.{above_where}
use Rattle.sql_meaning.specs.Select.{cut_found}
use Rattle.sql_meaning.specs.Stage.{KeyPair, Side, joined_behind}
use Rattle.sql_meaning.specs.Statements.{Tables, Meant, condition_of, membership, core_of, cut_of, set_found, times_of}
use Rattle.plan_tree.specs.declared.stages.KeyColumns.{KeyColumns}
use Rattle.plan_tree.specs.declared.stages.PlanRows.{PlanRows}
use Rattle.plan_tree.specs.declared.stages.PlanSelect.{PlanSelect}
use Rattle.plan_tree.specs.declared.stages.PlanCore.{PlanCore}
use Rattle.plan_tree.specs.declared.stages.PlanInput.{PlanInput}
use Rattle.plan_tree.specs.declared.stages.PlanConjunct.{PlanConjunct}
use Rattle.plan_tree.specs.declared.stages.PlanSource.{PlanSource}
use Rattle.plan_tree.specs.declared.stages.PlanConjunct.TheOpen.{PlanConjunct-F, PlanCore-F, PlanInput-F, PlanRows-F, PlanSelect-F, PlanSource-F}
use Rattle.plan_tree.specs.declared.stages.PlanConjunct.TheFolds.{fold-PlanConjunct, fold-PlanCore, fold-PlanInput, fold-PlanRows, fold-PlanSelect, fold-PlanSource}
use Rattle.plan_tree.specs.Split.{join_side}

-- what a source gives, and its stage
pub record Staged : Type 0 where
  pub found : Found Row
  pub side : Side

abbrev pub key_pair : KeyColumns → KeyPair
key_pair key = record { left = key.left; right = key.right }

abbrev pub plan_conjunct_meant : PlanConjunct-F Meant (Found Row) (Found Row) (Found Row) (Found Row) Staged → Meant
plan_conjunct_meant (PlanConjunct-F.Condition expr) = record { condition = condition_of expr; faults = [] }
plan_conjunct_meant (PlanConjunct-F.Member expr query negated) = record { condition = membership negated query expr; faults = query.faults }

abbrev pub input_found : Tables → PlanInput-F Meant (Found Row) (Found Row) (Found Row) (Found Row) Staged → Found Row
input_found tables (PlanInput-F.Table name) = clean (tables name)
input_found tables (PlanInput-F.Query found) = found

-- a scan or a join: filters, keys, and then the rest
abbrev pub staged : PlanSource-F Meant (Found Row) (Found Row) (Found Row) (Found Row) Staged → Staged
staged source = record {
  found = source.rows;
  side = join_side source.rows.rows source.width source.pads (record { filters = source.filters; keys = map key_pair source.keys; rest = source.rest });
}

-- The joins one after the other, the conditions that are left in WHERE, and what stands above; where a subquery has a
-- noted fault, nothing else.
abbrev pub stages_found : List Staged → List Expr → List Meant → Option Grouping → List Expr → Bool → Found Row
stages_found sources plain others grouping items distinct =
    unless_faulted (flat_map (λ source. source.found.faults) sources ++ flat_map (λ meant. meant.faults) others)
    (above_where (core_of others grouping items distinct)
    (and_then (joined_behind (map (λ source. source.side) sources) ([] ∷ [])) (filtered (map condition_of plain ++ map (λ meant. meant.condition) others))))

abbrev pub plan_core_found : PlanCore-F Meant (Found Row) (Found Row) (Found Row) (Found Row) Staged → Found Row
plan_core_found core = stages_found core.sources core.plain core.others core.grouping core.items core.distinct

abbrev pub plan_rows_found : PlanRows-F Meant (Found Row) (Found Row) (Found Row) (Found Row) Staged → Found Row
plan_rows_found (PlanRows-F.Core found) = found
plan_rows_found (PlanRows-F.Set kind all left right) = set_found (times_of kind all) left right

abbrev pub plan_select_found : PlanSelect-F Meant (Found Row) (Found Row) (Found Row) (Found Row) Staged → Found Row
plan_select_found select = cut_found (cut_of select.cut) select.rows

abbrev pub plan_meaning : Tables → PlanSelect → Found Row
plan_meaning tables = fold-PlanSelect Meant (Found Row) (Found Row) (Found Row) (Found Row) Staged plan_conjunct_meant (input_found tables) plan_rows_found plan_core_found plan_select_found staged

abbrev pub plan_rows_meaning : Tables → PlanRows → Found Row
plan_rows_meaning tables = fold-PlanRows Meant (Found Row) (Found Row) (Found Row) (Found Row) Staged plan_conjunct_meant (input_found tables) plan_rows_found plan_core_found plan_select_found staged

abbrev pub plan_core_meaning : Tables → PlanCore → Found Row
plan_core_meaning tables = fold-PlanCore Meant (Found Row) (Found Row) (Found Row) (Found Row) Staged plan_conjunct_meant (input_found tables) plan_rows_found plan_core_found plan_select_found staged

abbrev pub plan_input_meaning : Tables → PlanInput → Found Row
plan_input_meaning tables = fold-PlanInput Meant (Found Row) (Found Row) (Found Row) (Found Row) Staged plan_conjunct_meant (input_found tables) plan_rows_found plan_core_found plan_select_found staged

abbrev pub plan_conjunct_meaning : Tables → PlanConjunct → Meant
plan_conjunct_meaning tables = fold-PlanConjunct Meant (Found Row) (Found Row) (Found Row) (Found Row) Staged plan_conjunct_meant (input_found tables) plan_rows_found plan_core_found plan_select_found staged

abbrev pub plan_source_meaning : Tables → PlanSource → Staged
plan_source_meaning tables = fold-PlanSource Meant (Found Row) (Found Row) (Found Row) (Found Row) Staged plan_conjunct_meant (input_found tables) plan_rows_found plan_core_found plan_select_found staged
