-- SELECT, clause by clause, in the order of its refusals.
use Rattle.std.specs.Prelude.{ℕ, Bool, true, false, ◌||◌, List, [], ◌∷◌, Option, Some, None, Ok, is_some}
use Rattle.bound_tree.specs.declared.kinds.JoinKind.{JoinKind}
use Rattle.bound_tree.specs.declared.kinds.JoinKind.TheVariants.{First, Cross}
use Rattle.bound_tree.specs.declared.select.Conjunct.{Conjunct}
use Rattle.sql_expr.specs.declared.tree.Expr.{Expr as Tree}
use Rattle.sql_grammar.specs.declared.tree.expr.Argument.TheOpen.{Item-F, Join-F, Rows-F, Source-F, Condition-F, Select-F, SetOperand-F}
use Rattle.sql_scope.specs.Answer.{Answer, ◌>>=◌, each}
use Rattle.sql_scope.specs.Scopes.{View, over_columns, over_keys, front}
use Rattle.sql_clauses.specs.declared.cores.NamedRows.{NamedRows}
use Rattle.sql_clauses.specs.declared.cores.Selected.{Selected}
use Rattle.sql_clauses.specs.declared.items.Outputs.{Outputs}
use Rattle.sql_clauses.specs.declared.joins.Joined.{Joined}
use Rattle.sql_clauses.specs.declared.rows.Unordered.{Unordered}
use Rattle.sql_clauses.specs.declared.sources.Sources.{Sources}
use Rattle.sql_clauses.specs.Conditions.{ended}
use Rattle.sql_clauses.specs.Cores.{without_having, with_having, unmixed}
use Rattle.sql_clauses.specs.Items.{no_outputs, star_item, source_item, value_item}
use Rattle.sql_clauses.specs.Joins.{join_plainly, join_on, on_width}
use Rattle.sql_clauses.specs.Rows.{with_key, combined, finished_rows, select_of}
use Rattle.sql_clauses.specs.Sources.{no_sources, table_source, query_source, all_sources}
use Rattle.bind_rules.specs.declared.cores.Filtered.{Filtered}
use Rattle.bind_rules.specs.declared.cores.Shown.{Shown}
use Rattle.bind_rules.specs.Bindings.{ExprBinding, ArgumentBinding, LinkBinding, OperandBinding, ConditionBinding, SelectBinding, RowsBinding, SetBinding, ItemBinding, SourceBinding, JoinBinding}
use Rattle.bind_rules.specs.From.{join_kind, begun}
use Rattle.bind_rules.specs.Cores as cores
use Rattle.bind_rules.specs.Expressions.{some_of}

abbrev pub ItemNode : Type 0
ItemNode = Item-F ArgumentBinding ExprBinding ItemBinding JoinBinding RowsBinding SourceBinding LinkBinding OperandBinding ConditionBinding SelectBinding SetBinding

abbrev pub JoinNode : Type 0
JoinNode = Join-F ArgumentBinding ExprBinding ItemBinding JoinBinding RowsBinding SourceBinding LinkBinding OperandBinding ConditionBinding SelectBinding SetBinding

abbrev pub RowsNode : Type 0
RowsNode = Rows-F ArgumentBinding ExprBinding ItemBinding JoinBinding RowsBinding SourceBinding LinkBinding OperandBinding ConditionBinding SelectBinding SetBinding

abbrev pub SourceNode : Type 0
SourceNode = Source-F ArgumentBinding ExprBinding ItemBinding JoinBinding RowsBinding SourceBinding LinkBinding OperandBinding ConditionBinding SelectBinding SetBinding

abbrev pub ConditionNode : Type 0
ConditionNode = Condition-F ArgumentBinding ExprBinding ItemBinding JoinBinding RowsBinding SourceBinding LinkBinding OperandBinding ConditionBinding SelectBinding SetBinding

abbrev pub SelectNode : Type 0
SelectNode = Select-F ArgumentBinding ExprBinding ItemBinding JoinBinding RowsBinding SourceBinding LinkBinding OperandBinding ConditionBinding SelectBinding SetBinding

abbrev pub SetNode : Type 0
SetNode = SetOperand-F ArgumentBinding ExprBinding ItemBinding JoinBinding RowsBinding SourceBinding LinkBinding OperandBinding ConditionBinding SelectBinding SetBinding

-- ---- sources from left to right; a subquery is bound whole

abbrev pub first_token : SourceNode → ℕ
first_token (Source-F.Table name alias) = name.start
first_token (Source-F.Query place query alias) = place

abbrev pub source_over : View → JoinKind → SourceNode → Sources → Answer Sources
source_over view join (Source-F.Table name alias) sources = table_source view join name alias sources
source_over view join (Source-F.Query place query alias) sources = query.select view >>= query_source view join place alias sources

abbrev pub source_step : SourceNode → SourceBinding
source_step x = record { place = first_token x; sources = λ view join sources. source_over view join x sources }

abbrev pub joined_source : View → JoinNode → Sources → Answer Sources
joined_source view (Join-F.Cross source) sources = source.sources view Cross sources
joined_source view (Join-F.On outer source on) sources = source.sources view (join_kind outer) sources

-- ON sees its own source and those before it
abbrev pub on_over : View → JoinNode → Joined → Answer Joined
on_over view (Join-F.Cross source) joined = join_plainly joined
on_over view (Join-F.On outer source on) joined = on.test.part (front view (on_width joined)) >>= join_on on.place joined

abbrev pub join_step : JoinNode → JoinBinding
join_step x = record { sources = λ view sources. joined_source view x sources; on = λ view joined. on_over view x joined }

abbrev pub source_behind : View → JoinBinding → Sources → Answer Sources
source_behind view join sources = join.sources view sources

abbrev pub sources_behind : View → List JoinBinding → Sources → Answer Sources
sources_behind view joins sources = each (source_behind view) (Ok sources) joins

abbrev pub sources_of : View → SourceBinding → List JoinBinding → Answer Sources
sources_of view first joins = first.sources view First no_sources >>= sources_behind view joins >>= all_sources first.place

abbrev pub on_behind : View → JoinBinding → Joined → Answer Joined
on_behind view join joined = join.on view joined

abbrev pub ons_behind : View → List JoinBinding → Joined → Answer Joined
ons_behind view joins joined = each (on_behind view) (Ok joined) joins

-- ---- WHERE

abbrev pub condition_step : ConditionNode → ConditionBinding
condition_step x = record { place = x.place; test = x.test }

abbrev pub conjuncts_over : View → Option ConditionBinding → Answer (List Conjunct)
conjuncts_over view None = Ok []
conjuncts_over view (Some condition) = condition.test.filter view >>= ended condition.place

-- ---- GROUP BY

abbrev pub key_over : View → ExprBinding → List Tree → Answer (List Tree)
key_over view key keys = key.part view >>= with_key keys

abbrev pub keys_over : View → List ExprBinding → Answer (List Tree)
keys_over view group = each (key_over view) (Ok []) group

-- ---- the items, and then HAVING

abbrev pub item_over : View → Bool → ItemNode → Outputs → Answer Outputs
item_over view grouped (Item-F.Item::Star place) outputs = star_item view grouped place outputs
item_over view grouped (Item-F.SourceStar source) outputs = source_item view grouped source outputs
item_over view grouped (Item-F.Item::Value value alias) outputs = value.part view >>= value_item view grouped alias outputs

abbrev pub item_aggregates : List ℕ → ItemNode → Bool
item_aggregates script (Item-F.Item::Star place) = false
item_aggregates script (Item-F.SourceStar source) = false
item_aggregates script (Item-F.Item::Value value alias) = value.aggregates script

abbrev pub item_step : ItemNode → ItemBinding
item_step x = record { outputs = λ view grouped outputs. item_over view grouped x outputs; aggregates = λ script. item_aggregates script x }

abbrev pub item_behind : View → Bool → ItemBinding → Outputs → Answer Outputs
item_behind view grouped item outputs = item.outputs view grouped outputs

abbrev pub outputs_over : View → Bool → List ItemBinding → Answer Outputs
outputs_over view grouped items = each (item_behind view grouped) (Ok no_outputs) items

abbrev pub having_over : View → Option ConditionBinding → Outputs → Answer Selected
having_over view None outputs = without_having outputs
having_over view (Some condition) outputs = condition.test.part view >>= with_having condition.place outputs

-- over the columns of the sources and these keys
abbrev pub selected_over : View → Bool → List ItemBinding → Option ConditionBinding → List Tree → Answer Selected
selected_over view grouped items having keys =
    outputs_over (over_keys view keys) grouped items >>= having_over (over_keys view keys) having >>= unmixed

-- A core is grouped where it has GROUP BY, HAVING or an aggregate in an item.
abbrev pub aggregates_of : List ℕ → ItemBinding → Bool
aggregates_of script item = item.aggregates script

abbrev pub has_some : {X : Type 0} → List X → Bool
has_some [] = false
has_some (x ∷ xs) = true

abbrev pub is_grouped : List ℕ → List ExprBinding → Option ConditionBinding → List ItemBinding → Bool
is_grouped script group having items = (has_some group || is_some having) || some_of (aggregates_of script) items

-- ---- a core: the sources, ON, WHERE, GROUP BY, and the items with HAVING

abbrev pub filtered_over : View → List JoinBinding → Option ConditionBinding → Joined → Answer Filtered
filtered_over view joins filter joined =
    join_plainly joined >>= ons_behind view joins >>= (λ all. conjuncts_over view filter >>= cores.with_conjuncts all)

abbrev pub shown_over : View → Bool → List ItemBinding → List ExprBinding → Option ConditionBinding → Answer Shown
shown_over view grouped items group having =
    keys_over view group >>= (λ keys. selected_over view grouped items having keys >>= cores.with_selected keys)

abbrev pub core_over : ℕ → Bool → View → Bool → List ItemBinding → List JoinBinding → Option ConditionBinding → List ExprBinding → Option ConditionBinding
    → Sources → Answer Unordered
core_over place distinct view grouped items joins filter group having sources =
    filtered_over (over_columns view sources.columns) joins filter (begun sources)
    >>= (λ f. shown_over (over_columns view sources.columns) grouped items group having >>= cores.bound_core place distinct grouped sources.columns f)

-- ---- set operations from left to right, each operand finished before the next

abbrev pub set_step : SetNode → SetBinding
set_step x = record { kind = x.kind; all = x.all; place = x.place; right = x.right }

abbrev pub operand_over : View → RowsBinding → Answer NamedRows
operand_over view rows = rows.rows view >>= finished_rows

abbrev pub set_behind : View → SetBinding → NamedRows → Answer NamedRows
set_behind view set left = operand_over view set.right >>= combined set.kind set.all set.place left

abbrev pub sets_behind : View → List SetBinding → NamedRows → Answer NamedRows
sets_behind view others left = each (set_behind view) (Ok left) others

abbrev pub rows_over : View → RowsNode → Answer Unordered
rows_over view (Rows-F.Core place distinct items first joins filter group having) =
    sources_of view first joins >>= core_over place distinct view (is_grouped view.script group having items) items joins filter group having
rows_over view (Rows-F.Sets first others) = operand_over view first >>= sets_behind view others >>= cores.set

abbrev pub rows_step : RowsNode → RowsBinding
rows_step x = record { rows = λ view. rows_over view x }

-- ---- SELECT: its rows, and then their order

abbrev pub select_step : SelectNode → SelectBinding
select_step x = record { place = x.place; select = λ view. x.rows.rows view >>= select_of view x.order x.limit x.offset }
