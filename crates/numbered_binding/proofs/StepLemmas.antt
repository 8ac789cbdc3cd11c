-- What a node of a statement's tree keeps, by what its parts keep.
use Rattle.std.proofs.Common.{ℕ, Bool, List, refl, Option, Some, None, Ok, arith}
use Rattle.std.specs.Prelude.{⊤}
use Rattle.std.specs.List.{AllByRecursion}
use Rattle.bound_tree.specs.declared.kinds.JoinKind.TheVariants.{First, Cross}
use Rattle.sql_plan.specs.Numbered.{AreNumbered, AreNumberedConjunct}
use Rattle.sql_grammar.specs.declared.tree.expr.Argument.TheOpen.{Expr-F, Join-F, Rows-F, Source-F}
use Rattle.sql_scope.specs.Answer.{◌>>=◌}
use Rattle.sql_scope.specs.Scopes.{View, front, over_columns}
use Rattle.sql_clauses.specs.declared.joins.Joined.{Joined}
use Rattle.sql_clauses.specs.declared.sources.Sources.{Sources}
use Rattle.sql_clauses.specs.Conditions.{begun as begun_filter, ended, joined}
use Rattle.sql_clauses.specs.Joins.{join_on, join_plainly, on_width}
use Rattle.sql_clauses.specs.Membership.{member}
use Rattle.sql_clauses.specs.Rows.{combined, finished_rows, select_of}
use Rattle.sql_clauses.specs.Sources.{all_sources, no_sources, query_source}
use Rattle.bind_rules.specs.declared.cores.Filtered.{Filtered}
use Rattle.bind_rules.specs.Bindings.{ExprBinding, ConditionBinding, RowsBinding, ItemBinding, SourceBinding, JoinBinding}
use Rattle.bind_rules.specs.Cores as cores
use Rattle.bind_rules.specs.Expressions as expressions
use Rattle.bind_rules.specs.Expressions.{ExprNode}
use Rattle.bind_rules.specs.From.{begun, join_kind}
use Rattle.bind_rules.specs.Selects as selects
use Rattle.bind_rules.specs.Selects.{JoinNode, RowsNode, SelectNode, SourceNode}
use Rattle.numbered_binding.specs.Kept.{AreFew, AreJoined, AreNamed, AreSources, AreUnordered, IfCondition, IsFilter, IsFiltered, IsOperand, OfAnswer, OfExpr, OfJoin, OfOperand, OfRows, OfSelect, OfSet, OfSource}
use Rattle.numbered_binding.proofs.AnswerLemmas.{behind-any, each-keeps, on-answer}
use Rattle.numbered_binding.proofs.JoinLemmas.{joined-on, plainly-joined}
use Rattle.numbered_binding.proofs.RowLemmas.{combined-kept, finished-kept, select-kept}
use Rattle.numbered_binding.proofs.SourceLemmas.{all-there, query-next, table-next}
use Rattle.numbered_binding.proofs.WhereLemmas.{begun-kept, ended-kept, joined-kept, member-kept, plain-kept}

-- ---- expressions

abbrev pub InExpr : ExprNode → Type 0
InExpr (Expr-F.Every first others) = OfExpr first × AllByRecursion OfOperand others
InExpr (Expr-F.Member place negated operand query) = OfSelect query
InExpr x = ⊤

operand-kept : (view : View) (x : ExprNode) → InExpr x → OfAnswer IsOperand (expressions.operand_over view x)
operand-kept view (Expr-F.Literal written) have = plain-kept (expressions.part_over view (Expr-F.Literal written))
operand-kept view (Expr-F.Column written) have = plain-kept (expressions.part_over view (Expr-F.Column written))
operand-kept view (Expr-F.Call name argument) have = plain-kept (expressions.part_over view (Expr-F.Call name argument))
operand-kept view (Expr-F.Minus place operand) have = plain-kept (expressions.part_over view (Expr-F.Minus place operand))
operand-kept view (Expr-F.Not place operand) have = plain-kept (expressions.part_over view (Expr-F.Not place operand))
operand-kept view (Expr-F.Chain first links) have = plain-kept (expressions.part_over view (Expr-F.Chain first links))
operand-kept view (Expr-F.Every first others) have = plain-kept (expressions.part_over view (Expr-F.Every first others))
operand-kept view (Expr-F.Either first others) have = plain-kept (expressions.part_over view (Expr-F.Either first others))
operand-kept view (Expr-F.Compare place sign left right) have = plain-kept (expressions.part_over view (Expr-F.Compare place sign left right))
operand-kept view (Expr-F.IsNull place negated operand) have = plain-kept (expressions.part_over view (Expr-F.IsNull place negated operand))
operand-kept view (Expr-F.Like place negated operand pattern) have = plain-kept (expressions.part_over view (Expr-F.Like place negated operand pattern))
operand-kept view (Expr-F.OneOf place negated operand list) have = plain-kept (expressions.part_over view (Expr-F.OneOf place negated operand list))
operand-kept view (Expr-F.Between place negated operand low high) have = plain-kept (expressions.part_over view (Expr-F.Between place negated operand low high))
operand-kept view (Expr-F.Member place negated operand query) have =
    behind-any IsOperand (operand.part view) (λ of. query.select view >>= member place query.place negated of)
    (λ of. on-answer AreNumbered IsOperand (query.select view) (member place query.place negated of) (have view)
    (λ select numbered. member-kept place query.place negated of select numbered))

filter-kept : (view : View) (x : ExprNode) → InExpr x → OfAnswer IsFilter (expressions.filter_over view x)
filter-kept view (Expr-F.Every first others) have =
    on-answer IsFilter IsFilter (first.operand view >>= begun_filter) (expressions.filter_behind view others) (begun-kept (first.operand view) (have.0.operand view))
    (λ all h. each-keeps IsFilter OfOperand (expressions.filtered view) (Ok all) others h
    (λ other before of is. on-answer IsOperand IsFilter (other.right.operand view) (joined other.place before) (of.operand view) (λ operand i. joined-kept other.place before operand is i)) have.1)
filter-kept view (Expr-F.Literal written) have = begun-kept (expressions.operand_over view (Expr-F.Literal written)) (operand-kept view (Expr-F.Literal written) have)
filter-kept view (Expr-F.Column written) have = begun-kept (expressions.operand_over view (Expr-F.Column written)) (operand-kept view (Expr-F.Column written) have)
filter-kept view (Expr-F.Call name argument) have = begun-kept (expressions.operand_over view (Expr-F.Call name argument)) (operand-kept view (Expr-F.Call name argument) have)
filter-kept view (Expr-F.Minus place operand) have = begun-kept (expressions.operand_over view (Expr-F.Minus place operand)) (operand-kept view (Expr-F.Minus place operand) have)
filter-kept view (Expr-F.Not place operand) have = begun-kept (expressions.operand_over view (Expr-F.Not place operand)) (operand-kept view (Expr-F.Not place operand) have)
filter-kept view (Expr-F.Chain first links) have = begun-kept (expressions.operand_over view (Expr-F.Chain first links)) (operand-kept view (Expr-F.Chain first links) have)
filter-kept view (Expr-F.Either first others) have = begun-kept (expressions.operand_over view (Expr-F.Either first others)) (operand-kept view (Expr-F.Either first others) have)
filter-kept view (Expr-F.Compare place sign left right) have = begun-kept (expressions.operand_over view (Expr-F.Compare place sign left right)) (operand-kept view (Expr-F.Compare place sign left right) have)
filter-kept view (Expr-F.IsNull place negated operand) have = begun-kept (expressions.operand_over view (Expr-F.IsNull place negated operand)) (operand-kept view (Expr-F.IsNull place negated operand) have)
filter-kept view (Expr-F.Like place negated operand pattern) have = begun-kept (expressions.operand_over view (Expr-F.Like place negated operand pattern)) (operand-kept view (Expr-F.Like place negated operand pattern) have)
filter-kept view (Expr-F.OneOf place negated operand list) have = begun-kept (expressions.operand_over view (Expr-F.OneOf place negated operand list)) (operand-kept view (Expr-F.OneOf place negated operand list) have)
filter-kept view (Expr-F.Member place negated operand query) have = begun-kept (expressions.operand_over view (Expr-F.Member place negated operand query)) (operand-kept view (Expr-F.Member place negated operand query) have)
filter-kept view (Expr-F.Between place negated operand low high) have = begun-kept (expressions.operand_over view (Expr-F.Between place negated operand low high)) (operand-kept view (Expr-F.Between place negated operand low high) have)

pub expr-kept : (x : ExprNode) → InExpr x → OfExpr (expressions.expr_step x)
expr-kept x have = record { operand = λ view. operand-kept view x have; filter = λ view. filter-kept view x have }

-- ---- sources and joins

abbrev pub InSource : SourceNode → Type 0
InSource (Source-F.Table name alias) = ⊤
InSource (Source-F.Query place query alias) = OfSelect query

pub source-kept : (x : SourceNode) → InSource x → OfSource (selects.source_step x)
source-kept (Source-F.Table name alias) have = λ view join sources are. table-next view join name alias sources are
source-kept (Source-F.Query place query alias) have = λ view join sources are.
    on-answer AreNumbered AreSources (query.select view) (query_source view join place alias sources) (have view) (λ select numbered. query-next view join place alias sources select numbered are)

abbrev pub InJoin : JoinNode → Type 0
InJoin (Join-F.Cross source) = OfSource source
InJoin (Join-F.On outer source on) = OfSource source

pub join-kept : (x : JoinNode) → InJoin x → OfJoin (selects.join_step x)
join-kept (Join-F.Cross source) have = record { sources = λ view sources are. have view Cross sources are; on = λ view all are. plainly-joined all are }
join-kept (Join-F.On outer source on) have = record {
  sources = λ view sources are. have view (join_kind outer) sources are;
  on = λ view all are. behind-any AreJoined (on.test.part (front view (on_width all))) (join_on on.place all) (λ part. joined-on on.place all part are);
}

-- ---- cores

sources-kept : (view : View) (first : SourceBinding) (joins : List JoinBinding) → OfSource first → AllByRecursion OfJoin joins → OfAnswer AreFew (selects.sources_of view first joins)
sources-kept view first joins of all =
    on-answer AreSources AreFew (first.sources view First no_sources >>= selects.sources_behind view joins) (all_sources first.place)
    (on-answer AreSources AreSources (first.sources view First no_sources) (selects.sources_behind view joins) (of view First no_sources (record { numbered = tt; columns = refl }))
    (λ sources are. each-keeps AreSources OfJoin (selects.source_behind view) (Ok sources) joins are (λ join before each h. each.sources view before h) all))
    (λ sources are. all-there first.place sources are)

conjuncts-kept : (view : View) (condition : Option ConditionBinding) → IfCondition condition → OfAnswer (AllByRecursion AreNumberedConjunct) (selects.conjuncts_over view condition)
conjuncts-kept view None have = tt
conjuncts-kept view (Some condition) have =
    on-answer IsFilter (AllByRecursion AreNumberedConjunct) (condition.test.filter view) (ended condition.place) (have.filter view) (λ all h. ended-kept condition.place all h)

none-joined : (sources : Sources) → AreFew sources → AreJoined (begun sources)
none-joined sources are = record { numbered = tt; left = are.numbered; few = let f = are.few in omega arith }

filtered-kept : (view : View) (joins : List JoinBinding) (filter : Option ConditionBinding) (all : Joined) → AllByRecursion OfJoin joins → IfCondition filter → AreJoined all
    → OfAnswer IsFiltered (selects.filtered_over view joins filter all)
filtered-kept view joins filter all each have are =
    on-answer AreJoined IsFiltered (join_plainly all >>= selects.ons_behind view joins) (λ (done : Joined). selects.conjuncts_over view filter >>= cores.with_conjuncts done)
    (on-answer AreJoined AreJoined (join_plainly all) (selects.ons_behind view joins) (plainly-joined all are)
    (λ first h. each-keeps AreJoined OfJoin (selects.on_behind view) (Ok first) joins h (λ join before of i. of.on view before i) each))
    (λ done h. on-answer (AllByRecursion AreNumberedConjunct) IsFiltered (selects.conjuncts_over view filter) (cores.with_conjuncts done) (conjuncts-kept view filter have)
    (λ conjuncts numbered. record { numbered = h.numbered; few = let f = h.few in omega arith; conjuncts = numbered }))

core-kept : (place : ℕ) (distinct : Bool) (view : View) (grouped : Bool) (items : List ItemBinding) (joins : List JoinBinding) (filter : Option ConditionBinding) (group : List ExprBinding) (having : Option ConditionBinding) (sources : Sources)
    → AllByRecursion OfJoin joins → IfCondition filter → AreFew sources → OfAnswer AreUnordered (selects.core_over place distinct view grouped items joins filter group having sources)
core-kept place distinct view grouped items joins filter group having sources each have are =
    let seen = over_columns view sources.columns in
    on-answer IsFiltered AreUnordered (selects.filtered_over seen joins filter (begun sources))
    (λ (f : Filtered). selects.shown_over seen grouped items group having >>= cores.bound_core place distinct grouped sources.columns f)
    (filtered-kept seen joins filter (begun sources) each have (none-joined sources are))
    (λ f h. behind-any AreUnordered (selects.shown_over seen grouped items group having) (cores.bound_core place distinct grouped sources.columns f) (λ shown. h))

-- ---- rows

abbrev pub InRows : RowsNode → Type 0
InRows (Rows-F.Core place distinct items first joins filter group having) = OfSource first × (AllByRecursion OfJoin joins × IfCondition filter)
InRows (Rows-F.Sets first others) = OfRows first × AllByRecursion OfSet others

named-kept : (view : View) (rows : RowsBinding) → OfRows rows → OfAnswer AreNamed (selects.operand_over view rows)
named-kept view rows of = on-answer AreUnordered AreNamed (rows.rows view) finished_rows (of view) (λ found h. finished-kept found h)

rows-over : (view : View) (x : RowsNode) → InRows x → OfAnswer AreUnordered (selects.rows_over view x)
rows-over view (Rows-F.Core place distinct items first joins filter group having) have =
    let grouped = selects.is_grouped view.script group having items in
    on-answer AreFew AreUnordered (selects.sources_of view first joins) (selects.core_over place distinct view grouped items joins filter group having) (sources-kept view first joins have.0 have.1.0)
    (λ sources are. core-kept place distinct view grouped items joins filter group having sources have.1.0 have.1.1 are)
rows-over view (Rows-F.Sets first others) have =
    on-answer AreNamed AreUnordered (selects.operand_over view first >>= selects.sets_behind view others) cores.set
    (on-answer AreNamed AreNamed (selects.operand_over view first) (selects.sets_behind view others) (named-kept view first have.0)
    (λ left h. each-keeps AreNamed OfSet (selects.set_behind view) (Ok left) others h
    (λ other before of i. on-answer AreNamed AreNamed (selects.operand_over view other.right) (combined other.kind other.all other.place before) (named-kept view other.right of)
    (λ right j. combined-kept other.kind other.all other.place before right i j)) have.1))
    (λ rows h. h)

pub rows-kept : (x : RowsNode) → InRows x → OfRows (selects.rows_step x)
rows-kept x have = λ view. rows-over view x have

pub whole-kept : (x : SelectNode) → OfRows x.rows → OfSelect (selects.select_step x)
whole-kept x of = λ view. on-answer AreUnordered AreNumbered (x.rows.rows view) (select_of view x.order x.limit x.offset) (of view) (λ rows h. select-kept view x.order x.limit x.offset rows h)
