-- The sources of a FROM, once they are bound.
use Rattle.std.specs.Prelude.{ℕ, ◌≡◌, Bool, List, length, Result, Ok, Err, if◌then◌else◌, ⊤}
use Rattle.bound_tree.specs.declared.kinds.JoinKind.{JoinKind}
use Rattle.bound_tree.specs.declared.kinds.JoinKind.TheVariants.{Inner, Left}
use Rattle.sql_scope.specs.declared.fault.BindFault.{BindFault}
use Rattle.sql_scope.specs.declared.scope.ScopeColumn.{ScopeColumn}
use Rattle.sql_scope.specs.Answer.{Answer, ◌>>=◌}
use Rattle.sql_clauses.specs.declared.joins.Joined.{Joined}
use Rattle.sql_clauses.specs.declared.sources.Sources.{Sources}
use Rattle.sql_clauses.specs.Joins.{not_joined, on_width}
use Rattle.sql_clauses.specs.Sources.{all_sources}

abbrev pub join_kind : Bool → JoinKind
join_kind outer = if outer then Left else Inner

-- the sources, none of which is joined yet
abbrev pub begun : Sources → Joined
begun sources = not_joined (length sources.columns) sources.list

abbrev pub begin_joins : ℕ → Sources → Answer Joined
begin_joins place sources = all_sources place sources >>= (λ s. Ok (begun s))

abbrev pub AreOf : Answer Sources → Result Joined BindFault → List ScopeColumn → Type 0
AreOf answer (Err fault) columns = ⊤
AreOf (Err refusal) (Ok joined) columns = ⊤
AreOf (Ok sources) (Ok joined) columns = columns ≡ sources.columns

-- Where the sources were bound, and aren't too many, these are their columns.
abbrev pub AreColumns : ℕ → Result Sources BindFault → Result Joined BindFault → List ScopeColumn → Type 0
AreColumns place (Err fault) joined columns = ⊤
AreColumns place (Ok sources) joined columns = AreOf (all_sources place sources) joined columns

-- how many columns the ON of the next source sees
abbrev pub width_of : Result Joined BindFault → ℕ
width_of (Err fault) = 0
width_of (Ok joined) = on_width joined
