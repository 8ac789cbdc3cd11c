-- The sources of FROM, as far as they are bound, and as far as they are joined.
use Rattle.std.specs.Prelude.{◌≡◌, ℕ, ◌≤◌, List, [], ◌++◌, map, length, None}
use Rattle.std.specs.List.{AllByRecursion}
use Rattle.sql_expr.specs.Operations.{IsProper}
use Rattle.bound_tree.specs.declared.kinds.JoinKind.{JoinKind}
use Rattle.bound_tree.specs.declared.select.BoundSource.{BoundSource}
use Rattle.bound_tree.specs.declared.select.BoundRows.TheViews.{out-BoundSource}
use Rattle.sql_scope.specs.declared.scope.ScopeColumn.{ScopeColumn}
use Rattle.sql_scope.specs.Scopes.{View, columns_of, kinds}
use Rattle.sql_clauses.specs.declared.joins.Joined.{Joined}
use Rattle.sql_clauses.specs.declared.sources.Sources.{Sources}
use Rattle.well_formed.specs.From.{AreJoined, names_of}
use Rattle.well_formed.specs.Given.{kinds_of_sources}
use Rattle.well_formed.specs.Names.{AreApart}
use Rattle.well_formed.specs.Rows.{IsWellFormedSource}

-- Sources of different names, whose rows are well-formed and whose columns are those that are seen; none has its ON yet.
pub record AreSources (view : View) (sources : Sources) (by_joins : List JoinKind) : Type 0 where
  pub names : AreApart (names_of sources.list)
  pub few : sources.ninth ≡ None → length sources.list ≤ 8
  pub kinds : map (λ (c : ScopeColumn). c.kind) sources.columns ≡ kinds_of_sources sources.list
  pub proper : AllByRecursion IsProper (map (λ (c : ScopeColumn). c.kind) sources.columns)
  pub well : AllByRecursion (IsWellFormedSource view.limit (columns_of view.tables)) sources.list
  pub joins : map (λ (s : BoundSource). (out-BoundSource s).join) sources.list ≡ by_joins
  pub plain : AllByRecursion (λ (s : BoundSource). (out-BoundSource s).on ≡ []) sources.list

-- once all are there, they are not too many, nor their columns
pub record AreAll (view : View) (sources : Sources) (by_joins : List JoinKind) : Type 0 where
  pub are : AreSources view sources by_joins
  pub few : length sources.list ≤ 8
  pub narrow : length sources.columns ≤ 64

-- The sources of these names and joins: those that have their ON, over the columns up to them, and those that haven't.
pub record AreJoinedTo (view : View) (names : List (List ℕ)) (kinds_of_all left : List JoinKind) (joined rest : List BoundSource) (columns behind : ℕ) : Type 0 where
  pub done : AreJoined view.limit [] joined
  pub whole : kinds view ≡ kinds_of_sources joined ++ kinds_of_sources rest
  pub width : columns ≡ length (kinds view)
  pub more : behind ≡ length (kinds_of_sources rest)
  pub well : AllByRecursion (IsWellFormedSource view.limit (columns_of view.tables)) joined
  pub well_rest : AllByRecursion (IsWellFormedSource view.limit (columns_of view.tables)) rest
  pub called : names_of joined ++ names_of rest ≡ names
  pub by : map (λ (s : BoundSource). (out-BoundSource s).join) joined ++ map (λ (s : BoundSource). (out-BoundSource s).join) rest ≡ kinds_of_all
  pub by_rest : map (λ (s : BoundSource). (out-BoundSource s).join) rest ≡ left

abbrev pub AreJoinedAs : View → List (List ℕ) → List JoinKind → List JoinKind → Joined → Type 0
AreJoinedAs view names all left j = AreJoinedTo view names all left j.joined j.rest j.columns j.behind
