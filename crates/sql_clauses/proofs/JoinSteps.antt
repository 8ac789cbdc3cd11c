-- The next source is joined.
use Rattle.std.proofs.Common.{◌≡◌, List, [], ◌∷◌, ◌++◌, sym, ap, ◌∙◌}
use Rattle.std.specs.Prelude.{Some, slice_get, remove}
use Rattle.sql_expr.specs.declared.tree.Expr.{Expr as Tree}
use Rattle.bound_tree.specs.declared.select.BoundSource.{BoundSource}
use Rattle.sql_clauses.specs.declared.joins.Joined.{Joined}
use Rattle.sql_clauses.specs.Joins.{with_on, behind_next, join_first}

abbrev pub next_joined : Joined → BoundSource → List Tree → List BoundSource → Joined
next_joined all source on left = record { joined = all.joined ++ with_on source on ∷ []; rest = left; columns = all.columns; behind = behind_next all }

pub joined_next : (sources : List BoundSource) (source : BoundSource) (left : List BoundSource) (on : List Tree) (all : Joined)
    → slice_get sources 0 ≡ Some source → left ≡ remove sources 0 → join_first sources on all ≡ next_joined all source on left
joined_next [] source left on all is rest = cc
joined_next (first ∷ sources) source left on all is rest =
    let same : first ≡ source = cc in
    ap (λ s. next_joined all s on sources) same ∙ ap (next_joined all source on) (sym rest)

pub none_left : (sources : List BoundSource) (on : List Tree) (all : Joined) → sources ≡ [] → join_first sources on all ≡ all
none_left sources on all is = ap (λ s. join_first s on all) is
