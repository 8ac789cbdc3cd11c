-- ON, and the sources joined.
use Rattle.std.proofs.Common.{◌≡◌, ℕ, ◌+◌, ◌≤◌, List, [], ◌∷◌, length, refl, ap, arith}
use Rattle.std.specs.Prelude.{⊤}
use Rattle.sql_expr.specs.declared.tree.Expr.{Expr}
use Rattle.bound_tree.specs.declared.select.BoundCore.{BoundCore}
use Rattle.bound_tree.specs.declared.select.BoundRows.{BoundRows}
use Rattle.bound_tree.specs.declared.select.BoundSelect.{BoundSelect}
use Rattle.bound_tree.specs.declared.select.BoundSource.{BoundSource}
use Rattle.bound_tree.specs.declared.select.Conjunct.{Conjunct}
use Rattle.bound_tree.specs.declared.select.SourceRows.{SourceRows}
use Rattle.bound_tree.specs.declared.select.BoundRows.TheOpen.{BoundSource-F}
use Rattle.bound_tree.specs.declared.select.BoundRows.TheViews.{out-BoundSource, out-roll-BoundSource}
use Rattle.plan_tree.specs.Plannable.{columns_of_source, columns_of_sources}
use Rattle.sql_plan.specs.Numbered.{AreNumberedSource, IsNumberedCore}
use Rattle.sql_scope.specs.declared.part.Part.{Part}
use Rattle.sql_clauses.specs.declared.joins.Joined.{Joined}
use Rattle.sql_clauses.specs.Conditions.{on_condition}
use Rattle.sql_clauses.specs.Joins.{join_next, join_on, join_plainly, join_with, with_on}
use Rattle.well_formed.proofs.Parts.{from_held, from_made}
use Rattle.numbered_binding.specs.Kept.{AreJoined, OfAnswer}
use Rattle.numbered_binding.proofs.AnswerLemmas.{all-behind, behind-any}
use Rattle.numbered_binding.proofs.SourceLemmas.{columns-behind}

joined-next : (on : List Expr) (joined rest : List BoundSource) (columns behind : ℕ) → AreJoined (record { joined = joined; rest = rest; columns = columns; behind = behind })
    → AreJoined (join_next (record { joined = joined; rest = rest; columns = columns; behind = behind }) on)
joined-next on joined [] columns behind are = are
joined-next on joined (source ∷ rest) columns behind are =
    let node : BoundSource-F BoundRows Conjunct SourceRows BoundCore BoundSelect BoundSource =
    record { name = (out-BoundSource source).name; rows = (out-BoundSource source).rows; kinds = (out-BoundSource source).kinds; join = (out-BoundSource source).join; on = on } in
    let put = with_on source on in
    record {
      numbered = all-behind AreNumberedSource joined put are.numbered
          (from_made (λ x. ⊤) (λ x. ⊤) (λ x. ⊤) IsNumberedCore (λ x. ⊤) (λ x. ⊤) node
          (from_held (λ x. ⊤) (λ x. ⊤) (λ x. ⊤) IsNumberedCore (λ x. ⊤) (λ x. ⊤) source (out-BoundSource source) are.left.0 refl) tt);
      left = are.left.1;
      few =
          let a = columns-behind joined put in
          let b : columns_of_source put ≡ columns_of_source source = ap (λ (s : BoundSource-F BoundRows Conjunct SourceRows BoundCore BoundSelect BoundSource). length s.kinds) (out-roll-BoundSource node) in
          let c : columns_of_sources joined + (columns_of_source source + columns_of_sources rest) ≤ 64 = are.few in
          omega arith;
    }

pub plainly-joined : (all : Joined) → AreJoined all → OfAnswer AreJoined (join_plainly all)
plainly-joined all are = joined-next [] all.joined all.rest all.columns all.behind are

pub joined-on : (place : ℕ) (all : Joined) (part : Part) → AreJoined all → OfAnswer AreJoined (join_on place all part)
joined-on place all part are =
    behind-any AreJoined (on_condition place part) (join_with all) (λ on. joined-next on all.joined all.rest all.columns all.behind are)
