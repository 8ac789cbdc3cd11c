-- The columns of sources and what holds of each, item by item.
use Rattle.std.proofs.Common.{◌≡◌, ℕ, zero, suc, ◌+◌, ◌<◌, List, [], ◌∷◌, sym, ap, subst, length, get_or, drop, arith}
use Rattle.std.specs.List.{AllByRecursion}
use Rattle.bound_tree.specs.declared.select.BoundSource.{BoundSource}
use Rattle.plan_tree.specs.Plannable.{columns_of_source, columns_of_sources}
use Rattle.sql_plan.proofs.Lists.{drop_is}

pub columns_next : (list : List BoundSource) (i : ℕ) (x : BoundSource) (at whole : ℕ) → i < length list → x ≡ get_or list i x → at + columns_of_sources (drop i list) ≡ whole
    → (at + columns_of_source x) + columns_of_sources (drop (i + 1) list) ≡ whole
columns_next list i x at whole h is so_far = let e = ap columns_of_sources (drop_is list i x h is) in omega arith

pub all_at : {A : Type 0} → (P : A → Type 0) (list : List A) (i : ℕ) (x : A) → i < length list → x ≡ get_or list i x → AllByRecursion P list → P x
all_at P [] i x h is all = absurd (omega arith)
all_at P (y ∷ list) zero x h is all = subst P (sym is) all.0
all_at P (y ∷ list) (suc i) x h is all = all_at P list i x (omega arith) is all.1
