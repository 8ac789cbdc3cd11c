-- A list of live pages, by place.
use Rattle.std.proofs.Common.{◌≡◌, ℕ, ◌<◌, List, [], ◌∷◌, length, zero, suc, sym, subst, arith}
use Rattle.std.specs.List.{All}
use Rattle.page_body.specs.View.{PoolView}
use Rattle.page_body.specs.Keeps.{LiveOn}
use Rattle.page_body.specs.PageLists.{AllLive}

all_live : {Page Pin : Type 0} (a : PoolView Page Pin) (xs : List Page) → AllLive a xs → All a.live xs
all_live a [] live k d within = absurd (omega (arith, within))
all_live a (x ∷ xs) live zero d within = live.0
all_live a (x ∷ xs) live (suc k) d within = all_live a xs live.1 k d (omega (arith, within))

-- in a later state
pub live_later : {Page Pin : Type 0} (a b : PoolView Page Pin) (xs ys : List Page) → ys ≡ xs → AllLive a xs → LiveOn a b → All b.live ys
live_later a b xs ys same live lives = subst (All b.live) (sym same) (λ k d within. lives _ (all_live a xs live k d within))
