-- Lists of pages: the bag of their numbers, whether they differ and live, and which of them were written.
use Rattle.std.specs.Prelude.{ℕ, ◌+◌, ◌-◌, ◌^◌, ◌<◌, ◌≤◌, IsTrue, List, [], ◌∷◌, length, ⊤}
use Rattle.number_bags.specs.Bags.{one_of}
use Rattle.page_body.specs.View.{PoolTerms, PoolView}

-- how often each number stands among those of some pages
abbrev pub ids_of : {Page Pin : Type 0} → PoolTerms Page Pin → List Page → ℕ → ℕ
ids_of t [] y = 0
ids_of t (p ∷ ps) y = one_of (t.id p) y + ids_of t ps y

-- Where retiring ends lives, pages differ: each number stands once at most. Said of the sum of several bags it says that
-- their pages differ from one another too.
abbrev pub Differ : {Page Pin : Type 0} → PoolTerms Page Pin → (ℕ → ℕ) → Type 0
Differ t bag = IsTrue t.ends_lives → (y : ℕ) → bag y ≤ 1

-- each page of a list is live
abbrev pub AllLive : {Page Pin : Type 0} → PoolView Page Pin → List Page → Type 0
AllLive a [] = ⊤
AllLive a (p ∷ ps) = a.live p × AllLive a ps

-- Of any live pages that differ, at most as many as there are frames weren't written by the pool.
abbrev pub WereWritten : {Page Pin : Type 0} → PoolTerms Page Pin → PoolView Page Pin → Type 0
WereWritten {Page} {Pin} t a = (pages : List Page) → AllLive a pages → Differ t (ids_of t pages) → a.wrote < 2 ^ 64 - 1 → length pages ≤ a.grant + a.wrote
