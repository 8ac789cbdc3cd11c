-- What values have of a pool: their pages, and the pins and open pages of this worker that they keep.
use Rattle.std.specs.Prelude.{◌≡◌, ℕ, ◌+◌, ◌≤◌, IsTrue, List}
use Rattle.page_body.specs.View.{PoolTerms, PoolView}
use Rattle.number_bags.specs.Bags.{one_of}
use Rattle.page_body.specs.PageLists.{ids_of, Differ, AllLive}

-- how many of its pages have a number, how many of its pins are on the page of a number, how many of its open pages lie in
-- the frame of a number, and how many pins and open pages it keeps
pub record Holding : Type 0 where
  pub pages : ℕ → ℕ
  pub pins : ℕ → ℕ
  pub opens : ℕ → ℕ
  pub held : ℕ

abbrev pub nothing : Holding
nothing = record { pages = λ y. 0; pins = λ y. 0; opens = λ y. 0; held = 0 }

-- of two values together
abbrev pub both : Holding → Holding → Holding
both h k = record { pages = λ y. h.pages y + k.pages y; pins = λ y. h.pins y + k.pins y; opens = λ y. h.opens y + k.opens y; held = h.held + k.held }

-- pages alone
abbrev pub pages_only : (ℕ → ℕ) → Holding
pages_only bag = record { pages = bag; pins = λ y. 0; opens = λ y. 0; held = 0 }

-- one page, one pin on a page, one open page in a frame
abbrev pub a_page : ℕ → Holding
a_page x = pages_only (one_of x)

abbrev pub a_pin : ℕ → Holding
a_pin x = record { pages = λ y. 0; pins = one_of x; opens = λ y. 0; held = 1 }

abbrev pub an_open : ℕ → Holding
an_open x = record { pages = λ y. 0; pins = λ y. 0; opens = one_of x; held = 1 }

-- the same, number by number
pub record SameHolding (h k : Holding) : Type 0 where
  pub pages : (y : ℕ) → h.pages y ≡ k.pages y
  pub pins : (y : ℕ) → h.pins y ≡ k.pins y
  pub opens : (y : ℕ) → h.opens y ≡ k.opens y
  pub held : h.held ≡ k.held

-- what is kept is this worker's
pub record IsOwned {Page Pin : Type 0} (a : PoolView Page Pin) (h : Holding) : Type 0 where
  pub pins : (y : ℕ) → h.pins y ≤ a.pins y
  pub opens : (y : ℕ) → h.opens y ≤ a.opens y

-- where retiring ends lives, this worker has no pin on the pages of these numbers
abbrev pub Unpinned : {Page Pin : Type 0} → PoolTerms Page Pin → PoolView Page Pin → (ℕ → ℕ) → Type 0
Unpinned t a bag = IsTrue t.ends_lives → (y : ℕ) → 1 ≤ bag y → a.pins y ≡ 0

-- pages that can be retired one after the other: they are live, differ and are unpinned
pub record IsRetirable {Page Pin : Type 0} (t : PoolTerms Page Pin) (a : PoolView Page Pin) (ps : List Page) : Type 0 where
  pub live : AllLive a ps
  pub differ : Differ t (ids_of t ps)
  pub unpinned : Unpinned t a (ids_of t ps)
