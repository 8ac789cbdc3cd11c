-- What a call keeps of a pool of pages, and what it changes.
use Rattle.std.specs.Prelude.{◌≡◌, ◌≢◌, ℕ, ◌+◌, ◌-◌, ◌^◌, ◌<◌, ◌≤◌, IsTrue, List, length}
use Rattle.number_bags.specs.Bags.{one_of, times}
use Rattle.page_body.specs.View.{PoolTerms, PoolView}

-- How the counts of successful writes rise, the lane's from w to v and the pool's from k to m: by the same number, while
-- both stand below the last value of a u64.
pub record Counted (w v k m : ℕ) : Type 0 where
  pub writes : w ≤ v
  pub wrote : k ≤ m
  pub least : v < 2 ^ 64 - 1 → w + m ≤ v + k
  pub most : m < 2 ^ 64 - 1 → v + k ≤ w + m

-- the numbers that never change, and the counts that never fall
pub record Steady {Page Pin : Type 0} (a b : PoolView Page Pin) : Type 0 where
  pub grant : b.grant ≡ a.grant
  pub page_bytes : b.page_bytes ≡ a.page_bytes
  pub lane : b.lane ≡ a.lane
  pub counted : Counted a.writes b.writes a.wrote b.wrote
  pub faults : a.faults ≤ b.faults

-- the same pins and open pages
pub record SameHeld {Page Pin : Type 0} (a b : PoolView Page Pin) : Type 0 where
  pub pins : (y : ℕ) → b.pins y ≡ a.pins y
  pub opens : (y : ℕ) → b.opens y ≡ a.opens y
  pub held : b.held ≡ a.held

-- one pin more, on the page of the number x
pub record OnePin {Page Pin : Type 0} (x : ℕ) (a b : PoolView Page Pin) : Type 0 where
  pub pins : (y : ℕ) → b.pins y ≡ a.pins y + one_of x y
  pub opens : (y : ℕ) → b.opens y ≡ a.opens y
  pub held : b.held ≡ a.held + 1

-- one open page more, in the frame of the number x
pub record OneOpen {Page Pin : Type 0} (x : ℕ) (a b : PoolView Page Pin) : Type 0 where
  pub pins : (y : ℕ) → b.pins y ≡ a.pins y
  pub opens : (y : ℕ) → b.opens y ≡ a.opens y + one_of x y
  pub held : b.held ≡ a.held + 1

-- the live pages live on
abbrev pub LiveOn : {Page Pin : Type 0} → PoolView Page Pin → PoolView Page Pin → Type 0
LiveOn {Page} {Pin} a b = (p : Page) → a.live p → b.live p

-- the live pages live on, but for one where retiring ends lives
abbrev pub OthersLiveOn : {Page Pin : Type 0} → PoolTerms Page Pin → Page → PoolView Page Pin → PoolView Page Pin → Type 0
OthersLiveOn {Page} {Pin} t page a b = (p : Page) → a.live p → (IsTrue t.ends_lives → t.id p ≢ t.id page) → b.live p

-- the pins of this worker stay its pins
abbrev pub ValidOn : {Page Pin : Type 0} → PoolView Page Pin → PoolView Page Pin → Type 0
ValidOn {Page} {Pin} a b = (q : Pin) → a.valid q → b.valid q

-- and so do those on the pages that are still pinned
abbrev pub PinnedOn : {Page Pin : Type 0} → PoolTerms Page Pin → PoolView Page Pin → PoolView Page Pin → Type 0
PinnedOn {Page} {Pin} t a b = (q : Pin) → a.valid q → 0 < b.pins (t.id (t.under q)) → b.valid q

-- what a composite call keeps that ends no page's life and no pin: the live pages, the pins, the open pages, the numbers
pub record Kept {Page Pin : Type 0} (a b : PoolView Page Pin) : Type 0 where
  pub pins : (y : ℕ) → b.pins y ≡ a.pins y
  pub opens : (y : ℕ) → b.opens y ≡ a.opens y
  pub held : b.held ≡ a.held
  pub grant : b.grant ≡ a.grant
  pub page_bytes : b.page_bytes ≡ a.page_bytes
  pub lane : b.lane ≡ a.lane
  pub counted : Counted a.writes b.writes a.wrote b.wrote
  pub faults : a.faults ≤ b.faults
  pub lives : (p : Page) → a.live p → b.live p
  pub valid : (q : Pin) → a.valid q → b.valid q

-- pins more, one on the page of each number of a list; all else is kept
pub record Takes {Page Pin : Type 0} (ids : List ℕ) (a b : PoolView Page Pin) : Type 0 where
  pub pins : (y : ℕ) → b.pins y ≡ a.pins y + times ids y
  pub opens : (y : ℕ) → b.opens y ≡ a.opens y
  pub held : b.held ≡ a.held + length ids
  pub steady : Steady a b
  pub lives : LiveOn a b
  pub valid : ValidOn a b

-- pins that are given back, one on the page of each number of a list; all else is kept
pub record Gives {Page Pin : Type 0} (t : PoolTerms Page Pin) (ids : List ℕ) (a b : PoolView Page Pin) : Type 0 where
  pub pins : (y : ℕ) → a.pins y ≡ b.pins y + times ids y
  pub opens : (y : ℕ) → b.opens y ≡ a.opens y
  pub held : a.held ≡ b.held + length ids
  pub steady : Steady a b
  pub lives : LiveOn a b
  pub valid : PinnedOn t a b

-- this worker has a pin for each number of a list, on the page of that number
abbrev pub Reserves : {Page Pin : Type 0} → List ℕ → PoolView Page Pin → Type 0
Reserves ids a = (y : ℕ) → times ids y ≤ a.pins y
