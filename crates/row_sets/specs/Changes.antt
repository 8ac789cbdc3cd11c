-- What a call does to the view of a worker, where it takes values of one holding and gives values of another.
use Rattle.std.specs.Prelude.{◌≡◌, ℕ, ◌+◌, ◌<◌, ◌≤◌, IsTrue}
use Rattle.page_body.specs.View.{PoolTerms, PoolView}
use Rattle.page_body.specs.Keeps.{Counted}
use Rattle.row_sets.specs.Holds.{Holding}

-- The pins and open pages are those from before, but for those that the values keep. The numbers that never change are the
-- same, and the counts of writes rise together. A page that is none of those taken lives on and is none of those given, and
-- a pin lives on where not all pins on its page are taken.
pub record Changes {Page Pin : Type 0} (t : PoolTerms Page Pin) (took gave : Holding) (a b : PoolView Page Pin) : Type 0 where
  pub pins : (y : ℕ) → b.pins y + took.pins y ≡ a.pins y + gave.pins y
  pub opens : (y : ℕ) → b.opens y + took.opens y ≡ a.opens y + gave.opens y
  pub held : b.held + took.held ≡ a.held + gave.held
  pub grant : b.grant ≡ a.grant
  pub page_bytes : b.page_bytes ≡ a.page_bytes
  pub lane : b.lane ≡ a.lane
  pub counted : Counted a.writes b.writes a.wrote b.wrote
  pub faults : a.faults ≤ b.faults
  pub lives : (p : Page) → a.live p → (IsTrue t.ends_lives → took.pages (t.id p) ≡ 0) → b.live p
  pub new : IsTrue t.ends_lives → (p : Page) → a.live p → took.pages (t.id p) ≡ 0 → gave.pages (t.id p) ≡ 0
  pub valid : (q : Pin) → a.valid q → took.pins (t.id (t.under q)) < a.pins (t.id (t.under q)) → b.valid q
