-- What becomes of a lane's counts, and of the count of writes that tables keep.
use Rattle.std.specs.Prelude.{ℕ, ◌≤◌}
use Rattle.page_body.specs.Keeps.{Counted}

-- none falls
pub record LaneCounts (f g w v k m : ℕ) : Type 0 where
  pub faults : f ≤ g
  pub counted : Counted w v k m
