-- What a failed call leaves of the bytes that were there.
use Rattle.std.specs.Prelude.{◌≡◌, ℕ, List, ◌++◌}

-- the old bytes stand at the front of the new ones
pub record KeepsFront (old new : List ℕ) : Type 0 where
  pub rest : List ℕ
  pub front : new ≡ old ++ rest
