-- What a stage sees of a source of items.
use Rattle.std.specs.Prelude.{ℕ, zero, suc, Bool, List, [], ◌∷◌, ◌++◌}

-- a seat's parts, whether it is ended, and the numbers that it drew
pub record SeatSeen : Type 0 where
  pub parts : ℕ
  pub ended : Bool
  pub draws : List ℕ

abbrev pub seat_seen : ℕ → Bool → List ℕ → SeatSeen
seat_seen parts ended draws = record { parts = parts; ended = ended; draws = draws }

-- the numbers from 0 on
abbrev pub below : ℕ → List ℕ
below zero = []
below (suc n) = below n ++ n ∷ []
