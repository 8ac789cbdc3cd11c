-- What contracts see of a hand and of a seat that draws from it.
use Rattle.std.specs.Prelude.{◌≡◌, ℕ, zero, suc, ◌^◌, Bool, List, [], ◌∷◌, Option, Some, None}
use Rattle.atomic_table.specs.Seated.{TableId}

-- an item's number has 32 bits
abbrev pub item_limit : ℕ
item_limit = 2 ^ 32

pub record Dealer (H : Type 0) : Type 0 where
  pub table : TableId
  pub parts : ℕ
  pub items : List H

-- the items of its hand, its parts, whether it is ended, and the numbers of all that it drew
pub record Player (H : Type 0) : Type 0 where
  pub table : TableId
  pub items : List H
  pub parts : ℕ
  pub ended : Bool
  pub draws : List ℕ

module _ {H : Type 0} where
  -- the seat is one of this hand
  abbrev pub IsPlayerOf : Dealer H → Player H → Type 0
  IsPlayerOf c s = (s.table ≡ c.table) × (s.items ≡ c.items)

  abbrev pub player : TableId → List H → ℕ → Bool → List ℕ → Player H
  player table items parts ended draws = record { table = table; items = items; parts = parts; ended = ended; draws = draws }

  -- a place for each item: empty for the first n, and then with the item
  abbrev pub left_from : ℕ → List H → List (Option H)
  left_from n [] = []
  left_from zero (x ∷ xs) = Some x ∷ left_from zero xs
  left_from (suc n) (x ∷ xs) = None ∷ left_from n xs
