-- Places for images, and which of them are in a lane's hand.
use Rattle.std.specs.Prelude.{ℕ, ◌-◌, ◌^◌, ◌≡◌, ◌≢◌, ◌≤◌, ◌↔◌, ◌⊎◌, Option, Some, None, List, length, slice_get, nat_lt, if◌then◌else◌}
use Rattle.std.specs.Option.{option_or}
use Rattle.ooc_io.specs.declared.ticket.Ticket.{Ticket}
use Rattle.spill_file.specs.declared.place.Place.{Place}

-- the place that a ticket stands for
abbrev pub place_of : Ticket → Place
place_of ticket = record { lane = ticket.lane; number = ticket.place }

-- what a lane keeps of places: its number, the places that it was given back, and how many its own file has
pub record PlaceBook : Type 0 where
  pub lane : ℕ
  pub free : List Place
  pub end : ℕ

abbrev pub IsFree : PlaceBook → Place → Type 0
IsFree book p = (i : ℕ) × (slice_get book.free i ≡ Some p)

-- in the lane's own file, at its end or behind it
abbrev pub IsBehind : PlaceBook → Place → Type 0
IsBehind book p = (p.lane ≡ book.lane) × (book.end ≤ p.number)

-- The places in the lane's hand are those that it may write to. A place of which a ticket lives isn't in it.
abbrev pub InHand : PlaceBook → Place → Type 0
InHand book p = IsFree book p ⊎ IsBehind book p

-- no place is in hand twice
pub record IsSound (book : PlaceBook) : Type 0 where
  pub once : (i j : ℕ) (p : Place) → slice_get book.free i ≡ Some p → slice_get book.free j ≡ Some p → i ≡ j
  pub before : (p : Place) → IsFree book p → IsBehind book p → ⊥

-- A place went out of the lane's hand, and no other did or came.
pub record TakesPlace (p : Place) (old new : PlaceBook) : Type 0 where
  pub was : InHand old p
  pub gone : IsSound old → InHand new p → ⊥
  pub others : (q : Place) → q ≢ p → InHand new q ↔ InHand old q
  pub sound : IsSound old → IsSound new

-- a new lane has all places of its own file in its hand, and no others
abbrev pub IsNewBook : ℕ → PlaceBook → Type 0
IsNewBook lane book = IsSound book × ((p : Place) → InHand book p ↔ (p.lane ≡ lane))

-- how many places a file has at most
abbrev pub most_places : ℕ
most_places = 2 ^ 64 - 1

abbrev pub place_at : PlaceBook → Place
place_at book = record { lane = book.lane; number = book.end }

-- the place that is written next: the one given back last, or else the one at the end of the lane's own file
abbrev pub next_place : PlaceBook → Option Place
next_place book = option_or (slice_get book.free (length book.free - 1)) (if nat_lt book.end most_places then Some (place_at book) else None)

-- A place came into the lane's hand, where it is written next, and no other did or went.
pub record GivesPlace (p : Place) (old new : PlaceBook) : Type 0 where
  pub there : InHand new p
  pub next : next_place new ≡ Some p
  pub others : (q : Place) → q ≢ p → InHand new q ↔ InHand old q
  pub sound : IsSound old → (InHand old p → ⊥) → IsSound new
