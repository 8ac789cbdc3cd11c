-- What contracts see of a ring and of a seat.
use Rattle.std.specs.Prelude.{◌≡◌, ℕ, ◌≤◌, List, [], ◌∷◌, ◌++◌}
use Rattle.atomic_table.specs.Seated.{TableId}
use Rattle.number_bags.specs.Bags.{times, without}

-- which table it is, the numbers that its rule of turns is about, and how many turns there are
pub record RingView : Type 0 where
  pub table : TableId
  pub about : List ℕ
  pub turns : ℕ

-- the frames whose turns are out with the seat, those whose turns it found out, and where it found the hand
pub record SeatView : Type 0 where
  pub table : TableId
  pub about : List ℕ
  pub held : List ℕ
  pub refused : List ℕ
  pub starts : List ℕ

abbrev pub IsSeatOf : RingView → SeatView → Type 0
IsSeatOf ring seat = (seat.table ≡ ring.table) × (seat.about ≡ ring.about)

-- a seat that did nothing yet
abbrev pub fresh : RingView → SeatView
fresh ring = record { table = ring.table; about = ring.about; held = []; refused = []; starts = [] }

-- the seat, where it found the hand there
abbrev pub started : ℕ → SeatView → SeatView
started hand seat = record { table = seat.table; about = seat.about; held = seat.held; refused = seat.refused; starts = seat.starts ++ hand ∷ [] }

-- .. where it took turn i
abbrev pub taking : ℕ → SeatView → SeatView
taking i seat = record { table = seat.table; about = seat.about; held = i ∷ seat.held; refused = seat.refused; starts = seat.starts }

-- .. where it found turn i out
abbrev pub refused : ℕ → SeatView → SeatView
refused i seat = record { table = seat.table; about = seat.about; held = seat.held; refused = seat.refused ++ i ∷ []; starts = seat.starts }

-- .. where it gave turn i back
abbrev pub giving : ℕ → SeatView → SeatView
giving i seat = record { table = seat.table; about = seat.about; held = without i seat.held; refused = seat.refused; starts = seat.starts }

-- .. with what another seat saw
abbrev pub joined : SeatView → SeatView → SeatView
joined seat other = record { table = seat.table; about = seat.about; held = seat.held; refused = seat.refused ++ other.refused; starts = seat.starts ++ other.starts }

-- numbers below a bound, each at most once
abbrev pub AreDifferentBelow : ℕ → List ℕ → Type 0
AreDifferentBelow bound xs = ((x : ℕ) → times xs x ≤ 1) × ((x : ℕ) → bound ≤ x → times xs x ≡ 0)
