-- What contracts say of desks.
use Rattle.std.specs.Prelude.{◌≡◌, ℕ, ◌+◌, List, [], ◌∷◌, ◌++◌, map, Option, Some, None, false, slice_get}
use Rattle.worker_stage.specs.Source.{SeatSeen, seat_seen}
use Rattle.worker_stage.specs.Work.{Finished, Broke}
use Rattle.worker_stage.specs.declared.desk.Desk.{Desk}

-- the lists put together
abbrev pub together : {A : Type 0} → List (List A) → List A
together [] = []
together (ns ∷ nss) = ns ++ together nss

-- the first fault, with its place
abbrev pub first_fault : {F : Type 0} → ℕ → List (Option F) → Option (ℕ × F)
first_fault k [] = None
first_fault k (None ∷ fs) = first_fault (k + 1) fs
first_fault k (Some f ∷ fs) = Some (k, f)

module _ {W S F : Type 0} where
  abbrev pub workers : List (Desk W S F) → List W
  workers ds = map (λ d. d.worker) ds

  abbrev pub faults : List (Desk W S F) → List (Option F)
  faults ds = map (λ d. d.fault) ds

module _ {W I : Type 0} (made : W → List I → W → Type 0) (takes : W → I → Type 0) where
  -- a worker that begins, and may be given each item
  abbrev pub IsFresh : List I → W → Type 0
  IsFresh items w = made w [] w × ((n : ℕ) (x : I) → slice_get items n ≡ Some x → takes w x)

module _ {S : Type 0} (seen : S → SeatSeen) where
  -- all that a seat drew
  abbrev pub draws_at : Option S → List ℕ
  draws_at None = []
  draws_at (Some s) = (seen s).draws

  abbrev pub drawn_at : {W F : Type 0} → List (Desk W S F) → List ℕ
  drawn_at ds = together (map (λ d. draws_at d.seat) ds)

module _ {S : Type 0} (owns : S → Type 0) (seen : S → SeatSeen) where
  -- a seat of the source, with one part
  abbrev pub IsSat : Option S → Type 0
  IsSat seat = (s : S) × (seat ≡ Some s) × owns s × ((seen s).parts ≡ 1)

  -- .. that drew nothing yet
  abbrev pub IsSeated : Option S → Type 0
  IsSeated seat = (s : S) × (seat ≡ Some s) × owns s × (seen s ≡ seat_seen 1 false [])

  module _ {W F : Type 0} where
    abbrev pub AllSat : List (Desk W S F) → Type 0
    AllSat [] = Unit {0}
    AllSat (d ∷ ds) = IsSat d.seat × AllSat ds

    abbrev pub AllSeated : List (Desk W S F) → Type 0
    AllSeated [] = Unit {0}
    AllSeated (d ∷ ds) = IsSeated d.seat × (d.fault ≡ None) × AllSeated ds

module _ {W I S F : Type 0} (made : W → List I → W → Type 0) (takes : W → I → Type 0) (owns : S → Type 0) (seen : S → SeatSeen) where
  -- a worker that begins at its desk, with a seat
  abbrev pub IsReady : List I → Desk W S F → Type 0
  IsReady items d = IsSeated owns seen d.seat × (d.fault ≡ None) × IsFresh made takes items d.worker

module _ {W I S F : Type 0} (made : W → List I → W → Type 0) (failed : W → List I → I → F → W → Type 0) (owns : S → Type 0) (seen : S → SeatSeen) where
  abbrev pub Ends : List I → W → List ℕ → Option F → W → Type 0
  Ends items w draws None v = Finished made items w draws v
  Ends items w draws (Some fault) v = Broke made failed items w draws fault v

  -- what a worker's job leaves
  pub record Ran (items : List I) (w : W) (d : Desk W S F) : Type 0 where
    pub seat : IsSat owns seen d.seat
    pub ends : Ends items w (draws_at seen d.seat) d.fault d.worker

  -- .. at each desk
  abbrev pub RanAll : List I → List W → List (Desk W S F) → Type 0
  RanAll items [] [] = Unit {0}
  RanAll items (w ∷ ws) (d ∷ ds) = Ran items w d × RanAll items ws ds
  RanAll items ws ds = ⊥

  -- what the desks drew and made, once their seats are taken in
  pub record Joined (items : List I) (ws : List W) (before after : List ℕ) (fault : Option (ℕ × F)) (vs : List W) : Type 0 where
    pub desks : List (Desk W S F)
    pub ran : RanAll items ws desks
    pub drawn : after ≡ before ++ drawn_at seen desks
    pub first : fault ≡ first_fault 0 (faults desks)
    pub made_of : vs ≡ workers desks
