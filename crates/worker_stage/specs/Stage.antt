-- What a stage over all its workers has done.
use Rattle.std.specs.Prelude.{◌≡◌, ℕ, ◌<◌, ◌≤◌, List, [], ◌∷◌, ◌++◌, Option, Some, None, length, slice_get}
use Rattle.ooc_bags.specs.Bags.{SameBag}
use Rattle.number_bags.specs.Bags.{times}
use Rattle.claim_counter.specs.Once.{IsOnce}
use Rattle.claim_counter.specs.Players.{left_from}
use Rattle.worker_stage.specs.Desks.{together, first_fault}
use Rattle.worker_stage.specs.Work.{AreItems, Worked}
use Rattle.worker_stage.specs.declared.stage.StageFault.{StageFault}
use Rattle.worker_stage.specs.declared.stage.StageFault.TheVariants.{OutOfMemory, Worker}
use Rattle.worker_stage.specs.declared.stage.HandFault.{HandFault}

module _ {W I : Type 0} (made : W → List I → W → Type 0) where
  -- each worker did its list
  abbrev pub MadeAll : List W → List (List I) → List W → Type 0
  MadeAll [] [] [] = Unit {0}
  MadeAll (w ∷ ws) (xs ∷ xss) (v ∷ vs) = made w xs v × MadeAll ws xss vs
  MadeAll ws xss vs = ⊥

  -- each item was worked on by one worker, once
  pub record IsDone (items : List I) (ws vs : List W) : Type 0 where
    pub lists : List (List I)
    pub each : MadeAll ws lists vs
    pub whole : SameBag (together lists) items

  module _ {F : Type 0} (failed : W → List I → I → F → W → Type 0) where
    -- one worker worked on the items of these numbers, or gave up at the last of them
    abbrev pub Ended : List I → W → List ℕ → Option F → W → Type 0
    Ended items w ns None v = Worked made items w ns v
    Ended items w ns (Some fault) v = (done : List ℕ) × (n : ℕ) × (xs : List I) × (x : I) × (ns ≡ done ++ n ∷ []) × AreItems items done xs × (slice_get items n ≡ Some x) × failed w xs x fault v

    abbrev pub EndedAll : List I → List W → List (List ℕ) → List (Option F) → List W → Type 0
    EndedAll items [] [] [] [] = Unit {0}
    EndedAll items (w ∷ ws) (ns ∷ nss) (f ∷ fs) (v ∷ vs) = Ended items w ns f v × EndedAll items ws nss fs vs
    EndedAll items ws nss fs vs = ⊥

    -- the items of the numbers below `drawn` were drawn, each by one worker, once; the worker of this number is the first that gave up
    pub record IsBroken (items : List I) (ws : List W) (number : ℕ) (fault : F) (drawn : ℕ) (vs : List W) : Type 0 where
      pub numbers : List (List ℕ)
      pub faults : List (Option F)
      pub each : EndedAll items ws numbers faults vs
      pub first : first_fault 0 faults ≡ Some (number, fault)
      pub once : (x : ℕ) → x < length items → IsOnce x drawn (times (together numbers) x)
      pub inside : (x : ℕ) → length items ≤ x → times (together numbers) x ≡ 0

    -- why a stage wasn't done, where so many numbers were drawn
    abbrev pub RefusedAt : List I → List W → StageFault F → ℕ → List W → Type 0
    RefusedAt items ws OutOfMemory drawn vs = vs ≡ ws
    RefusedAt items ws (Worker number fault) drawn vs = IsBroken items ws number fault drawn vs

    abbrev pub StageRefused : List I → List W → StageFault F → List W → Type 0
    StageRefused items ws e vs = (drawn : ℕ) × RefusedAt items ws e drawn vs

    -- what is left of the items, where nothing was begun, and else
    abbrev pub LeftBy : List I → StageFault F → ℕ → List (Option I) → Type 0
    LeftBy items OutOfMemory drawn left = left ≡ []
    LeftBy items (Worker number fault) drawn left = left ≡ left_from drawn items

    abbrev pub HandRefused : List I → List W → HandFault F I → List W → Type 0
    HandRefused items ws e vs = (drawn : ℕ) × RefusedAt items ws e.fault drawn vs × LeftBy items e.fault drawn e.left.items
