-- What a job may be called on, and what its calls leave.
use Rattle.std.specs.Prelude.{◌≡◌, ℕ, ◌<◌, List, length, slice_index_or}
use denote.Ref.{Bor, MutBor}
use denote.Param.Members.{Shared}

abbrev pub most_workers : ℕ
most_workers = 64

module _ {F W G : Type 0} (g : Shared F (MutBor W × (ℕ × (Bor G × Unit {0}))) (Unit {0} × (MutBor W × Unit {0}))) (f : F) (gate : G) where
  -- the job may be called for a worker that is x, with its number
  abbrev pub AcceptsOne : ℕ → W → Type 0
  AcceptsOne number x = (p : MutBor W) (b : Bor G) → p.now ≡ x → b.now ≡ gate → g.pre f (p, (number, (b, tt)))

  -- .. for each worker
  abbrev pub AcceptsAll : List W → Type 0
  AcceptsAll xs = (i : ℕ) (p : MutBor W) (b : Bor G) → i < length xs → p.now ≡ slice_index_or xs i p.now → b.now ≡ gate → g.pre f (p, (i, (b, tt)))

  -- one call of the job for the worker of this number, at x, may leave y
  pub record Does (number : ℕ) (x y : W) : Type 0 where
    pub argument : MutBor W
    pub argument_is : argument.now ≡ x
    pub shown : Bor G
    pub shown_is : shown.now ≡ gate
    pub after_call : MutBor W
    pub call : g.post f (argument, (number, (shown, tt))) (tt, (after_call, tt))
    pub left : after_call.now ≡ y

  -- each worker is what one call of the job left of it
  abbrev pub EachDoes : List W → List W → Type 0
  EachDoes xs ys = (i : ℕ) (d : W) → i < length xs → Does i (slice_index_or xs i d) (slice_index_or ys i d)
