-- What becomes of one worker.
use Rattle.std.specs.Prelude.{◌≡◌, ℕ, ◌≤◌, List, [], ◌∷◌, ◌++◌, length, Some, slice_get}

-- the items of these numbers
abbrev pub AreItems : {I : Type 0} → List I → List ℕ → List I → Type 0
AreItems items [] [] = Unit {0}
AreItems items (n ∷ ns) (x ∷ xs) = (slice_get items n ≡ Some x) × AreItems items ns xs
AreItems items ns xs = ⊥

module _ {W I : Type 0} (made : W → List I → W → Type 0) where
  -- it may be the one that some worker became
  abbrev pub IsAtWork : W → Type 0
  IsAtWork v = (w : W) × (xs : List I) × made w xs v

  -- whatever was worked on before, now this item was too
  abbrev pub GoesOn : I → W → W → Type 0
  GoesOn x v v' = (w : W) (xs : List I) → made w xs v → made w (xs ++ x ∷ []) v'

  -- the items of these numbers were worked on
  abbrev pub Worked : List I → W → List ℕ → W → Type 0
  Worked items w ns v = (xs : List I) × AreItems items ns xs × made w xs v

  -- all that was drawn but the last was worked on, and the last is past all items
  pub record Finished (items : List I) (w : W) (draws : List ℕ) (v : W) : Type 0 where
    pub done : List ℕ
    pub last : ℕ
    pub is : draws ≡ done ++ last ∷ []
    pub past : length items ≤ last
    pub worked : Worked items w done v

  module _ {F : Type 0} (failed : W → List I → I → F → W → Type 0) where
    -- whatever was worked on before, it gave up at this item
    abbrev pub Breaks : I → F → W → W → Type 0
    Breaks x fault v v' = (w : W) (xs : List I) → made w xs v → failed w xs x fault v'

    -- all that was drawn but the last was worked on, and at the last it gave up
    pub record Broke (items : List I) (w : W) (draws : List ℕ) (fault : F) (v : W) : Type 0 where
      pub done : List ℕ
      pub last : ℕ
      pub is : draws ≡ done ++ last ∷ []
      pub xs : List I
      pub x : I
      pub before : AreItems items done xs
      pub here : slice_get items last ≡ Some x
      pub broke : failed w xs x fault v
