-- What the changes of the tables keep.
use Rattle.std.specs.Prelude.{◌≡◌, ◌≢◌, ℕ, ◌+◌, ◌<◌, Bool, List}
use Rattle.number_bags.specs.Bags.{one_of}
use Rattle.solo_pool.specs.declared.entry.Place.{Place}
use Rattle.solo_pool.specs.declared.entry.Entry.{Entry}
use Rattle.solo_pool.specs.declared.page.SoloPage.{SoloPage}
use Rattle.solo_pool.specs.declared.page.SoloPin.{SoloPin}
use Rattle.solo_pool.specs.State.{pins_at, opens_at}
use Rattle.solo_pool.specs.Sound.{Sound}
use Rattle.solo_pool.specs.Views.{LiveAt, IsPin}

-- a frame more is open
pub record Opened (told : Bool) (i page : ℕ) (es es' : List Entry) (ps ps' : List Place) (us us' : List ℕ) (held' : ℕ) : Type 0 where
  pub sound : Sound page es' ps' us' held'
  pub pins : (y : ℕ) → pins_at es' us' y ≡ pins_at es us y
  pub opens : (y : ℕ) → opens_at ps' y ≡ opens_at ps y + one_of i y
  pub lives : (p : SoloPage) → LiveAt told page es p → LiveAt told page es' p
  pub valid : (q : SoloPin) → IsPin told page es us q → IsPin told page es' us' q

-- a pin more on the page x
pub record Pinned (told : Bool) (x page : ℕ) (es es' : List Entry) (ps ps' : List Place) (us us' : List ℕ) (held' : ℕ) : Type 0 where
  pub sound : Sound page es' ps' us' held'
  pub pins : (y : ℕ) → pins_at es' us' y ≡ pins_at es us y + one_of x y
  pub lives : (p : SoloPage) → LiveAt told page es p → LiveAt told page es' p
  pub valid : (q : SoloPin) → IsPin told page es us q → IsPin told page es' us' q

-- a pin less
pub record Unpinned (told : Bool) (x page : ℕ) (es : List Entry) (ps : List Place) (us us' : List ℕ) (held' : ℕ) : Type 0 where
  pub sound : Sound page es ps us' held'
  pub pins : (y : ℕ) → pins_at es us y ≡ pins_at es us' y + one_of x y
  pub valid : (q : SoloPin) → IsPin told page es us q → 0 < pins_at es us' q.page.value.at → IsPin told page es us' q

-- an open page less, whose frame goes elsewhere
pub record Closed (told : Bool) (i page : ℕ) (es es' : List Entry) (ps ps' : List Place) (us us' : List ℕ) (held' : ℕ) : Type 0 where
  pub sound : Sound page es' ps' us' held'
  pub pins : (y : ℕ) → pins_at es' us' y ≡ pins_at es us y
  pub opens : (y : ℕ) → opens_at ps y ≡ opens_at ps' y + one_of i y
  pub lives : (p : SoloPage) → LiveAt told page es p → LiveAt told page es' p
  pub valid : (q : SoloPin) → IsPin told page es us q → IsPin told page es' us' q

-- a page's life ends
pub record Ended (told : Bool) (x page : ℕ) (es es' : List Entry) (ps ps' : List Place) (us us' : List ℕ) (held : ℕ) : Type 0 where
  pub sound : Sound page es' ps' us' held
  pub pins : (y : ℕ) → pins_at es' us' y ≡ pins_at es us y
  pub opens : (y : ℕ) → opens_at ps' y ≡ opens_at ps y
  pub lives : (p : SoloPage) → LiveAt told page es p → p.at ≢ x → LiveAt told page es' p
  pub gone : (p : SoloPage) → p.at ≡ x → LiveAt told page es' p → ⊥
  pub valid : (q : SoloPin) → IsPin told page es us q → IsPin told page es' us' q

-- the texts of the page x are moved, whose pins show other bytes then
pub record Rebased (told : Bool) (x page : ℕ) (es es' : List Entry) (ps : List Place) (us us' : List ℕ) (held' : ℕ) : Type 0 where
  pub sound : Sound page es' ps us' held'
  pub pins : (y : ℕ) → pins_at es' us' y ≡ pins_at es us y
  pub lives : (p : SoloPage) → LiveAt told page es p → LiveAt told page es' p
  pub valid : (q : SoloPin) → IsPin told page es us q → q.at ≢ x → IsPin told page es' us' q
