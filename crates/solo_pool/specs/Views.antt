-- What contracts see of the tables.
use Rattle.std.specs.Prelude.{◌≡◌, ℕ, ◌<◌, Bool, true, false, Option, Some, None, List, length, slice_get, slice_index}
use Rattle.page_body.specs.Bodies.{IsResting}
use Rattle.solo_pool.specs.Weights.{is_alive}
use Rattle.row_image.specs.Flat.{flat}
use Rattle.page_body.specs.Stands.{StandsFor, ImageStands}
use Rattle.page_body.specs.View.{PoolTerms, PoolView}
use Rattle.evict_ring.specs.declared.frame.Frame.{Frame}
use Rattle.row_image.specs.declared.image.ImageKind.{ImageKind}
use Rattle.solo_pool.specs.declared.entry.Place.{Place}
use Rattle.solo_pool.specs.declared.entry.Entry.{Entry}
use Rattle.solo_pool.specs.declared.page.SoloPage.{SoloPage}
use Rattle.solo_pool.specs.declared.page.SoloPin.{SoloPin}
use Rattle.solo_pool.specs.State.{frame_at, pins_at, opens_at}

abbrev pub kind_of : SoloPage → ImageKind
kind_of p = p.seal.value.kind

abbrev pub content_of : SoloPage → List ℕ
content_of p = flat p.seal.value.kind p.seal.value.frame.bytes.items

-- what the pages and the pins are
abbrev pub solo_terms : Bool → PoolTerms SoloPage SoloPin
solo_terms told = record { told = told; ends_lives = true; spills = true; id = λ p. p.at; kind = kind_of; content = content_of; under = λ q. q.page.value; image = λ q. q.frame.value.bytes.items; frame = λ q. q.frame.value.number }

-- a live page, by its entry
pub record IsEntryOf (told : Bool) (page : ℕ) (p : SoloPage) (e : Entry) : Type 0 where
  pub seal : e.seal.value ≡ p.seal.value
  pub kind : e.kind ≡ p.seal.value.kind
  pub alive : is_alive e.body ≡ true
  pub long : length (content_of p) ≡ page
  pub stands : StandsFor told (kind_of p) (content_of p) e.body

abbrev pub LiveIn : Bool → ℕ → SoloPage → Option Entry → Type 0
LiveIn told page p None = ⊥
LiveIn told page p (Some e) = IsEntryOf told page p e

abbrev pub LiveAt : Bool → ℕ → List Entry → SoloPage → Type 0
LiveAt told page entries p = LiveIn told page p (slice_get entries p.at)

-- a pin of this pool
pub record IsPin (told : Bool) (page : ℕ) (entries : List Entry) (uses : List ℕ) (q : SoloPin) : Type 0 where
  pub at : q.page.value.at ≡ q.at
  pub shown : frame_at entries q.at ≡ Some q.frame.value
  pub used : 0 < slice_index uses q.frame.value.number
  pub live : LiveAt told page entries q.page.value

abbrev pub tables_view : Bool → ℕ → List Entry → List Place → List ℕ → ℕ → ℕ → ℕ → ℕ → ℕ → PoolView SoloPage SoloPin
tables_view told page entries places uses held wrote lane faults writes = record {
  live = LiveAt told page entries;
  valid = IsPin told page entries uses;
  pins = pins_at entries uses;
  opens = opens_at places;
  held = held;
  grant = length places;
  page_bytes = page;
  lane = lane;
  faults = faults;
  writes = writes;
  wrote = wrote;
}

abbrev pub RestsIn : Option Entry → Type 0
RestsIn None = ⊥
RestsIn (Some e) = IsResting e.body

abbrev pub RestsAt : List Entry → ℕ → Type 0
RestsAt entries x = RestsIn (slice_get entries x)

abbrev pub PutIn : Bool → Frame → Option Entry → Type 0
PutIn told frame None = ⊥
PutIn told frame (Some e) = (content : List ℕ) → StandsFor told e.kind content e.body → ImageStands told e.kind content frame.bytes.items

-- the frame has the image of what the page's body stands for
abbrev pub PutStands : Bool → List Entry → ℕ → Frame → Type 0
PutStands told entries x frame = PutIn told frame (slice_get entries x)

-- an entry whose page's life ended, which another page may have
abbrev pub VacantIn : Option Entry → Type 0
VacantIn None = ⊥
VacantIn (Some e) = is_alive e.body ≡ false

abbrev pub VacantAt : List Entry → ℕ → Type 0
VacantAt entries x = VacantIn (slice_get entries x)
