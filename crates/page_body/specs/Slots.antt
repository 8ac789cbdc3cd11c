-- What the slots of a pool in memory say of its pages and pins.
use Rattle.std.specs.Prelude.{◌≡◌, ℕ, ◌+◌, ◌<◌, true, List, [], length, slice_get, Option, Some, None, ⊤}
use Rattle.evict_ring.specs.declared.frame.Frame.{Frame}
use Rattle.row_image.specs.declared.layout.CellKind.{CellKind}
use Rattle.row_image.specs.declared.image.ImageKind.{ImageKind}
use Rattle.row_image.specs.declared.image.ImageKind.TheVariants.{Rows}
use Rattle.row_image.specs.Flat.{flat}
use Rattle.row_image.specs.Rules.{IsAccepted}
use Rattle.page_body.specs.Stands.{ImageStands}
use Rattle.page_body.specs.Shows.{most_frames, IsBased}
use Rattle.page_body.specs.View.{PoolView}
use Rattle.page_body.specs.declared.open.OpenPage.{OpenPage}
use Rattle.page_body.specs.declared.mem_page.MemPage.{MemPage}
use Rattle.page_body.specs.declared.mem_page.MemPin.{MemPin}
use Rattle.page_body.specs.declared.slot.Slot.{Slot}
use Rattle.page_body.specs.declared.slot.Slot.TheVariants.{Open, Sealed, Gone}

abbrev pub HasPage : Slot → Type 0
HasPage Open = ⊥
HasPage (Sealed frame pins seal) = ⊤
HasPage Gone = ⊥

abbrev pub pins_of : Slot → ℕ
pins_of Open = 0
pins_of (Sealed frame pins seal) = pins
pins_of Gone = 0

abbrev pub opens_of : Slot → ℕ
opens_of Open = 1
opens_of (Sealed frame pins seal) = 0
opens_of Gone = 0

-- an open page or the pins of a sealed one
abbrev pub uses_of : Slot → ℕ
uses_of Open = 1
uses_of (Sealed frame pins seal) = pins
uses_of Gone = 0

abbrev pub bytes_of : Slot → List ℕ
bytes_of Open = []
bytes_of (Sealed frame pins seal) = frame.bytes.items
bytes_of Gone = []

abbrev pub frame_of : Slot → Option Frame
frame_of Open = None
frame_of (Sealed frame pins seal) = Some frame
frame_of Gone = None

abbrev pub with_pins : Slot → ℕ → Slot
with_pins Open n = Open
with_pins (Sealed frame pins seal) n = Sealed frame n seal
with_pins Gone n = Gone

-- a row page with one pin more says the same in the same frame, and its parts have these bases
abbrev pub IsMoved : List CellKind → List ℕ → Slot → Slot → Type 0
IsMoved kinds bases (Sealed old pins seal) (Sealed new pins' seal') =
    (pins' ≡ pins + 1) × (seal' ≡ seal) × (new.number ≡ old.number) × (length new.bytes.items ≡ length old.bytes.items)
    × IsAccepted (Rows kinds) new.bytes.items
    × (flat (Rows kinds) new.bytes.items ≡ flat (Rows kinds) old.bytes.items)
    × IsBased new.bytes.items bases
IsMoved kinds bases (Sealed old pins seal) Open = ⊥
IsMoved kinds bases (Sealed old pins seal) Gone = ⊥
IsMoved kinds bases Open new = ⊥
IsMoved kinds bases Gone new = ⊥

-- of a slot that may not be there
abbrev pub in_slot : (Slot → ℕ) → Option Slot → ℕ
in_slot count None = 0
in_slot count (Some slot) = count slot

abbrev pub pins_at : List Slot → ℕ → ℕ
pins_at slots x = in_slot pins_of (slice_get slots x)

abbrev pub opens_at : List Slot → ℕ → ℕ
opens_at slots x = in_slot opens_of (slice_get slots x)

-- the frame of a slot that has a page
abbrev pub frame_in : Option Slot → Option Frame
frame_in None = None
frame_in (Some slot) = frame_of slot

abbrev pub frame_at : List Slot → ℕ → Option Frame
frame_at slots x = frame_in (slice_get slots x)

-- the kind and the content with which a page was sealed
abbrev pub kind_of : MemPage → ImageKind
kind_of p = p.seal.value.kind

abbrev pub content_of : MemPage → List ℕ
content_of p = flat p.seal.value.kind p.seal.value.frame.bytes.items

-- the frame of a live page, whose seal is the page's
pub record IsFrameOf (page_bytes : ℕ) (p : MemPage) (frame : Frame) (sealed : OpenPage) : Type 0 where
  pub seal : sealed ≡ p.seal.value
  pub stands : ImageStands true (kind_of p) (content_of p) frame.bytes.items
  pub long : length frame.bytes.items ≡ page_bytes
  pub number : frame.number < most_frames

abbrev pub LiveIn : ℕ → MemPage → Option Slot → Type 0
LiveIn page_bytes p None = ⊥
LiveIn page_bytes p (Some Open) = ⊥
LiveIn page_bytes p (Some (Sealed frame pins seal)) = IsFrameOf page_bytes p frame seal.value
LiveIn page_bytes p (Some Gone) = ⊥

-- a page that is live
abbrev pub LiveAt : ℕ → List Slot → MemPage → Type 0
LiveAt page_bytes slots p = LiveIn page_bytes p (slice_get slots p.at)

-- the frame under a pin is its page's, which is pinned
pub record IsFrameUnder (page_bytes : ℕ) (q : MemPin) (frame : Frame) (pins : ℕ) (sealed : OpenPage) : Type 0 where
  pub shown : frame ≡ q.frame.value
  pub used : 0 < pins
  pub live : IsFrameOf page_bytes q.page.value frame sealed

abbrev pub ValidIn : ℕ → MemPin → Option Slot → Type 0
ValidIn page_bytes q None = ⊥
ValidIn page_bytes q (Some Open) = ⊥
ValidIn page_bytes q (Some (Sealed frame pins seal)) = IsFrameUnder page_bytes q frame pins seal.value
ValidIn page_bytes q (Some Gone) = ⊥

-- a pin of the pool
abbrev pub IsPin : ℕ → List Slot → MemPin → Type 0
IsPin page_bytes slots q = ValidIn page_bytes q (slice_get slots q.page.value.at)

-- what contracts see of the pool
abbrev pub slots_view : ℕ → ℕ → ℕ → List Slot → PoolView MemPage MemPin
slots_view page_bytes grant held slots = record {
  live = LiveAt page_bytes slots;
  valid = IsPin page_bytes slots;
  pins = pins_at slots;
  opens = opens_at slots;
  held = held;
  grant = grant;
  page_bytes = page_bytes;
  faults = 0;
  lane = 0;
  writes = 0;
  wrote = 0;
}
