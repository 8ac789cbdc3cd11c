-- The laws of every run.
use Rattle.std.specs.Prelude.{◌≡◌, ◌≢◌, ℕ, ◌+◌, ◌/◌, ◌%◌, ◌<◌, ◌≤◌, List, [], ◌∷◌, true, length, get_or, slice_get, slice_range, Option, Some, None, IsSome, IsSomeAnd}
use Rattle.std.specs.List.{Contains, filter_map}
use Rattle.std.specs.Option.{option_map}
use Rattle.evict_ring.specs.declared.frame.Frame.{Frame}
use Rattle.row_image.specs.declared.layout.CellKind.{CellKind}
use Rattle.row_image.specs.declared.image.ImageKind.TheVariants.{Rows}
use Rattle.row_image.specs.Cells.{LongCell}
use Rattle.row_image.specs.Image.{row_count, stored_cell}
use Rattle.row_image.specs.Texts.{TextValue, value_of}
use Rattle.row_image.specs.Followed.{LiesIn}
use Rattle.page_body.specs.declared.body.PageBody.{PageBody}
use Rattle.page_body.specs.Bodies.{IsResident, frame_of, image_of}
use Rattle.page_body.specs.Stands.{StandsFor}
use Rattle.pool_core.specs.declared.state.CorePage.{CorePage}
use Rattle.pool_core.specs.declared.state.Mark.{Mark}
use Rattle.pool_core.specs.declared.event.Event.{Event}
use Rattle.pool_core.specs.State.{State, OnPage, IsHeap, content_of}
use Rattle.pool_core.specs.Run.{Steps}
use Rattle.pool_core.specs.Sound.{HasFrame, MarksHold}

-- two pages never have one frame
abbrev pub FramesApart : List CorePage → Type 0
FramesApart pages = (p q : ℕ) (x y : CorePage) (frame : ℕ) → slice_get pages p ≡ Some x → slice_get pages q ≡ Some y → HasFrame frame x.body → HasFrame frame y.body → p ≡ q

abbrev pub frame_number : PageBody → Option ℕ
frame_number body = option_map (λ f. f.number) (frame_of body)

-- the frames that pages have
abbrev pub frames_in_use : List CorePage → List ℕ
frames_in_use pages = filter_map (λ p. frame_number p.body) pages

-- a page with a writer has no reader
abbrev pub WritersAlone : List CorePage → Type 0
WritersAlone pages = (page : ℕ) (p : CorePage) → slice_get pages page ≡ Some p → IsSome p.writer → p.readers ≡ []

-- the same page, but for who reads and writes it
pub record IsSamePage (old new : CorePage) : Type 0 where
  pub kind : new.kind ≡ old.kind
  pub content : content_of new ≡ content_of old
  pub heaps : new.heaps ≡ old.heaps
  pub body : new.body ≡ old.body

-- a page that somebody reads keeps its body, and so its frame and its image
abbrev pub KeepsRead : List CorePage → List CorePage → Type 0
KeepsRead old new = (page : ℕ) (p : CorePage) → slice_get old page ≡ Some p → p.readers ≢ [] → OnPage new page (λ q. IsSamePage p q)

-- a run in which a page is read in every state but the last
abbrev pub RanRead : ℕ → State → List Event → State → Type 0
RanRead page old [] new = new ≡ old
RanRead page old (event ∷ events) new = OnPage old.pages page (λ p. p.readers ≢ []) × ((mid : State) × Steps old event mid × RanRead page mid events new)

-- every body stands for its content
abbrev pub BodiesStand : List CorePage → Type 0
BodiesStand pages = (page : ℕ) (p : CorePage) → slice_get pages page ≡ Some p → StandsFor true p.kind (content_of p) p.body

-- A text at an address: the address divided by the page is the frame in which a heap page lies, and the bytes from the rest of
-- the address on are the text that the contents of the row page and of the heap page stand for.
pub record IsTextAt (bytes : ℕ) (rows heap : CorePage) (kinds : List CellKind) (row column size address : ℕ) (f : Frame) : Type 0 where
  pub number : address / bytes ≡ f.number
  pub text : TextValue (slice_range f.bytes.items (address % bytes) (address % bytes + size)) ≡ value_of (content_of heap) (stored_cell kinds (content_of rows) row column)

-- a long cell of a row page leads to the heap page of its row's part, which is resident, and to its text there
pub record LeadsToText (bytes : ℕ) (pages : List CorePage) (rows : CorePage) (kinds : List CellKind) (row column size address : ℕ) : Type 0 where
  pub part : ℕ
  pub heap : ℕ
  pub lies : LiesIn (content_of rows) row part
  pub named : get_or rows.heaps part None ≡ Some heap
  pub found : OnPage pages heap (λ h. IsHeap h.kind × IsResident h.body × IsSomeAnd (frame_of h.body) (λ f. IsTextAt bytes rows h kinds row column size address f))

-- where an actor has looked at a row page, each long cell leads to its text
abbrev pub TextsStand : State → Type 0
TextsStand s = (mark : Mark) (p : CorePage) (kinds : List CellKind) (row column : ℕ) (prefix : List ℕ) (size address : ℕ) → Contains s.marks mark → slice_get s.pages mark.page ≡ Some p → p.kind ≡ Rows kinds
    → row < row_count (image_of p.body) → column < length kinds → stored_cell kinds (image_of p.body) row column ≡ LongCell prefix size address
    → LeadsToText s.page s.pages p kinds row column size address

-- what every state of a run keeps
pub record IsLawful (s : State) : Type 0 where
  pub apart : FramesApart s.pages
  pub few : length (frames_in_use s.pages) ≤ length s.turns
  pub alone : WritersAlone s.pages
  pub stand : BodiesStand s.pages
  pub looked : MarksHold s.page s.pages s.marks
  pub texts : TextsStand s
