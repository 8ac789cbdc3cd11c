-- What stays true over every run.
use Rattle.std.specs.Prelude.{◌≡◌, ℕ, ◌<◌, true, List, [], length, get_or, slice_get, Option, Some, None, IsSome, IsSomeAnd}
use Rattle.std.specs.Option.{ForSome}
use Rattle.std.specs.List.{Contains}
use Rattle.evict_ring.specs.declared.frame.Frame.{Frame}
use Rattle.row_image.specs.Bytes.{IsPage}
use Rattle.row_image.specs.Rules.{IsAccepted}
use Rattle.page_body.specs.declared.body.PageBody.{PageBody}
use Rattle.page_body.specs.Bodies.{IsResident, frame_of, image_of, ticket_of}
use Rattle.page_body.specs.Stands.{StandsFor}
use Rattle.pool_core.specs.declared.state.CoreTurn.{CoreTurn}
use Rattle.pool_core.specs.declared.state.CorePage.{CorePage}
use Rattle.pool_core.specs.declared.state.Mark.{Mark}
use Rattle.pool_core.specs.State.{State, OnPage, OnTurn, content_of, IsHeap}
use Rattle.pool_core.specs.Enabled.{CanLook}

-- a body that has the frame of this number
abbrev pub HasFrame : ℕ → PageBody → Type 0
HasFrame frame body = IsSomeAnd (frame_of body) (λ f. f.number ≡ frame)

-- a frame is in one place: the spare of its turn, which then has no owner, or else the body of the turn's owner
abbrev pub FrameLies : ℕ → List CorePage → ℕ → Option Frame → Option ℕ → Type 0
FrameLies bytes pages frame (Some f) owner = (f.number ≡ frame) × (length f.bytes.items ≡ bytes) × (owner ≡ None)
FrameLies bytes pages frame None owner = IsSomeAnd owner (λ page. OnPage pages page (λ p. HasFrame frame p.body))

abbrev pub TurnsLie : ℕ → List CoreTurn → List CorePage → Type 0
TurnsLie bytes turns pages = (frame : ℕ) (t : CoreTurn) → slice_get turns frame ≡ Some t → (t.turn.frame ≡ frame) × FrameLies bytes pages frame t.turn.spare t.turn.owner

-- the frame of a page's body is that of a turn which the page owns
abbrev pub BodyLies : ℕ → List CoreTurn → ℕ → PageBody → Type 0
BodyLies bytes turns page body = ForSome (frame_of body) (λ f. (length f.bytes.items ≡ bytes) × OnTurn turns f.number (λ t. t.turn.owner ≡ Some page))

abbrev pub PagesLie : ℕ → List CoreTurn → List CorePage → Type 0
PagesLie bytes turns pages = (page : ℕ) (p : CorePage) → slice_get pages page ≡ Some p → BodyLies bytes turns page p.body

-- what a page says by itself: one with a writer has no reader, its image was accepted at its sealing, its body stands for its
-- content, and a ticket's image has as many bytes as a page
pub record PageStands (bytes : ℕ) (p : CorePage) : Type 0 where
  pub claimed : IsSome p.writer → p.readers ≡ []
  pub sealed : IsAccepted p.kind p.sealed
  pub whole : length p.sealed ≡ bytes
  pub stands : StandsFor true p.kind (content_of p) p.body
  pub kept : ForSome (ticket_of p.body) (λ t. ForSome t.kept (λ image. length image ≡ bytes))

abbrev pub AllStand : ℕ → List CorePage → Type 0
AllStand bytes pages = (page : ℕ) (p : CorePage) → slice_get pages page ≡ Some p → PageStands bytes p

-- what is named as a part's heap page is one
abbrev pub HeapsAre : List CorePage → Type 0
HeapsAre pages = (page : ℕ) (p : CorePage) → slice_get pages page ≡ Some p → (part : ℕ) → part < 4 → ForSome (get_or p.heaps part None) (λ heap. OnPage pages heap (λ h. IsHeap h.kind))

-- where an actor has looked at a row page, it could look again
abbrev pub MarksHold : ℕ → List CorePage → List Mark → Type 0
MarksHold bytes pages marks = (mark : Mark) → Contains marks mark → CanLook bytes pages mark.actor mark.page

-- a resident image has as many bytes as a page, and is accepted
abbrev pub IsWhole : ℕ → CorePage → Type 0
IsWhole bytes p = IsResident p.body → (length (image_of p.body) ≡ bytes) × IsAccepted p.kind (image_of p.body)

pub record Sound (s : State) : Type 0 where
  pub page : IsPage s.page
  pub turns : TurnsLie s.page s.turns s.pages
  pub pages : PagesLie s.page s.turns s.pages
  pub stand : AllStand s.page s.pages
  pub heaps : HeapsAre s.pages
  pub marks : MarksHold s.page s.pages s.marks
