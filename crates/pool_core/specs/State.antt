-- What the core's state says.
use Rattle.std.specs.Prelude.{◌≡◌, ℕ, ◌*◌, List, slice_get, Some, IsSomeAnd, ⊤}
use Rattle.std.specs.List.{Contains}
use Rattle.row_image.specs.declared.image.ImageKind.{ImageKind}
use Rattle.row_image.specs.declared.image.ImageKind.TheVariants.{Rows, Heap, Plain}
use Rattle.row_image.specs.Flat.{flat}
use Rattle.page_body.specs.declared.body.PageBody.{PageBody}
use Rattle.page_body.specs.declared.body.PageBody.TheVariants.{Resident, Resting, Dead}
use Rattle.pool_core.specs.declared.state.CoreTurn.{CoreTurn}
use Rattle.pool_core.specs.declared.state.CorePage.{CorePage}
use Rattle.pool_core.specs.declared.state.Mark.{Mark}
use Rattle.pool_core.specs.declared.state.Parts.{Parts}

-- The bytes of a page, and how many actors there are; the hand; the turns, where a turn stands at its frame's number; the
-- pages, where a page stands at its number; and the marks of the actors that have looked at a row page.
pub record State : Type 0 where
  pub page : ℕ
  pub actors : ℕ
  pub hand : ℕ
  pub turns : List CoreTurn
  pub pages : List CorePage
  pub marks : List Mark

abbrev pub state_of : Parts → State
state_of p = record { page = p.page; actors = p.actors; hand = p.hand; turns = p.turns.items; pages = p.pages.items; marks = p.marks.items }

-- a page of that number is there, and this holds of it
abbrev pub OnPage : List CorePage → ℕ → (CorePage → Type 0) → Type 0
OnPage pages page P = IsSomeAnd (slice_get pages page) P

-- the turn of that frame is there, and this holds of it
abbrev pub OnTurn : List CoreTurn → ℕ → (CoreTurn → Type 0) → Type 0
OnTurn turns frame P = IsSomeAnd (slice_get turns frame) P

-- what a page says wherever its heap pages lie: it was sealed with it
abbrev pub content_of : CorePage → List ℕ
content_of page = flat page.kind page.sealed

abbrev pub IsRows : ImageKind → Type 0
IsRows (Rows kinds) = ⊤
IsRows Heap = ⊥
IsRows Plain = ⊥

abbrev pub IsHeap : ImageKind → Type 0
IsHeap (Rows kinds) = ⊥
IsHeap Heap = ⊤
IsHeap Plain = ⊥

abbrev pub IsLive : PageBody → Type 0
IsLive (Resident frame ticket) = ⊤
IsLive (Resting ticket) = ⊤
IsLive (Dead frame) = ⊥

-- a resident heap page whose base this is: the frame's number times the bytes of a page
abbrev pub LiesAt : ℕ → ℕ → PageBody → Type 0
LiesAt page base (Resident frame ticket) = base ≡ frame.number * page
LiesAt page base (Resting ticket) = ⊥
LiesAt page base (Dead frame) = ⊥

-- an actor is the reader of a page
abbrev pub Reads : List CorePage → ℕ → ℕ → Type 0
Reads pages actor page = OnPage pages page (λ p. Contains p.readers actor)

-- the turn of a frame is out with an actor
abbrev pub IsOut : List CoreTurn → ℕ → ℕ → Type 0
IsOut turns actor frame = OnTurn turns frame (λ t. t.out ≡ Some actor)
