-- When an event is enabled. One that names an actor, a frame or a page that isn't there isn't.
use Rattle.std.specs.Prelude.{◌≡◌, ◌≢◌, ℕ, ◌<◌, ◌^◌, ◌%◌, List, [], length, get_or, Option, Some, None, IsSome, IsSomeAnd, ⊤}
use Rattle.std.specs.List.{Contains}
use Rattle.row_image.specs.declared.image.ImageKind.{ImageKind}
use Rattle.row_image.specs.declared.image.ImageKind.TheVariants.{Rows, Heap, Plain}
use Rattle.row_image.specs.Image.{part_count, part_at, no_heap}
use Rattle.row_image.specs.Rules.{IsAccepted}
use Rattle.page_body.specs.Bodies.{IsResident, IsResting, frame_of, image_of}
use Rattle.pool_core.specs.declared.state.CoreTurn.{CoreTurn}
use Rattle.pool_core.specs.declared.state.CorePage.{CorePage}
use Rattle.pool_core.specs.declared.event.Event.{Event}
use Rattle.pool_core.specs.declared.event.Event.TheVariants.{Hand, Take, Give, Read, Leave, Claim, Put, Seal, Look}
use Rattle.pool_core.specs.declared.event.Change.{Change}
use Rattle.pool_core.specs.declared.event.Change.TheVariants.{Keep, Install, Rest, Rebase, Kill}
use Rattle.pool_core.specs.State.{State, OnPage, OnTurn, IsRows, IsHeap, IsLive, LiesAt, Reads, IsOut}

-- the actor has the turn of a frame out, and its spare is there
abbrev pub HasSpare : List CoreTurn → ℕ → ℕ → Type 0
HasSpare turns actor frame = OnTurn turns frame (λ t. (t.out ≡ Some actor) × IsSome t.turn.spare)

-- a part of a row image that has a heap page
abbrev pub HasHeap : ImageKind → List ℕ → ℕ → Type 0
HasHeap (Rows kinds) image part = (part < part_count image) × ((part_at image part).heap ≢ no_heap)
HasHeap Heap image part = ⊥
HasHeap Plain image part = ⊥

-- the heap page that is named for a part: a live one where the part has one, and else none
abbrev pub NamesHeap : List CorePage → ImageKind → List ℕ → ℕ → Option ℕ → Type 0
NamesHeap pages kind image part None = HasHeap kind image part → ⊥
NamesHeap pages kind image part (Some page) = HasHeap kind image part × OnPage pages page (λ p. IsHeap p.kind × IsLive p.body)

abbrev pub IsPlain : ImageKind → Type 0
IsPlain (Rows kinds) = ⊥
IsPlain Heap = ⊥
IsPlain Plain = ⊤

-- a new page: the actor has the turn out with its spare; the image has as many bytes as a page and is accepted; and there is a
-- live heap page for each part that has one
pub record CanSeal (s : State) (actor frame : ℕ) (kind : ImageKind) (image : List ℕ) (named : List (Option ℕ)) : Type 0 where
  pub spare : HasSpare s.turns actor frame
  pub whole : length image ≡ s.page
  pub accepted : IsAccepted kind image
  pub not_plain : IsPlain kind → ⊥
  pub heaps : (part : ℕ) → part < 4 → NamesHeap s.pages kind image part (get_or named part None)

-- the actor reads a page, which is a resident heap page at this base
abbrev pub HoldsHeap : ℕ → List CorePage → ℕ → ℕ → ℕ → Type 0
HoldsHeap bytes pages actor base page = OnPage pages page (λ p. Contains p.readers actor × LiesAt bytes base p.body)

-- the actor reads a row page and its heap pages, all resident, and each part's base is its heap page's frame times the page
pub record LooksThrough (bytes : ℕ) (pages : List CorePage) (actor : ℕ) (rows : CorePage) : Type 0 where
  pub reads : Contains rows.readers actor
  pub kind : IsRows rows.kind
  pub resident : IsResident rows.body
  pub bases : (part : ℕ) → HasHeap rows.kind (image_of rows.body) part → IsSomeAnd (get_or rows.heaps part None) (λ heap. HoldsHeap bytes pages actor (part_at (image_of rows.body) part).base heap)

abbrev pub CanLook : ℕ → List CorePage → ℕ → ℕ → Type 0
CanLook bytes pages actor page = OnPage pages page (λ p. LooksThrough bytes pages actor p)

-- what an actor can do to a page that it writes
abbrev pub CanChange : ℕ → List CoreTurn → ℕ → CorePage → Change → Type 0
CanChange bytes turns actor p Keep = ⊤
CanChange bytes turns actor p (Install frame) = IsResting p.body × HasSpare turns actor frame
CanChange bytes turns actor p Rest = IsSomeAnd (frame_of p.body) (λ f. IsOut turns actor f.number)
CanChange bytes turns actor p (Rebase part base) = IsResident p.body × HasHeap p.kind (image_of p.body) part × (base % bytes ≡ 0) × (base < 2 ^ 48)
CanChange bytes turns actor p Kill = IsLive p.body

abbrev pub Enabled : State → Event → Type 0
Enabled s (Hand actor) = actor < s.actors
Enabled s (Take actor frame) = (actor < s.actors) × OnTurn s.turns frame (λ t. t.out ≡ None)
Enabled s (Give actor frame) = (actor < s.actors) × IsOut s.turns actor frame
Enabled s (Read actor page) = (actor < s.actors) × OnPage s.pages page (λ p. p.writer ≡ None)
Enabled s (Leave actor page) = (actor < s.actors) × Reads s.pages actor page
Enabled s (Claim actor page) = (actor < s.actors) × OnPage s.pages page (λ p. (p.readers ≡ []) × (p.writer ≡ None))
Enabled s (Put actor page change) = (actor < s.actors) × OnPage s.pages page (λ p. (p.writer ≡ Some actor) × CanChange s.page s.turns actor p change)
Enabled s (Seal actor frame kind image heaps) = (actor < s.actors) × CanSeal s actor frame kind image heaps
Enabled s (Look actor page) = (actor < s.actors) × CanLook s.page s.pages actor page
