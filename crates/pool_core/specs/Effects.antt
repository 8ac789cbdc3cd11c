-- What an event makes of the state.
use Rattle.std.specs.Prelude.{◌≡◌, ℕ, ◌+◌, ◌%◌, ◌^◌, ◌==◌, not, ◌&&◌, ◌||◌, Bool, false, if◌then◌else◌, List, [], ◌∷◌, ◌++◌, length, slice_get, slice_set, filter, Option, Some, None, IsSomeAnd}
use Rattle.std.specs.List.{list_any}
use Rattle.ooc_io.specs.declared.ticket.Ticket.{Ticket}
use Rattle.evict_ring.specs.declared.frame.Frame.{Frame}
use Rattle.evict_ring.specs.Lending.{frame_with}
use Rattle.row_image.specs.declared.image.ImageKind.{ImageKind}
use Rattle.row_image.specs.declared.image.ImageKind.TheVariants.{Rows, Heap, Plain}
use Rattle.page_body.specs.declared.body.PageBody.{PageBody}
use Rattle.page_body.specs.declared.body.PageBody.TheVariants.{Resident, Resting, Dead}
use Rattle.page_body.specs.Bodies.{frame_of, installed, rested, killed, IsRebased}
use Rattle.pool_core.specs.declared.state.CoreTurn.{CoreTurn}
use Rattle.pool_core.specs.declared.state.CorePage.{CorePage}
use Rattle.pool_core.specs.declared.state.Mark.{Mark}
use Rattle.pool_core.specs.declared.event.Event.{Event}
use Rattle.pool_core.specs.declared.event.Event.TheVariants.{Hand, Take, Give, Read, Leave, Claim, Put, Seal, Look}
use Rattle.pool_core.specs.declared.event.Change.{Change}
use Rattle.pool_core.specs.declared.event.Change.TheVariants.{Keep, Install, Rest, Rebase, Kill}
use Rattle.pool_core.specs.Readers.{without_one}
use Rattle.pool_core.specs.State.{State, OnPage, OnTurn}

-- the turn of a frame, or a page, in place of the one that was there
abbrev pub with_turn : State → ℕ → CoreTurn → State
with_turn s frame turn = record s { turns = slice_set s.turns frame turn }

abbrev pub with_page : State → ℕ → CorePage → State
with_page s page value = record s { pages = slice_set s.pages page value }

-- a turn whose spare is there, and one that a page owns
abbrev pub spared : CoreTurn → Frame → CoreTurn
spared t frame = record { out = t.out; turn = record { frame = t.turn.frame; spare = Some frame; owner = None } }

abbrev pub owned : CoreTurn → ℕ → CoreTurn
owned t page = record { out = t.out; turn = record { frame = t.turn.frame; spare = None; owner = Some page } }

-- a page whose body the writer put, and that has no writer any more
abbrev pub put : CorePage → PageBody → CorePage
put p body = record p { body = body; writer = None }

-- a ticket that keeps an image
abbrev pub keeping : ℕ → List ℕ → Ticket
keeping page image = record { lane = 0; place = page; kept = Some image }

-- the ticket that a resident page without one is given
abbrev pub given_ticket : ℕ → PageBody → Option Ticket
given_ticket page (Resident frame (Some ticket)) = None
given_ticket page (Resident frame None) = Some (keeping page frame.bytes.items)
given_ticket page (Resting ticket) = None
given_ticket page (Dead frame) = None

-- the image that a resting body's ticket keeps
abbrev pub kept_of : PageBody → Option (List ℕ)
kept_of (Resident frame ticket) = None
kept_of (Resting ticket) = ticket.kept
kept_of (Dead frame) = None

-- a row page whose part has another base
abbrev pub Rebases : ImageKind → ℕ → ℕ → PageBody → PageBody → Type 0
Rebases (Rows kinds) part base old new = IsRebased kinds part base old new
Rebases Heap part base old new = ⊥
Rebases Plain part base old new = ⊥

abbrev pub Changes : State → ℕ → CorePage → Change → State → Type 0
Changes s page p Keep new = new ≡ with_page s page (put p p.body)
Changes s page p (Install frame) new = OnTurn s.turns frame (λ t. IsSomeAnd t.turn.spare (λ f. IsSomeAnd (kept_of p.body) (λ image.
    new ≡ with_turn (with_page s page (put p (installed p.body (frame_with f image)))) frame (owned t page))))
Changes s page p Rest new = IsSomeAnd (frame_of p.body) (λ f. OnTurn s.turns f.number (λ t.
    new ≡ with_turn (with_page s page (put p (rested p.body (given_ticket page p.body)))) f.number (spared t f)))
Changes s page p (Rebase part base) new = (body : PageBody) × Rebases p.kind part base p.body body × (new ≡ with_page s page (put p body))
Changes s page p Kill new = new ≡ with_page s page (put p (killed p.body))

-- the page of a new image, resident and without a ticket
abbrev pub new_page : ImageKind → List ℕ → List (Option ℕ) → Frame → CorePage
new_page kind image heaps frame = record { kind = kind; sealed = image; body = Resident (frame_with frame image) None; heaps = heaps; readers = []; writer = None }

-- a heap page of a part is this page
abbrev pub names_page : ℕ → Option ℕ → Bool
names_page page None = false
names_page page (Some heap) = heap == page

-- a page has this one as a heap page
abbrev pub has_heap_page : ℕ → Option CorePage → Bool
has_heap_page page None = false
has_heap_page page (Some rows) = list_any (λ heap. names_page page heap) rows.heaps

-- a mark of an actor that rests on a page: it is of this page, or of one that has it as a heap page
unfoldable pub rests_on : List CorePage → ℕ → ℕ → Mark → Bool
rests_on pages actor page mark = mark.actor == actor && (mark.page == page || has_heap_page page (slice_get pages mark.page))

-- the marks after a claim of an actor was given back: where that was its last on the page, every mark that rests on it goes
abbrev pub marks_left : List CorePage → ℕ → ℕ → List ℕ → List Mark → List Mark
marks_left pages actor page readers marks =
    if list_any (λ reader. reader == actor) readers
    then marks
    else filter (λ mark. not (rests_on pages actor page mark)) marks

abbrev pub Acts : State → Event → State → Type 0
Acts s (Hand actor) new = new ≡ record s { hand = (s.hand + 1) % 2 ^ 64 }
Acts s (Take actor frame) new = OnTurn s.turns frame (λ t. new ≡ with_turn s frame (record t { out = Some actor }))
Acts s (Give actor frame) new = OnTurn s.turns frame (λ t. new ≡ with_turn s frame (record t { out = None }))
Acts s (Read actor page) new = OnPage s.pages page (λ p. new ≡ with_page s page (record p { readers = p.readers ++ actor ∷ [] }))
Acts s (Leave actor page) new = OnPage s.pages page (λ p.
    let readers = without_one actor p.readers in
    let pages = slice_set s.pages page (record p { readers = readers }) in
    new ≡ record s { pages = pages; marks = marks_left pages actor page readers s.marks })
Acts s (Claim actor page) new = OnPage s.pages page (λ p. new ≡ with_page s page (record p { writer = Some actor }))
Acts s (Put actor page change) new = OnPage s.pages page (λ p. Changes s page p change new)
Acts s (Seal actor frame kind image heaps) new = OnTurn s.turns frame (λ t. IsSomeAnd t.turn.spare (λ f.
    new ≡ with_turn (record s { pages = s.pages ++ new_page kind image heaps f ∷ [] }) frame (owned t (length s.pages))))
Acts s (Look actor page) new = new ≡ record s { marks = s.marks ++ record { actor = actor; page = page } ∷ [] }
