-- What a body has, and what its changes make of it.
use Rattle.std.specs.Prelude.{◌≡◌, ℕ, List, [], length, slice_set, Option, Some, None, ⊤, IsSome}
use Rattle.ooc_io.specs.Counts.{raised}
use Rattle.ooc_io.specs.declared.ticket.Ticket.{Ticket}
use Rattle.evict_ring.specs.declared.frame.Frame.{Frame}
use Rattle.row_image.specs.declared.layout.CellKind.{CellKind}
use Rattle.row_image.specs.declared.image.ImageKind.TheVariants.{Rows}
use Rattle.row_image.specs.Image.{part_at, parts_of}
use Rattle.row_image.specs.Moves.{based}
use Rattle.row_image.specs.Flat.{flat}
use Rattle.row_image.specs.Rules.{IsAccepted}
use Rattle.page_body.specs.declared.body.PageBody.{PageBody}
use Rattle.page_body.specs.declared.body.PageBody.TheVariants.{Resident, Resting, Dead}

abbrev pub IsResident : PageBody → Type 0
IsResident (Resident frame ticket) = ⊤
IsResident (Resting ticket) = ⊥
IsResident (Dead frame) = ⊥

abbrev pub IsResting : PageBody → Type 0
IsResting (Resident frame ticket) = ⊥
IsResting (Resting ticket) = ⊤
IsResting (Dead frame) = ⊥

-- the frame in a body; a dead one may still have one
abbrev pub frame_of : PageBody → Option Frame
frame_of (Resident frame ticket) = Some frame
frame_of (Resting ticket) = None
frame_of (Dead frame) = frame

-- the image that readers see
abbrev pub image_of : PageBody → List ℕ
image_of (Resident frame ticket) = frame.bytes.items
image_of (Resting ticket) = []
image_of (Dead frame) = []

abbrev pub ticket_of : PageBody → Option Ticket
ticket_of (Resident frame ticket) = ticket
ticket_of (Resting ticket) = Some ticket
ticket_of (Dead frame) = None

-- a body's own ticket, or else the one that is given
abbrev pub either : Option Ticket → Option Ticket → Option Ticket
either (Some ticket) given = Some ticket
either None given = given

-- a frame is there, and a page that lives has a ticket or is given one
abbrev pub CanRest : PageBody → Option Ticket → Type 0
CanRest (Resident frame ticket) given = IsSome (either ticket given)
CanRest (Resting ticket) given = ⊥
CanRest (Dead frame) given = IsSome frame

-- a resting body in a frame
abbrev pub installed : PageBody → Frame → PageBody
installed (Resident old ticket) frame = Resident old ticket
installed (Resting ticket) frame = Resident frame (Some ticket)
installed (Dead old) frame = Dead old

abbrev pub resting_on : PageBody → Option Ticket → PageBody
resting_on body (Some ticket) = Resting ticket
resting_on body None = body

-- a body without its frame
abbrev pub rested : PageBody → Option Ticket → PageBody
rested (Resident frame ticket) given = resting_on (Resident frame ticket) (either ticket given)
rested (Resting ticket) given = Resting ticket
rested (Dead frame) given = Dead None

abbrev pub killed : PageBody → PageBody
killed body = Dead (frame_of body)

-- a resident row page of which one part has another base: it says the same, in the same frame and beside the same ticket
abbrev pub IsRebased : List CellKind → ℕ → ℕ → PageBody → PageBody → Type 0
IsRebased kinds part base (Resident old ticket) (Resident new ticket') =
    (new.number ≡ old.number) × (ticket' ≡ ticket) × (length new.bytes.items ≡ length old.bytes.items)
    × IsAccepted (Rows kinds) new.bytes.items
    × (flat (Rows kinds) new.bytes.items ≡ flat (Rows kinds) old.bytes.items)
    × (parts_of new.bytes.items ≡ slice_set (parts_of old.bytes.items) part (based (part_at old.bytes.items part) base))
IsRebased kinds part base (Resident old ticket) (Resting ticket') = ⊥
IsRebased kinds part base (Resident old ticket) (Dead frame) = ⊥
IsRebased kinds part base (Resting ticket) new = ⊥
IsRebased kinds part base (Dead frame) new = ⊥

-- a count of successful writes, after a body that had no ticket was written
abbrev pub writes_for : Option Ticket → ℕ → ℕ
writes_for (Some ticket) count = count
writes_for None count = raised count

-- the count after a body was readied to rest: only a page that lives in a frame without a ticket is written
abbrev pub writes_to_rest : PageBody → ℕ → ℕ
writes_to_rest (Resident frame ticket) count = writes_for ticket count
writes_to_rest (Resting ticket) count = count
writes_to_rest (Dead frame) count = count

-- a page that lives in a frame and was never written
abbrev pub IsUnwritten : PageBody → Type 0
IsUnwritten (Resident frame ticket) = ticket ≡ None
IsUnwritten (Resting ticket) = ⊥
IsUnwritten (Dead frame) = ⊥
