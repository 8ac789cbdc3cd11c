-- What contracts see of a page and of a pin.
use Rattle.std.specs.Prelude.{◌≡◌, ℕ, ◌<◌, Bool, List, length, ⊤}
use Rattle.boxcar.specs.Table.{id_at}
use Rattle.ooc_io.specs.declared.ticket.TicketMark as mark
use Rattle.row_image.specs.declared.image.ImageKind.{ImageKind}
use Rattle.page_body.specs.Stands.{ImageStands}
use Rattle.page_pool.specs.Cells.{sealed_content, IsSized}
use Rattle.page_pool.specs.Images.{shown_image, shown_number}
use Rattle.page_pool.specs.Words.{ShowsClaim}
use Rattle.page_pool.specs.declared.page.PageRef.{PageRef}
use Rattle.page_pool.specs.declared.page.Pin.{Pin}
use Rattle.page_pool.specs.declared.page.Hit.{Hit}
use Rattle.page_pool.specs.declared.page.Hit.TheVariants as hit
use Rattle.page_pool.specs.declared.cells.Cells.{Cells}

module _ {M B : Type 0} {marks : mark.Ghosts M} where
  -- with what a page was sealed
  abbrev pub kind_of : PageRef M B marks → ImageKind
  kind_of p = p.shown.value.cell.kind

  abbrev pub content_of : PageRef M B marks → List ℕ
  content_of p = sealed_content p.shown.value.cell

  -- the name of the page's cell, by which pages are told apart
  abbrev pub cell_id : PageRef M B marks → ℕ
  cell_id p = p.shown.of

  -- the same page: the same cell in the same place
  pub record IsSamePage (p q : PageRef M B marks) : Type 0 where
    pub at : p.at ≡ q.at
    pub of : p.chunk.of ≡ q.chunk.of
    pub chunk : p.chunk.value ≡ q.chunk.value
    pub place : p.place ≡ q.place
    pub there : p.shown.of ≡ q.shown.of
    pub shown : p.shown.value ≡ q.shown.value

  -- the page is one of these cells
  pub record IsCellOf (cells : Cells M B marks) (p : PageRef M B marks) : Type 0 where
    pub page : p.shown.value.cell.page ≡ cells.page
    pub frames : p.shown.value.cell.frames ≡ cells.frames
    pub sized : IsSized p.shown.value.cell
    pub at : p.at < length cells.chunks.items
    pub of : p.chunk.of ≡ id_at cells.chunks.items p.at

  -- the page under a pin, its bytes, and the number of its frame
  abbrev pub page_under : Pin M B marks → PageRef M B marks
  page_under p = p.page.value

  abbrev pub bytes_under : Pin M B marks → List ℕ
  bytes_under p = shown_image p.claim.value

  abbrev pub frame_under : Pin M B marks → ℕ
  frame_under p = shown_number p.claim.value

  -- what a pin shows of its page: bytes as long as a page that stand for the content, in a frame of the pool
  pub record Shows (told : Bool) (page : PageRef M B marks) (p : Pin M B marks) : Type 0 where
    pub under : page_under p ≡ page
    pub stands : ImageStands told (kind_of page) (content_of page) (bytes_under p)
    pub long : length (bytes_under p) ≡ page.shown.value.cell.page
    pub number : frame_under p < page.shown.value.cell.frames

  -- a pin shows the page, and a busy page's word a claim
  abbrev pub HitIs : Bool → PageRef M B marks → Hit M B marks → Type 0
  HitIs told page (hit.Pinned pin) = Shows told page pin
  HitIs told page (hit.Busy word) = ShowsClaim word
  HitIs told page hit.Resting = ⊤
  HitIs told page hit.Dead = ⊤
