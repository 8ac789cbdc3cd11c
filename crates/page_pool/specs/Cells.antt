-- When a body fits the cell of a page.
use Rattle.std.specs.Prelude.{◌≡◌, ℕ, ◌<◌, ◌≤◌, Bool, List, length, IfSome}
use Rattle.row_image.specs.Bytes.{IsPage}
use Rattle.row_image.specs.Flat.{flat}
use Rattle.page_body.specs.Bodies.{frame_of}
use Rattle.page_body.specs.Shows.{most_frames}
use Rattle.page_body.specs.Stands.{StandsFor}
use Rattle.evict_ring.specs.declared.frame.Frame.{Frame}
use Rattle.page_body.specs.declared.body.PageBody.{PageBody}
use Rattle.page_pool.specs.declared.cell.Sealed.{Sealed}

-- the content of a page is what its image said when it was sealed
abbrev pub sealed_content : Sealed → List ℕ
sealed_content t = flat t.kind t.image.value.items

-- a frame of a pool: its bytes are a page, and its number is below the count of frames
pub record IsFrame (page frames : ℕ) (frame : Frame) : Type 0 where
  pub long : length frame.bytes.items ≡ page
  pub number : frame.number < frames

-- a frame in a body is one of the pool
abbrev pub Framed : ℕ → ℕ → PageBody → Type 0
Framed page frames body = IfSome (frame_of body) (IsFrame page frames)

-- what was sealed was a page, of a pool that has no more frames than pools can have
pub record IsSized (t : Sealed) : Type 0 where
  pub page : IsPage t.page
  pub most : t.frames ≤ most_frames
  pub long : length (sealed_content t) ≡ t.page

-- what a cell keeps: its body stands for the content with which the page was sealed
pub record Fitting (told : Bool) (t : Sealed) (body : PageBody) : Type 0 where
  pub stands : StandsFor told t.kind (sealed_content t) body
  pub framed : Framed t.page t.frames body
