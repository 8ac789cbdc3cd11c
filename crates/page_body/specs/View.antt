-- What contracts see of a pool of pages, at one worker.
use Rattle.std.specs.Prelude.{ℕ, Bool, List}
use Rattle.row_image.specs.declared.image.ImageKind.{ImageKind}

-- what never changes and is the same at every worker: what a page is, and what a pin is
pub record PoolTerms (Page Pin : Type 0) : Type 0 where
  -- contents are known; no code can read whether they are
  pub told : Bool
  -- a page that is retired isn't live any more; a truth that belongs to the type
  pub ends_lives : Bool
  -- of live pages that differ, those that no frame can hold were written by this pool
  pub spills : Bool
  -- where retiring ends lives, live pages that differ have different numbers
  pub id : Page → ℕ
  pub kind : Page → ImageKind
  -- what the page says wherever its heap pages lie
  pub content : Page → List ℕ
  -- the page under a pin, and the bytes and the number of its frame
  pub under : Pin → Page
  pub image : Pin → List ℕ
  pub frame : Pin → ℕ

-- what calls change
pub record PoolView (Page Pin : Type 0) : Type 1 where
  pub live : Page → Type 0
  -- the pin is one of this worker
  pub valid : Pin → Type 0
  -- how many pins this worker has on the page of a number
  pub pins : ℕ → ℕ
  -- how many open pages of this worker lie in the frame of a number
  pub opens : ℕ → ℕ
  -- how many pins and open pages this worker has, and how many it may have
  pub held : ℕ
  pub grant : ℕ
  pub page_bytes : ℕ
  -- which lane this worker has, and how many faults and successful writes that counts
  pub lane : ℕ
  pub faults : ℕ
  pub writes : ℕ
  -- how many of them were this pool's
  pub wrote : ℕ
