-- What open pages, new pages and pins are to a worker.
use Rattle.std.specs.Prelude.{◌≡◌, ◌≢◌, ℕ, ◌%◌, ◌^◌, ◌<◌, IsTrue, List, length, slice_index}
use Rattle.row_image.specs.Image.{part_count, part_at, no_heap}
use Rattle.page_body.specs.View.{PoolTerms, PoolView}
use Rattle.page_body.specs.Stands.{ImageStands}
use Rattle.page_body.specs.declared.open.OpenPage.{OpenPage}

-- how many frames a pool can have
abbrev pub most_frames : ℕ
most_frames = 16777216

-- an open page of this worker, in the frame in which it was opened
pub record IsOpen {Page Pin : Type 0} (a : PoolView Page Pin) (page : OpenPage) : Type 0 where
  pub own : 0 < a.opens page.frame.number
  pub long : length page.frame.bytes.items ≡ a.page_bytes
  pub number : page.frame.number < most_frames

-- what a pin shows of its page: an image that stands for the content, which lies in a frame of the pool
pub record Shows {Page Pin : Type 0} (t : PoolTerms Page Pin) (page_bytes : ℕ) (page : Page) (pin : Pin) : Type 0 where
  pub under : t.under pin ≡ page
  pub stands : ImageStands t.told (t.kind page) (t.content page) (t.image pin)
  pub long : length (t.image pin) ≡ page_bytes
  pub number : t.frame pin < most_frames

-- a new page is live. Where retiring ends lives it is none of those that were live, and this worker has no pin on it
pub record IsNew {Page Pin : Type 0} (t : PoolTerms Page Pin) (a b : PoolView Page Pin) (page : Page) : Type 0 where
  pub live : b.live page
  pub differs : IsTrue t.ends_lives → (other : Page) → a.live other → t.id other ≢ t.id page
  pub unpinned : IsTrue t.ends_lives → b.pins (t.id page) ≡ 0

-- bases for the four parts that a row page may have: multiples of the page below 2^48
pub record AreBases (page_bytes : ℕ) (bases : List ℕ) : Type 0 where
  pub four : length bases ≡ 4
  pub aligned : (part : ℕ) → part < 4 → slice_index bases part % page_bytes ≡ 0
  pub low : (part : ℕ) → part < 4 → slice_index bases part < 2 ^ 48

-- each part that has a heap page has the base at its place
abbrev pub IsBased : List ℕ → List ℕ → Type 0
IsBased image bases = (part : ℕ) → part < part_count image → (part_at image part).heap ≢ no_heap → (part_at image part).base ≡ slice_index bases part
