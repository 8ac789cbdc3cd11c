-- Numbers in a list of bytes, and what a write leaves alone.
use Rattle.std.specs.Prelude.{◌≡◌, ℕ, zero, suc, ◌+◌, ◌*◌, ◌/◌, ◌%◌, ◌^◌, ◌<◌, ◌≤◌, List, [], ◌∷◌, slice_index}
use Rattle.row_image.specs.declared.limits.TheConstants.{LEAST_PAGE, MOST_PAGE}

-- a page's length is a power of two between two limits
pub record IsPage (page : ℕ) : Type 0 where
  pub least : LEAST_PAGE ≤ page
  pub most : page ≤ MOST_PAGE
  pub power : (k : ℕ) × (page ≡ 2 ^ k)

-- the number in the n bytes from a place on, the lowest byte first
unfoldable pub number_at : List ℕ → ℕ → ℕ → ℕ
number_at image at zero = 0
number_at image at (suc n) = slice_index image at + 256 * number_at image (at + 1) n

-- the lowest n bytes of a number, the lowest byte first
unfoldable pub number_bytes : ℕ → ℕ → List ℕ
number_bytes zero x = []
number_bytes (suc n) x = x % 256 ∷ number_bytes n (x / 256)

-- only the bytes from one place up to another may differ
pub record ChangesOnly (old new : List ℕ) (from to : ℕ) : Type 0 where
  pub before : (k : ℕ) → k < from → slice_index new k ≡ slice_index old k
  pub after : (k : ℕ) → to ≤ k → slice_index new k ≡ slice_index old k
