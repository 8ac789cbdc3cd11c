-- Where the text of a long cell lies: on the heap page of its row's part, at its address.
use Rattle.std.specs.Prelude.{◌≡◌, ◌≢◌, ℕ, ◌+◌, ◌-◌, ◌/◌, ◌%◌, ◌<◌, ◌≤◌, List, length, slice_range}
use Rattle.row_image.specs.declared.limits.TheConstants.{HEAP_HEAD}
use Rattle.row_image.specs.declared.layout.CellKind.{CellKind}
use Rattle.row_image.specs.declared.image.ImageKind.TheVariants.{Rows}
use Rattle.row_image.specs.Cells.{LongCell}
use Rattle.row_image.specs.Image.{part_count, part_at, stored_cell, no_heap}
use Rattle.row_image.specs.Flat.{flat}
use Rattle.row_image.specs.Texts.{TextValue, value_of}

-- a row stands in a part
pub record LiesIn (image : List ℕ) (row part : ℕ) : Type 0 where
  pub counted : part < part_count image
  pub low : (part_at image part).first ≤ row
  pub high : row < (part_at image part).first + (part_at image part).rows

-- A long cell of a row page whose row stands in a part: the part has a heap page, the text lies on it behind its head,
-- and what the page says has the text's offset on it.
pub record IsOnHeap (kinds : List CellKind) (image : List ℕ) (row column : ℕ) (prefix : List ℕ) (size address part : ℕ) : Type 0 where
  pub lies : LiesIn image row part
  pub lies_flat : LiesIn (flat (Rows kinds) image) row part
  pub heap : (part_at image part).heap ≢ no_heap
  pub low : (part_at image part).base + HEAP_HEAD ≤ address
  pub high : address + size ≤ (part_at image part).base + length image
  pub offset : stored_cell kinds (flat (Rows kinds) image) row column ≡ LongCell prefix size (address - (part_at image part).base)

-- The text at an address, in the frame that the address names, is the one that the flat images stand for: the rest of
-- the address is its place in the frame's bytes.
pub record IsFollowed (kinds : List CellKind) (image heap : List ℕ) (row column size address frame : ℕ) : Type 0 where
  pub frame_is : address / length image ≡ frame
  pub text : TextValue (slice_range heap (address % length image) (address % length image + size)) ≡ value_of heap (stored_cell kinds (flat (Rows kinds) image) row column)
