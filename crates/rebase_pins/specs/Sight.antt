-- What a view has inside.
use Rattle.std.specs.Prelude.{◌≡◌, ℕ, ◌<◌, List, [], ◌∷◌, length}
use Rattle.row_image.specs.declared.image.ImageKind.TheVariants.{Rows}
use Rattle.row_image.specs.Bytes.{IsPage}
use Rattle.row_image.specs.Rules.{IsAccepted}
use Rattle.rebase_pins.specs.Images.{Seen}
use Rattle.rebase_pins.specs.Parts.{IsPartSight}
use Rattle.rebase_pins.specs.declared.view.RowView.TheInside.{Inside}

abbrev pub seen_in : Inside → Seen
seen_in v = record { kinds = v.layout.now; image = v.image.now; heaps = v.part0.heap.now ∷ v.part1.heap.now ∷ v.part2.heap.now ∷ v.part3.heap.now ∷ [] }

-- a heap page that is there is as long as the row page
abbrev pub IsAsLong : List ℕ → List ℕ → Type 0
IsAsLong image heap = 0 < length heap → length heap ≡ length image

-- an accepted row page and its heap pages
pub record IsSight (v : Inside) : Type 0 where
  pub page : IsPage (length v.image.now)
  pub accepted : IsAccepted (Rows v.layout.now) v.image.now
  pub heap0 : IsAsLong v.image.now v.part0.heap.now
  pub heap1 : IsAsLong v.image.now v.part1.heap.now
  pub heap2 : IsAsLong v.image.now v.part2.heap.now
  pub heap3 : IsAsLong v.image.now v.part3.heap.now
  pub part0 : IsPartSight v.image.now 0 v.part0.end v.part0.base
  pub part1 : IsPartSight v.image.now 1 v.part1.end v.part1.base
  pub part2 : IsPartSight v.image.now 2 v.part2.end v.part2.base
  pub part3 : IsPartSight v.image.now 3 v.part3.end v.part3.base
