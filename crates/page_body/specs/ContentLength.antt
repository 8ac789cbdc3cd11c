-- What an accepted image says is as long as the image.
use Rattle.std.proofs.Common.{◌≡◌, ℕ, ◌≤◌, Bool, IsTrue, List, length, refl, sym, ap, ◌∙◌}
use Rattle.row_image.specs.declared.image.ImageKind.{ImageKind}
use Rattle.row_image.specs.declared.image.ImageKind.TheVariants.{Rows, Heap, Plain}
use Rattle.row_image.specs.Flat.{flat}
use Rattle.row_image.specs.Rules.{IsAccepted}
use Rattle.row_image.proofs.WrittenFlat.{rows_lie}
use Rattle.row_image.proofs.FlatPieces.{flat_length}
use Rattle.page_body.specs.Stands.{ImageStands}

pub flat_as_long : (kind : ImageKind) (image : List ℕ) → IsAccepted kind image → 4096 ≤ length image → length (flat kind image) ≡ length image
unfolding flat
flat_as_long (Rows kinds) image accepted page = flat_length kinds image (rows_lie kinds image accepted page)
flat_as_long Heap image accepted page = refl
flat_as_long Plain image accepted page = refl

-- in a told pool what stands for a content is as long
pub stands_long : (told : Bool) (kind : ImageKind) (content image : List ℕ) → ImageStands told kind content image → IsTrue told → 4096 ≤ length image → length image ≡ length content
stands_long told kind content image stands yes_told page = sym (flat_as_long kind image stands.accepted page) ∙ ap length (stands.same yes_told)
