-- What is known of accepted images.
use Rattle.std.proofs.Common.{ℕ, ◌≤◌, List}
use Rattle.row_image.specs.declared.image.ImageKind.{ImageKind}
use Rattle.row_image.specs.declared.image.ImageKind.TheVariants.{Rows, Heap, Plain}
use Rattle.row_image.specs.Image.{part_count}
use Rattle.row_image.specs.Rules.{IsAccepted}
use Rattle.row_image.proofs.Laws.{accepted_parts}
use Rattle.pool_core.specs.State.{IsRows}

-- a row page has at most four parts
pub few_parts : (kind : ImageKind) (image : List ℕ) → IsRows kind → IsAccepted kind image → part_count image ≤ 4
few_parts (Rows kinds) image rows accepted = accepted_parts kinds image accepted
few_parts Heap image rows accepted = absurd rows
few_parts Plain image rows accepted = absurd rows
