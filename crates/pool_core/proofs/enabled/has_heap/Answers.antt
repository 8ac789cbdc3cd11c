use Rattle.row_image.proofs.Laws.{accepted_parts}
use Rattle.row_image.specs.declared.image.ImageKind.{ImageKind}
use Rattle.row_image.specs.Rules.{IsAccepted}
use Rattle.std.proofs.Common.{subst}
use Rattle.pool_core.proofs.enabled.has_heap.Goals as goal

pub part_of-requires-clause-few : goal.part_of-requires-clause-few
part_of-requires-clause-few c =
    let P : ImageKind → Type 0 = λ kind. IsAccepted kind c.args.image.now in
    accepted_parts c.in-Rows.field-0 c.args.image.now (subst P c.in-Rows.is c.requires.accepted)
