use Rattle.std.proofs.Common.{◌≤◌, ℕ, List, subst, sym, ap, ◌∙◌}
use Rattle.row_image.specs.Image.{part_count}
use Rattle.page_body.specs.declared.body.PageBody.{PageBody}
use Rattle.page_body.specs.Bodies.{IsResident, image_of}
use Rattle.pool_core.proofs.Images.{few_parts}
use Rattle.pool_core.proofs.enabled.sees_bases.Goals as goal

pub holds_heaps-requires-clause-few : goal.holds_heaps-requires-clause-few
holds_heaps-requires-clause-few c =
    let p = c.args.rows.now in
    let R : PageBody → Type 0 = λ b. IsResident b in
    let P : List ℕ → Type 0 = λ image. part_count image ≤ 4 in
    let h = c.requires.whole (subst R (sym c.in-Resident.is) tt) in
    subst P (ap image_of c.in-Resident.is ∙ sym c.deref.ensures.value) (few_parts p.kind (image_of p.body) c.requires.rows h.1)
