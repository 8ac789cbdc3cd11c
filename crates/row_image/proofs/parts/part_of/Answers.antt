use Rattle.std.proofs.Common.{Some, arith, ap, sym, ◌∙◌}
use Rattle.std.proofs.lemmas.Option.{slice_get-get_or}
use Rattle.row_image.specs.Image.{no_part, parts_of}
use Rattle.row_image.proofs.PartLemmas.{parts_length, parts_at}
use Rattle.row_image.proofs.parts.part_of.Goals as goal

pub returns-clause-listed : goal.returns-clause-listed
returns-clause-listed c = slice_get-get_or (parts_of c.args.image.now) c.args.part no_part (omega (arith, c.requires.part, parts_length c.args.image.now)) ∙ ap Some (parts_at c.args.image.now c.args.part no_part c.requires.part ∙ sym c.part_at.ensures)
