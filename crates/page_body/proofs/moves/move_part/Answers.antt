use Rattle.std.proofs.Common.{ap}
use Rattle.row_image.specs.declared.image.Part.{Part}
use Rattle.row_image.specs.Image.{part_at}
use Rattle.row_image.specs.Moves.{based}
use Rattle.page_body.proofs.PartMoves.{same_count, here, elsewhere}
use Rattle.page_body.proofs.moves.move_part.Goals as goal

pub returns-then-this-base-clause-count : goal.returns-then-this-base-clause-count
returns-then-this-base-clause-count c = same_count c.args.image.now c.rebase.new.image c.args.part (based (part_at c.args.image.now c.args.part) c.args.base) c.rebase.ensures.parts

pub returns-then-this-base-clause-based : goal.returns-then-this-base-clause-based
returns-then-this-base-clause-based c = λ some. ap (λ (p : Part). p.base) (here c.args.image.now c.rebase.new.image c.args.part (based (part_at c.args.image.now c.args.part) c.args.base) c.rebase.ensures.parts c.requires.part)

pub returns-then-this-base-clause-others : goal.returns-then-this-base-clause-others
returns-then-this-base-clause-others c = elsewhere c.args.image.now c.rebase.new.image c.args.part (based (part_at c.args.image.now c.args.part) c.args.base) c.rebase.ensures.parts
