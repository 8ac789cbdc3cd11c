use Rattle.row_image.proofs.PageLemmas.{page_4096}
use Rattle.row_image.proofs.AcceptedLemmas.{sound_of}
use Rattle.row_image.proofs.WrittenAccepted.{parts_most}
use Rattle.row_image.proofs.tests.move_heap.Goals as goal

pub part_of-requires-clause-page : goal.part_of-requires-clause-page
part_of-requires-clause-page c = page_4096 _ c.requires.page

pub part_of-requires-clause-few : goal.part_of-requires-clause-few
part_of-requires-clause-few c = parts_most c.texts-layout.result c.args.image.now (sound_of c.texts-layout.result c.args.image.now c.in-Ok.ensures.accepted).parts

pub rebase-requires-clause-page : goal.rebase-requires-clause-page
rebase-requires-clause-page c = page_4096 _ c.requires.page
