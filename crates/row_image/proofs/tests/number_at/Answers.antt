use Rattle.row_image.proofs.PageLemmas.{page_4096}
use Rattle.row_image.proofs.tests.number_at.Goals as goal

pub read_cell-requires-clause-page : goal.read_cell-requires-clause-page
read_cell-requires-clause-page c = page_4096 _ c.requires
