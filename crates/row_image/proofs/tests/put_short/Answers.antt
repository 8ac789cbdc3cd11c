use Rattle.row_image.proofs.PageLemmas.{page_4096}
use Rattle.row_image.proofs.tests.put_short.Goals as goal

pub write_row-requires-clause-page : goal.write_row-requires-clause-page
write_row-requires-clause-page c = page_4096 _ c.requires.page
