use Rattle.std.proofs.Common.{arith}
use Rattle.row_image.proofs.PageLemmas.{page_4096}
use Rattle.row_image.proofs.tests.put_five.Goals as goal

pub new_rows-requires : goal.new_rows-requires
new_rows-requires c = page_4096 _ c.requires.page

pub write_row-requires-clause-page : goal.write_row-requires-clause-page
write_row-requires-clause-page c = page_4096 _ (omega arith)
