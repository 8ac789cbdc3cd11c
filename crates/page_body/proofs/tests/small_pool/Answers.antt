use Rattle.std.proofs.Common.{refl}
use Rattle.row_image.proofs.PageLemmas.{page_4096}
use Rattle.page_body.proofs.tests.small_pool.Goals as goal

pub new_pages-requires-clause-page : goal.new_pages-requires-clause-page
new_pages-requires-clause-page c = page_4096 4096 refl
