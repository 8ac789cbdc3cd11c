use Rattle.std.proofs.Common.{refl}
use Rattle.row_figures.proofs.Page.{page_262144}
use Rattle.row_figures.proofs.figures.new_pool.Goals as goal

pub new_pages-requires-clause-page : goal.new_pages-requires-clause-page
new_pages-requires-clause-page c = page_262144 262144 refl
