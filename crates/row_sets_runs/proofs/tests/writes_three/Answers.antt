use Rattle.std.proofs.Common.{refl}
use Rattle.row_image.proofs.PageLemmas.{page_4096}
use Rattle.row_sets_runs.proofs.tests.writes_three.Goals as goal

pub new_pages-pages-requires-clause-page : goal.new_pages-pages-requires-clause-page
new_pages-pages-requires-clause-page c = page_4096 4096 refl
