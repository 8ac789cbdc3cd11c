use Rattle.std.proofs.Common.{refl}
use Rattle.row_image.proofs.PageLemmas.{page_4096}
use Rattle.csv_table_runs.proofs.tests.loads.load_in_memory.Goals as goal

pub new_pages-pages-requires-clause-page : goal.new_pages-pages-requires-clause-page
new_pages-pages-requires-clause-page c = page_4096 4096 refl
