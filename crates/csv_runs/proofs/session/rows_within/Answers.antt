use Rattle.std.proofs.Common.{refl}
use Rattle.row_image.proofs.PageLemmas.{page_4096}
use Rattle.csv_runs.proofs.session.rows_within.Goals as goal

pub new_rows-requires-clause-page : goal.new_rows-requires-clause-page
new_rows-requires-clause-page c = page_4096 4096 refl
