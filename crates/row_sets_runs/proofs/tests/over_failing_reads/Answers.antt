use Rattle.std.proofs.Common.{refl}
use Rattle.row_image.proofs.PageLemmas.{page_4096}
use Rattle.row_sets_runs.proofs.tests.over_failing_reads.Goals as goal

pub open_tables-requires-clause-page : goal.open_tables-requires-clause-page
open_tables-requires-clause-page c = page_4096 4096 refl
