use Rattle.std.proofs.Common.{refl}
use Rattle.row_image.proofs.PageLemmas.{page_4096}
use Rattle.solo_pool_runs.proofs.tests.lanes.a_spill_write_that_fails.Goals as goal

pub run_many-made-requires-clause-page : goal.run_many-made-requires-clause-page
run_many-made-requires-clause-page g c = page_4096 4096 refl

pub run_many-made-requires-2-clause-page : goal.run_many-made-requires-2-clause-page
run_many-made-requires-2-clause-page g c = page_4096 4096 refl
