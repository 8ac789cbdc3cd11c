use Rattle.std.proofs.Common.{refl}
use Rattle.row_image.proofs.PageLemmas.{page_4096}
use Rattle.pool_core.proofs.tests.core.Goals as goal

pub open_core-requires-clause-page : goal.open_core-requires-clause-page
open_core-requires-clause-page c = page_4096 4096 refl
