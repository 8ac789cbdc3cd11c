use Rattle.std.proofs.Common.{refl}
use Rattle.row_image.proofs.PageLemmas.{page_4096}
use Rattle.row_image.proofs.tests.texts_lie_by_their_length.Goals as goal

pub new_rows-requires : goal.new_rows-requires
new_rows-requires g c = page_4096 4096 refl
