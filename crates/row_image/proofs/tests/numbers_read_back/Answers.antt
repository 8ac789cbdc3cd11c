use Rattle.std.proofs.Common.{refl}
use Rattle.row_image.proofs.PageLemmas.{page_4096}
use Rattle.row_image.proofs.tests.numbers_read_back.Goals as goal

pub text_limit-requires : goal.text_limit-requires
text_limit-requires g c = page_4096 4096 refl

pub row_count-requires : goal.row_count-requires
row_count-requires g c = page_4096 _ c.put_five.ensures

pub part_count-requires : goal.part_count-requires
part_count-requires g c = page_4096 _ c.put_five.ensures
