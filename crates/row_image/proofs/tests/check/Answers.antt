use Rattle.row_image.proofs.PageLemmas.{page_4096}
use Rattle.row_image.proofs.tests.check.Goals as goal

pub check_image-requires : goal.check_image-requires
check_image-requires c = page_4096 _ c.requires
