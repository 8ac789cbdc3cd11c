use Rattle.row_image.proofs.PageLemmas.{page_4096}
use Rattle.row_image.proofs.tests.hash_of.Goals as goal

pub row_hash_of-requires-clause-page : goal.row_hash_of-requires-clause-page
row_hash_of-requires-clause-page c = page_4096 _ c.requires
