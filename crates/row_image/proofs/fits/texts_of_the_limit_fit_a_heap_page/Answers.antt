use Rattle.row_image.proofs.FitLemmas.{texts_fit_page}
use Rattle.row_image.proofs.fits.texts_of_the_limit_fit_a_heap_page.Goals as goal

pub returns : goal.returns
returns c = texts_fit_page
