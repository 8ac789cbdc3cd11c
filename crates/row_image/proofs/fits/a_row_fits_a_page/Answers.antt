use Rattle.row_image.proofs.FitLemmas.{row_fits_page}
use Rattle.row_image.proofs.fits.a_row_fits_a_page.Goals as goal

pub returns : goal.returns
returns c = row_fits_page
