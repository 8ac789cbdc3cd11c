use Rattle.run_settings.proofs.Fit.{grants-fit}
use Rattle.run_settings.proofs.laws.grants_fit_the_frames.Goals as goal

pub returns : goal.returns
returns c = grants-fit
