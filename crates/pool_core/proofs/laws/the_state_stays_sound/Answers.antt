use Rattle.pool_core.proofs.SoundStep.{sound_step}
use Rattle.pool_core.proofs.Runs.{opened_sound, run_sound}
use Rattle.pool_core.proofs.laws.the_state_stays_sound.Goals as goal

pub returns-clause-opened : goal.returns-clause-opened
returns-clause-opened c = opened_sound

pub returns-clause-step : goal.returns-clause-step
returns-clause-step c old new event sound enabled acts = sound_step old event new sound enabled acts

pub returns-clause-run : goal.returns-clause-run
returns-clause-run c = run_sound
