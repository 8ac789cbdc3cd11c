use Rattle.pool_core.proofs.Runs.{run_sound}
use Rattle.pool_core.proofs.Reading.{step_same, run_same}
use Rattle.pool_core.proofs.laws.read_pages_stay.Goals as goal

pub returns-clause-alone : goal.returns-clause-alone
returns-clause-alone c bytes frames count events s run page p there writer = ((run_sound bytes frames count events s run).stand page p there).claimed writer

pub returns-clause-step : goal.returns-clause-step
returns-clause-step c bytes frames count events old new event run enabled acts = step_same old event new (run_sound bytes frames count events old run) enabled acts

pub returns-clause-run : goal.returns-clause-run
returns-clause-run c bytes frames count before after old new page p run read there = run_same page old new after p (run_sound bytes frames count before old run) read there
