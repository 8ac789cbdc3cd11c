use Rattle.pool_core.proofs.Runs.{run_sound}
use Rattle.pool_core.proofs.laws.bodies_stand.Goals as goal

pub returns : goal.returns
returns c bytes frames count events s run page p there = ((run_sound bytes frames count events s run).stand page p there).stands
