use Rattle.stage_runs.specs.Sevens.{rows_of, sevens, Made}
use Rattle.worker_stage.proofs.Rows.{stage_rows}
use Rattle.stage_runs.proofs.Steps.{on_ok, limits}
use Rattle.stage_runs.proofs.sevens.run_sevens.Goals as goal

pub returns-clause-rows : goal.returns-clause-rows
returns-clause-rows g c = on_ok _ (λ is. stage_rows Made rows_of sevens (λ w. Unit {0}) (λ w ns v good (made : Made w ns v). made.rows) _ _ _ (λ k d lt. tt) is) c.run_stage.ensures.done

pub returns-clause-limits : goal.returns-clause-limits
returns-clause-limits g c = limits _ _ _ _ c.run_stage.ensures.done c.run_stage.ensures.refused
