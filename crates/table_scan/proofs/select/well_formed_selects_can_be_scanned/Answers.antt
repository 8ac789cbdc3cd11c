use Rattle.table_scan.proofs.WellFormed.{scans-kinds, scans-typed}
use Rattle.table_scan.proofs.select.well_formed_selects_can_be_scanned.Goals as goal

pub returns-clause-typed : goal.returns-clause-typed
returns-clause-typed c = λ limit schemas select scan whole. scans-typed limit schemas select scan whole

pub returns-clause-kinds : goal.returns-clause-kinds
returns-clause-kinds c = λ limit schemas select scan whole. scans-kinds limit schemas select scan whole
