use Rattle.std.proofs.Common.{◌≡◌, ◌≢◌, true}
use Rattle.csv_load.specs.declared.stage.Stage.TheVariants.{Failed}
use Rattle.csv_load.specs.Ahead.{bytes_ahead}
use Rattle.csv_runs.proofs.report.read_all.Given as goal

abbrev pub invariant-rows : goal.invariant-rows
invariant-rows g l = record {
  opened : g.F.Files.is_open l.files ≡ true;
  goes_on : l.rows.stage ≢ Failed;
}

abbrev pub decreases-rows : goal.decreases-rows
decreases-rows g l = bytes_ahead l.rows
