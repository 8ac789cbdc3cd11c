use Rattle.std.proofs.Common.{◌≡◌, take, false}
use Rattle.paged_catalog.specs.Finding.{has_table}
use Rattle.paged_catalog.proofs.finding.place_of.Given as goal

abbrev pub invariant-loop-place : goal.invariant-loop-place
invariant-loop-place l = has_table (take l.place l.tables) l.name ≡ false
