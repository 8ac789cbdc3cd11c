use Rattle.std.proofs.Common.{◌≡◌, length}
use Rattle.page_body.specs.Keeps.{Kept}
use Rattle.solo_pool_runs.proofs.tests.orders.read_again.Given as goal

abbrev pub invariant-loop : goal.invariant-loop
invariant-loop g l = record {
  kept : Kept (g.P.Pages.view l.initial.pages) (g.P.Pages.view l.pages);
  long : length l.into ≡ length l.initial.into;
}
