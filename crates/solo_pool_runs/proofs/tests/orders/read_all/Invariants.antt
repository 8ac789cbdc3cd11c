use Rattle.std.proofs.Common.{◌≡◌, length}
use Rattle.page_body.specs.Keeps.{Kept}
use Rattle.solo_pool_runs.proofs.tests.orders.read_all.Given as goal

abbrev pub invariant-loop-i : goal.invariant-loop-i
invariant-loop-i g l = record {
  kept : Kept (g.P.Pages.view l.initial.pages) (g.P.Pages.view l.pages);
  image : length l.image ≡ length l.initial.image;
  into : length l.into ≡ length l.initial.into;
}
