use Rattle.std.proofs.Common.{◌≡◌, length}
use Rattle.page_body.specs.Keeps.{Kept}
use Rattle.page_body.specs.PageLists.{ids_of, Differ, AllLive}
use Rattle.solo_pool_runs.proofs.tests.orders.add_all.Given as goal

abbrev pub invariant-loop-number : goal.invariant-loop-number
invariant-loop-number g l = record {
  live : AllLive (g.P.Pages.view l.pages) l.set.items;
  differ : Differ g.P.Pages.terms (ids_of g.P.Pages.terms l.set.items);
  kept : Kept (g.P.Pages.view l.initial.pages) (g.P.Pages.view l.pages);
  long : length l.image ≡ length l.initial.image;
}
