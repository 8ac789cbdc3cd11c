use Rattle.page_body.specs.Keeps.{Kept}
use Rattle.page_body.specs.PageLists.{ids_of, Differ, AllLive}
use Rattle.solo_pool_runs.proofs.sets.fill.Given as goal

abbrev pub invariant-loop : goal.invariant-loop
invariant-loop g l = record {
  live : AllLive (g.P.Pages.view l.pages) l.set.items;
  differ : Differ g.P.Pages.terms (ids_of g.P.Pages.terms l.set.items);
  kept : Kept (g.P.Pages.view l.initial.pages) (g.P.Pages.view l.pages);
}
