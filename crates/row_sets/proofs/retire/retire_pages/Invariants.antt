use Rattle.std.proofs.Common.{vec_len}
use Rattle.page_body.specs.PageLists.{ids_of}
use Rattle.row_sets.specs.Holds.{pages_only, IsRetirable}
use Rattle.row_sets.specs.Changes.{Changes}
use Rattle.row_sets.specs.Sets.{pages_in}
use Rattle.row_sets.proofs.retire.retire_pages.Given as goal

abbrev pub invariant-pages : goal.invariant-pages
invariant-pages g l =
    let t = g.P.Pages.terms in
    record {
      left_ok : IsRetirable t (g.P.Pages.view l.pages) (pages_in l.left.items);
      changes : Changes t (pages_only (ids_of t (pages_in l.initial.left.items))) (pages_only (ids_of t (pages_in l.left.items))) (g.P.Pages.view l.initial.pages) (g.P.Pages.view l.pages);
    }

abbrev pub decreases-pages : goal.decreases-pages
decreases-pages g l = vec_len l.left
