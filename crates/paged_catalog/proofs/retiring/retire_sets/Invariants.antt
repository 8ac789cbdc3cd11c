use Rattle.std.proofs.Common.{vec_len}
use Rattle.page_body.specs.PageLists.{ids_of}
use Rattle.row_sets.specs.Holds.{pages_only, IsRetirable}
use Rattle.row_sets.specs.Changes.{Changes}
use Rattle.paged_catalog.specs.Meaning.{sets_pages}
use Rattle.paged_catalog.specs.Stands.{AllFormed}
use Rattle.paged_catalog.proofs.retiring.retire_sets.Given as goal

abbrev pub invariant-sets : goal.invariant-sets
invariant-sets g l =
    let t = g.P.Pages.terms in
    record {
      formed : AllFormed t (g.P.Pages.view l.initial.pages).page_bytes l.left.items;
      left_ok : IsRetirable t (g.P.Pages.view l.pages) (sets_pages l.left.items);
      changes : Changes t (pages_only (ids_of t (sets_pages l.initial.left.items))) (pages_only (ids_of t (sets_pages l.left.items))) (g.P.Pages.view l.initial.pages) (g.P.Pages.view l.pages);
    }

abbrev pub decreases-sets : goal.decreases-sets
decreases-sets g l = vec_len l.left
