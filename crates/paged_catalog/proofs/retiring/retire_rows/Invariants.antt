use Rattle.std.proofs.Common.{vec_len}
use Rattle.page_body.specs.PageLists.{ids_of}
use Rattle.row_sets.specs.Holds.{pages_only, IsRetirable}
use Rattle.row_sets.specs.Changes.{Changes}
use Rattle.paged_catalog.specs.Meaning.{rows_pages}
use Rattle.paged_catalog.specs.Stands.{AllRowsFormed}
use Rattle.paged_catalog.proofs.retiring.retire_rows.Given as goal

abbrev pub invariant-tables : goal.invariant-tables
invariant-tables g l =
    let t = g.P.Pages.terms in
    record {
      formed : AllRowsFormed t (g.P.Pages.view l.initial.pages).page_bytes l.left.items;
      left_ok : IsRetirable t (g.P.Pages.view l.pages) (rows_pages l.left.items);
      changes : Changes t (pages_only (ids_of t (rows_pages l.initial.left.items))) (pages_only (ids_of t (rows_pages l.left.items))) (g.P.Pages.view l.initial.pages) (g.P.Pages.view l.pages);
    }

abbrev pub decreases-tables : goal.decreases-tables
decreases-tables g l = vec_len l.left
