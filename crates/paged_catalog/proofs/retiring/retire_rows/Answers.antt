use Rattle.std.proofs.Common.{◌≡◌, ◌++◌, ap, subst, ◌∙◌, sym}
use Rattle.page_body.specs.PageLists.{ids_of}
use Rattle.row_sets.specs.Holds.{pages_only, IsRetirable}
use Rattle.row_sets.specs.Changes.{Changes}
use Rattle.row_sets.proofs.Changed.{changes_then}
use Rattle.row_sets.proofs.Retired.{retirable_right, left_after, left_stays}
use Rattle.paged_catalog.specs.Meaning.{sets_pages, rows_pages}
use Rattle.paged_catalog.specs.Stands.{AllFormed, AllRowsFormed}
use Rattle.paged_catalog.proofs.Places.{last_rows_formed, left_rows_formed}
use Rattle.paged_catalog.proofs.Paged.{rows_push}
use Rattle.paged_catalog.proofs.retiring.retire_rows.Goals as goal

pub retire_sets-requires-clause-formed : goal.retire_sets-requires-clause-formed
retire_sets-requires-clause-formed g c =
    let t = g.P.Pages.terms in
    let n = (g.P.Pages.view c.args.pages.now).page_bytes in
    let last = last_rows_formed t n c.pop.new.self.items c.in-Some.last (subst (AllRowsFormed t n) c.in-Some.ensures.items c.tables.invariant.formed) in
    subst (λ k. AllFormed t k c.in-Some.last.sets.items) (sym c.tables.invariant.changes.page_bytes) last

pub retire_sets-requires-clause-retirable : goal.retire_sets-requires-clause-retirable
retire_sets-requires-clause-retirable g c =
    let t = g.P.Pages.terms in
    let a = g.P.Pages.view c.tables.pages in
    let e : rows_pages c.tables.left.items ≡ rows_pages c.pop.new.self.items ++ sets_pages c.in-Some.last.sets.items = ap rows_pages c.in-Some.ensures.items ∙ rows_push c.pop.new.self.items c.in-Some.last in
    retirable_right t a (rows_pages c.pop.new.self.items) (sets_pages c.in-Some.last.sets.items) (subst (IsRetirable t a) e c.tables.invariant.left_ok)

pub tables-preserved : goal.tables-preserved
tables-preserved g c =
    let t = g.P.Pages.terms in
    let a = g.P.Pages.view c.tables.pages in
    let b = g.P.Pages.view c.retire_sets.new.pages in
    let n = (g.P.Pages.view c.args.pages.now).page_bytes in
    let left = rows_pages c.pop.new.self.items in
    let last = sets_pages c.in-Some.last.sets.items in
    let e : rows_pages c.tables.left.items ≡ left ++ last = ap rows_pages c.in-Some.ensures.items ∙ rows_push c.pop.new.self.items c.in-Some.last in
    record {
      formed = left_rows_formed t n c.pop.new.self.items c.in-Some.last (subst (AllRowsFormed t n) c.in-Some.ensures.items c.tables.invariant.formed);
      left_ok = left_after t left last a b (subst (IsRetirable t a) e c.tables.invariant.left_ok) c.retire_sets.ensures;
      changes = changes_then t (pages_only (ids_of t (rows_pages c.args.all.items))) (pages_only (ids_of t (left ++ last))) (pages_only (ids_of t left)) (g.P.Pages.view c.args.pages.now) a b
          (subst (λ ps. Changes t (pages_only (ids_of t (rows_pages c.args.all.items))) (pages_only (ids_of t ps)) (g.P.Pages.view c.args.pages.now) a) e c.tables.invariant.changes)
          (left_stays t left last a b c.retire_sets.ensures);
    }
