use Rattle.std.proofs.Common.{◌≡◌, ◌++◌, ap, subst, ◌∙◌}
use Rattle.page_body.specs.PageLists.{ids_of}
use Rattle.row_sets.specs.Holds.{pages_only, IsRetirable}
use Rattle.row_sets.specs.Changes.{Changes}
use Rattle.row_sets.specs.Sets.{pages_in, page_list}
use Rattle.row_sets.proofs.Changed.{changes_then}
use Rattle.row_sets.proofs.Retired.{retirable_right, left_after, left_stays, pages_push}
use Rattle.row_sets.proofs.retire.retire_pages.Goals as goal

pub retire_row_page-requires : goal.retire_row_page-requires
retire_row_page-requires g c =
    let t = g.P.Pages.terms in
    let a = g.P.Pages.view c.pages.pages in
    let e : pages_in c.pages.left.items ≡ pages_in c.pop.new.self.items ++ page_list c.in-Some.last.page = ap pages_in c.in-Some.ensures.items ∙ pages_push c.pop.new.self.items c.in-Some.last in
    retirable_right t a (pages_in c.pop.new.self.items) (page_list c.in-Some.last.page) (subst (IsRetirable t a) e c.pages.invariant.left_ok)

pub pages-preserved : goal.pages-preserved
pages-preserved g c =
    let t = g.P.Pages.terms in
    let a = g.P.Pages.view c.pages.pages in
    let b = g.P.Pages.view c.retire_row_page.new.pages in
    let left = pages_in c.pop.new.self.items in
    let last = page_list c.in-Some.last.page in
    let e : pages_in c.pages.left.items ≡ left ++ last = ap pages_in c.in-Some.ensures.items ∙ pages_push c.pop.new.self.items c.in-Some.last in
    record {
      left_ok = left_after t left last a b (subst (IsRetirable t a) e c.pages.invariant.left_ok) c.retire_row_page.ensures;
      changes = changes_then t (pages_only (ids_of t (pages_in c.args.all.items))) (pages_only (ids_of t (left ++ last))) (pages_only (ids_of t left)) (g.P.Pages.view c.args.pages.now) a b
          (subst (λ ps. Changes t (pages_only (ids_of t (pages_in c.args.all.items))) (pages_only (ids_of t ps)) (g.P.Pages.view c.args.pages.now) a) e c.pages.invariant.changes)
          (left_stays t left last a b c.retire_row_page.ensures);
    }
