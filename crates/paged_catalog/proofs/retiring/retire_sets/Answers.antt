use Rattle.std.proofs.Common.{◌≡◌, ◌++◌, ap, subst, ◌∙◌, sym}
use Rattle.page_body.specs.PageLists.{ids_of}
use Rattle.row_sets.specs.Holds.{pages_only, IsRetirable}
use Rattle.row_sets.specs.Changes.{Changes}
use Rattle.row_sets.specs.Sets.{set_pages}
use Rattle.row_sets.proofs.Changed.{changes_then}
use Rattle.row_sets.proofs.Retired.{retirable_right, left_after, left_stays}
use Rattle.paged_catalog.specs.Meaning.{sets_pages}
use Rattle.paged_catalog.specs.Stands.{AllFormed}
use Rattle.paged_catalog.proofs.Places.{last_formed, left_formed}
use Rattle.paged_catalog.proofs.Paged.{sets_push}
use Rattle.paged_catalog.proofs.retiring.retire_sets.Goals as goal

pub retire_set-requires-clause-formed : goal.retire_set-requires-clause-formed
retire_set-requires-clause-formed g c =
    let t = g.P.Pages.terms in
    let n = (g.P.Pages.view c.args.pages.now).page_bytes in
    (last_formed t n c.pop.new.self.items c.in-Some.last (subst (AllFormed t n) c.in-Some.ensures.items c.sets.invariant.formed)).0.0

pub retire_set-requires-clause-here : goal.retire_set-requires-clause-here
retire_set-requires-clause-here g c =
    let t = g.P.Pages.terms in
    let a = g.P.Pages.view c.sets.pages in
    let n = (g.P.Pages.view c.args.pages.now).page_bytes in
    let e : sets_pages c.sets.left.items ≡ sets_pages c.pop.new.self.items ++ set_pages c.in-Some.last = ap sets_pages c.in-Some.ensures.items ∙ sets_push c.pop.new.self.items c.in-Some.last in
    record {
      page_bytes = (last_formed t n c.pop.new.self.items c.in-Some.last (subst (AllFormed t n) c.in-Some.ensures.items c.sets.invariant.formed)).0.1 ∙ sym c.sets.invariant.changes.page_bytes;
      live = (retirable_right t a (sets_pages c.pop.new.self.items) (set_pages c.in-Some.last) (subst (IsRetirable t a) e c.sets.invariant.left_ok)).live;
    }

pub retire_set-requires-clause-unpinned : goal.retire_set-requires-clause-unpinned
retire_set-requires-clause-unpinned g c =
    let t = g.P.Pages.terms in
    let a = g.P.Pages.view c.sets.pages in
    let e : sets_pages c.sets.left.items ≡ sets_pages c.pop.new.self.items ++ set_pages c.in-Some.last = ap sets_pages c.in-Some.ensures.items ∙ sets_push c.pop.new.self.items c.in-Some.last in
    (retirable_right t a (sets_pages c.pop.new.self.items) (set_pages c.in-Some.last) (subst (IsRetirable t a) e c.sets.invariant.left_ok)).unpinned

pub sets-preserved : goal.sets-preserved
sets-preserved g c =
    let t = g.P.Pages.terms in
    let a = g.P.Pages.view c.sets.pages in
    let b = g.P.Pages.view c.retire_set.new.pages in
    let n = (g.P.Pages.view c.args.pages.now).page_bytes in
    let left = sets_pages c.pop.new.self.items in
    let last = set_pages c.in-Some.last in
    let e : sets_pages c.sets.left.items ≡ left ++ last = ap sets_pages c.in-Some.ensures.items ∙ sets_push c.pop.new.self.items c.in-Some.last in
    record {
      formed = left_formed t n c.pop.new.self.items c.in-Some.last (subst (AllFormed t n) c.in-Some.ensures.items c.sets.invariant.formed);
      left_ok = left_after t left last a b (subst (IsRetirable t a) e c.sets.invariant.left_ok) c.retire_set.ensures;
      changes = changes_then t (pages_only (ids_of t (sets_pages c.args.all.items))) (pages_only (ids_of t (left ++ last))) (pages_only (ids_of t left)) (g.P.Pages.view c.args.pages.now) a b
          (subst (λ ps. Changes t (pages_only (ids_of t (sets_pages c.args.all.items))) (pages_only (ids_of t ps)) (g.P.Pages.view c.args.pages.now) a) e c.sets.invariant.changes)
          (left_stays t left last a b c.retire_set.ensures);
    }
