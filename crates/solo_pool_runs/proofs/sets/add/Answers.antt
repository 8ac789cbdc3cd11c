use Rattle.std.proofs.Common.{sym, subst, ap, ◌∙◌, ◌≡◌, ◌++◌, ◌∷◌, []}
use Rattle.std.specs.Prelude.{IfSome}
use Rattle.page_body.specs.Shows.{IsNew}
use Rattle.page_body.specs.PageLists.{ids_of, Differ, AllLive}
use Rattle.page_body.proofs.PageLists.{live_on, live_append, differ_push}
use Rattle.solo_pool_runs.proofs.sets.add.Goals as goal

pub returns-in-Some-clause-live : goal.returns-in-Some-clause-live
returns-in-Some-clause-live g c =
    let a = g.P.Pages.view c.args.pages.now in
    let b = g.P.Pages.view c.seal_copy.new.pages in
    let old = live_on a b c.args.set.now.items c.in_ok-sealed.ensures.kept.lives c.requires.live in
    let new = subst (λ o. IfSome o (IsNew g.P.Pages.terms a b)) c.in-Some.is c.in_ok-sealed.ensures.new in
    subst (AllLive b) (sym (c.put.ensures ∙ ap (λ z. z ++ (c.in-Some.page ∷ [])) c.reserve.ensures.items)) (live_append b c.args.set.now.items (c.in-Some.page ∷ []) old (new.live, tt))

pub returns-in-Some-clause-differ : goal.returns-in-Some-clause-differ
returns-in-Some-clause-differ g c =
    let a = g.P.Pages.view c.args.pages.now in
    let b = g.P.Pages.view c.seal_copy.new.pages in
    let new = subst (λ o. IfSome o (IsNew g.P.Pages.terms a b)) c.in-Some.is c.in_ok-sealed.ensures.new in
    subst (λ z. Differ g.P.Pages.terms (ids_of g.P.Pages.terms z)) (sym (c.put.ensures ∙ ap (λ z. z ++ (c.in-Some.page ∷ [])) c.reserve.ensures.items)) (differ_push g.P.Pages.terms a b c.args.set.now.items c.in-Some.page c.requires.live new c.requires.differ)

pub returns-in_err-sealed-clause-live : goal.returns-in_err-sealed-clause-live
returns-in_err-sealed-clause-live g c =
    let b = g.P.Pages.view c.seal_copy.new.pages in
    subst (AllLive b) (sym c.reserve.ensures.items) (live_on (g.P.Pages.view c.args.pages.now) b c.args.set.now.items c.in_err-sealed.ensures.kept.lives c.requires.live)

pub returns-in_default-clause-live : goal.returns-in_default-clause-live
returns-in_default-clause-live g c =
    let b = g.P.Pages.view c.seal_copy.new.pages in
    subst (AllLive b) (sym c.reserve.ensures.items) (live_on (g.P.Pages.view c.args.pages.now) b c.args.set.now.items c.in_ok-sealed.ensures.kept.lives c.requires.live)
