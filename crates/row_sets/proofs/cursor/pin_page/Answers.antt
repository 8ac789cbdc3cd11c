use Rattle.std.proofs.Common.{◌+◌, ◌∷◌, drop, ◌∙◌, ap, sym}
use Rattle.std.proofs.lemmas.List.{drop_more}
use Rattle.row_sets.proofs.PageAt.{page_at, live_at, alone_at, page_given}
use Rattle.row_sets.proofs.cursor.pin_page.Goals as goal

pub pin_rows-requires-clause-formed : goal.pin_rows-requires-clause-formed
pin_rows-requires-clause-formed g c =
    let s = c.args.set.now in
    let p = c.index.result.now in
    (page_at g.P.Pages.terms s.layout s.page_bytes s.pages.items c.args.page p (drop (c.args.page + 1) s.pages.items)
    (drop_more s.pages.items c.args.page p c.requires.page ∙ ap (λ q. q ∷ drop (c.args.page + 1) s.pages.items) (sym c.index.ensures)) c.requires.formed.pages).formed

pub pin_rows-requires-clause-live : goal.pin_rows-requires-clause-live
pin_rows-requires-clause-live g c =
    let s = c.args.set.now in
    let p = c.index.result.now in
    live_at g.P.Pages.terms (g.P.Pages.view c.args.pages.now) s.pages.items c.args.page p (drop (c.args.page + 1) s.pages.items)
    (drop_more s.pages.items c.args.page p c.requires.page ∙ ap (λ q. q ∷ drop (c.args.page + 1) s.pages.items) (sym c.index.ensures)) c.requires.here.live

pub pin_rows-requires-clause-alone : goal.pin_rows-requires-clause-alone
pin_rows-requires-clause-alone g c =
    let s = c.args.set.now in
    let p = c.index.result.now in
    alone_at g.P.Pages.terms (g.P.Pages.view c.args.pages.now) s.pages.items c.args.page p (drop (c.args.page + 1) s.pages.items)
    (drop_more s.pages.items c.args.page p c.requires.page ∙ ap (λ q. q ∷ drop (c.args.page + 1) s.pages.items) (sym c.index.ensures)) c.requires.alone

pub returns-clause-rows : goal.returns-clause-rows
returns-clause-rows g c =
    let s = c.args.set.now in
    let p = c.index.result.now in
    page_given g.P.Pages.terms s c.args.page p c.pin_rows.result
    (drop_more s.pages.items c.args.page p c.requires.page ∙ ap (λ q. q ∷ drop (c.args.page + 1) s.pages.items) (sym c.index.ensures)) c.requires.formed c.pin_rows.ensures.under
