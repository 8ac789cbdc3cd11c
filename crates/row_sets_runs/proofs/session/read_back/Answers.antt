use Rattle.page_body.proofs.Kept.{kept_then}
use Rattle.row_sets_runs.proofs.Rests.{alone, alone_on, here_on, as_changes}
use Rattle.row_sets_runs.proofs.session.read_back.Goals as goal

pub count_same-requires-clause-alone : goal.count_same-requires-clause-alone
count_same-requires-clause-alone g c = alone g.P.Pages.terms c.args.set.now (g.P.Pages.view c.args.pages.now) c.requires.unpinned

pub count_on_pages-requires-clause-here : goal.count_on_pages-requires-clause-here
count_on_pages-requires-clause-here g c =
    let t = g.P.Pages.terms in
    let a = g.P.Pages.view c.args.pages.now in
    let b = g.P.Pages.view c.count_same.new.pages in
    here_on t c.args.set.now a b (as_changes t a b (c.count_same.ensures.kept)) c.requires.formed c.requires.here

pub count_on_pages-requires-clause-alone : goal.count_on_pages-requires-clause-alone
count_on_pages-requires-clause-alone g c =
    let t = g.P.Pages.terms in
    let a = g.P.Pages.view c.args.pages.now in
    let b = g.P.Pages.view c.count_same.new.pages in
    alone_on t c.args.set.now a b (as_changes t a b (c.count_same.ensures.kept)) (alone t c.args.set.now a c.requires.unpinned)

pub copy_and_count-requires-clause-here : goal.copy_and_count-requires-clause-here
copy_and_count-requires-clause-here g c =
    let t = g.P.Pages.terms in
    let a = g.P.Pages.view c.args.pages.now in
    let b = g.P.Pages.view c.count_on_pages.new.pages in
    here_on t c.args.set.now a b (as_changes t a b (kept_then a (g.P.Pages.view c.count_same.new.pages) b c.count_same.ensures.kept c.count_on_pages.ensures.kept)) c.requires.formed c.requires.here

pub copy_and_count-requires-clause-alone : goal.copy_and_count-requires-clause-alone
copy_and_count-requires-clause-alone g c =
    let t = g.P.Pages.terms in
    let a = g.P.Pages.view c.args.pages.now in
    let b = g.P.Pages.view c.count_on_pages.new.pages in
    alone_on t c.args.set.now a b (as_changes t a b (kept_then a (g.P.Pages.view c.count_same.new.pages) b c.count_same.ensures.kept c.count_on_pages.ensures.kept)) (alone t c.args.set.now a c.requires.unpinned)
