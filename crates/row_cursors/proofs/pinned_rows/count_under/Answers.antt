use Rattle.std.proofs.Common.{◌+◌, ◌∷◌, length, drop, ap, sym, ◌∙◌}
use Rattle.std.proofs.lemmas.List.{drop_more}
use Rattle.rebase_pins.specs.Seen.{rows_seen, seen_under}
use Rattle.row_sets.specs.Cursors.{rows_under}
use Rattle.row_cursors.proofs.Counts.{miscounted, both_counts, under_list}
use Rattle.row_cursors.proofs.Places.{counted_at}
use Rattle.row_cursors.proofs.pinned_rows.count_under.Goals as goal

pub returns-clause-same : goal.returns-clause-same
returns-clause-same g c =
    let t = g.P.Pages.terms in
    let set = c.args.set.now in
    let n = c.args.page in
    let p = c.index.result.now in
    let counted = (counted_at t set n p c.requires.page (drop_more set.pages.items n p c.requires.page ∙ ap (λ q. q ∷ drop (n + 1) set.pages.items) (sym c.index.ensures)) c.requires.formed).0 in
    both_counts c.count_rows.result p.rows (length (rows_seen c.new_view-view.result)) (length (rows_under t set c.args.pins.now)) (length (rows_seen (seen_under t set.layout c.args.pins.now)))
    c.count_rows.ensures.same (counted ∙ ap length (sym (under_list t set n c.args.pins.now c.requires.is))) (ap (λ s. length (rows_seen s)) c.new_view-view.ensures.is)

pub returns-clause-cause : goal.returns-clause-cause
returns-clause-cause g c =
    let t = g.P.Pages.terms in
    let set = c.args.set.now in
    let n = c.args.page in
    let p = c.index.result.now in
    let counted = (counted_at t set n p c.requires.page (drop_more set.pages.items n p c.requires.page ∙ ap (λ q. q ∷ drop (n + 1) set.pages.items) (sym c.index.ensures)) c.requires.formed).0 in
    miscounted t.told p.rows (length (rows_seen c.new_view-view.result)) (g.P.Pages.view c.args.pages.now).faults c.count_rows.result c.count_rows.ensures.other
    (λ told. ap length (c.new_view-view.ensures.told told ∙ under_list t set n c.args.pins.now c.requires.is) ∙ sym counted)
