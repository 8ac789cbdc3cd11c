use Rattle.std.proofs.Common.{◌+◌, ◌≤◌, [], ◌∷◌, ◌∙◌, map, sym, ap, subst, arith, rules}
use Rattle.std.proofs.Math.Nat.{max-le}
use Rattle.std.specs.Prelude.{IsTrue}
use Rattle.rebase_pins.specs.Seen.{value_read}
use Rattle.page_body.specs.PageLists.{AllLive}
use Rattle.row_sets.specs.Holds.{Holding, IsOwned, Unpinned}
use Rattle.row_sets.specs.Changes.{Changes}
use Rattle.row_sets.specs.Cells.{long_in, long_total}
use Rattle.row_sets.specs.Writers.{writer_holding, written_cells}
use Rattle.row_sets.proofs.AddedRow.{total_append}
use Rattle.row_sets.proofs.RowPuts.{long_fits}
use Rattle.row_sets.proofs.opening.append.Goals as goal

pub long_in-requires : goal.long_in-requires
long_in-requires g c =
    let w = c.requires.writing in
    let fit = long_fits c.args.writer.now.layout c.args.writer.now.page_bytes (map value_read c.args.row.now) w.is_page w.columns.texts c.requires.fits in
    let most = w.is_page.most in
    omega (arith, fit, most)

pub get_room-requires-clause-fits : goal.get_room-requires-clause-fits
get_room-requires-clause-fits g c =
    let w = c.requires.writing in
    let fit = long_fits c.args.writer.now.layout c.args.writer.now.page_bytes (map value_read c.args.row.now) w.is_page w.columns.texts c.requires.fits in
    let is = c.long_in.ensures in
    omega (arith, fit, is)

pub returns-clause-here : goal.returns-clause-here
returns-clause-here g c =
    let t = g.P.Pages.terms in
    let b = g.P.Pages.view c.get_room.new.pages in
    let place = c.try_append.ensures.place in
    let here = c.get_room.ensures.here in
    record {
      page_bytes = place.page_bytes ∙ here.page_bytes;
      live = subst (AllLive b) (sym place.pages) here.live;
      owned = subst (IsOwned b) (sym place.holding) here.owned;
      unpinned = subst (λ (h : Holding). Unpinned t b h.pages) (sym place.holding) here.unpinned;
    }

pub returns-clause-changes : goal.returns-clause-changes
returns-clause-changes g c =
    let t = g.P.Pages.terms in
    subst (λ (h : Holding). Changes t (writer_holding t c.args.writer.now) h (g.P.Pages.view c.args.pages.now) (g.P.Pages.view c.get_room.new.pages)) (sym c.try_append.ensures.place.holding) c.get_room.ensures.changes

pub returns-clause-asked : goal.returns-clause-asked
returns-clause-asked g c =
    let t = g.P.Pages.terms in
    let w = c.args.writer.now in
    let w1 = c.get_room.new.writer in
    let w2 = c.try_append.new.writer in
    let values = map value_read c.args.row.now in
    let wrote : IsTrue c.try_append.result = search rules in
    let total = total_append (written_cells t w1) (record { hash = c.args.hash; values = values } ∷ []) in
    let cells = ap long_total (c.try_append.ensures.rows wrote) in
    let before = ap long_total c.get_room.ensures.cells in
    let first = c.requires.writing.long in
    let last = c.try_append.ensures.writing.long in
    let added = c.requires.writing.packs.packed.added in
    let long : w2.long_bytes ≤ w.asked_bytes + long_in values = omega (arith, total, cells, before, first, last, added) in
    let got = c.get_room.ensures.asked in
    let is = c.long_in.ensures in
    let asked : w1.asked_bytes ≤ w.asked_bytes + long_in values = omega (arith, got, is) in
    let e = c.try_append.ensures.asked wrote in
    let most = max-le asked long in
    omega (arith, e, most)
