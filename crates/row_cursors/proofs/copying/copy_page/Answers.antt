use Rattle.std.proofs.Common.{◌≡◌, ◌-◌, ◌++◌, List, length, take, ap, sym, subst, ◌∙◌, arith}
use Rattle.std.specs.Prelude.{slice_range}
use Rattle.std.proofs.lemmas.List.{take_all}
use Rattle.row_image.specs.Texts.{ValueRow}
use Rattle.rebase_pins.specs.Images.{Seen}
use Rattle.rebase_pins.specs.Seen.{rows_seen, seen_under}
use Rattle.row_sets.specs.Writers.{written_cells, writer_holding}
use Rattle.row_sets.proofs.Changed.{changes_then}
use Rattle.row_sets.proofs.Stays.{writer_has_no_pins}
use Rattle.row_cursors.proofs.Copied.{stretched, front_long, as_front}
use Rattle.row_cursors.proofs.Held.{owned_over, here_placed, changes_placed}
use Rattle.row_cursors.proofs.copying.copy_page.Goals as goal

pub returns-in_err-get_room-clause-front : goal.returns-in_err-get_room-clause-front
returns-in_err-get_room-clause-front g c = λ told.
    let t = g.P.Pages.terms in
    let old = c.args.writer.now in
    let new = c.get_room.new.writer in
    let i = c.loop-row.invariant in
    let seen = rows_seen (seen_under t c.args.set.now.layout c.args.pins.now) in
    let low = i.low in let count = i.count in
    as_front (written_cells t old) (written_cells t new) seen c.loop-row.row old.rows new.rows (c.get_room.ensures.cells ∙ i.front) (omega (arith, low, count)) c.requires.writing.counted c.get_room.ensures.writing.counted
    ∙ ap (λ (l : List ValueRow). written_cells t old ++ take (new.rows - old.rows) l) (c.in_ok-count.ensures.told told)

pub returns-in_err-get_room-clause-own : goal.returns-in_err-get_room-clause-own
returns-in_err-get_room-clause-own g c =
    let t = g.P.Pages.terms in
    owned_over t c.args.pins.now (writer_holding t c.loop-row.writer) (writer_holding t c.get_room.new.writer) (g.P.Pages.view c.loop-row.pages) (g.P.Pages.view c.get_room.new.pages) c.get_room.ensures.changes (writer_has_no_pins t c.loop-row.writer) (g.met.P.Pages.pinned c.loop-row.pages) c.loop-row.invariant.own

pub returns-in_err-get_room-clause-changes : goal.returns-in_err-get_room-clause-changes
returns-in_err-get_room-clause-changes g c =
    let t = g.P.Pages.terms in
    changes_then t (writer_holding t c.args.writer.now) (writer_holding t c.loop-row.writer) (writer_holding t c.get_room.new.writer) (g.P.Pages.view c.args.pages.now) (g.P.Pages.view c.loop-row.pages) (g.P.Pages.view c.get_room.new.pages) c.loop-row.invariant.changes c.get_room.ensures.changes

pub new_view-view-requires-clause-own : goal.new_view-view-requires-clause-own
new_view-view-requires-clause-own g c =
    let t = g.P.Pages.terms in
    owned_over t c.args.pins.now (writer_holding t c.loop-row.writer) (writer_holding t c.get_room.new.writer) (g.P.Pages.view c.loop-row.pages) (g.P.Pages.view c.get_room.new.pages) c.get_room.ensures.changes (writer_has_no_pins t c.loop-row.writer) (g.met.P.Pages.pinned c.loop-row.pages) c.loop-row.invariant.own

pub copy_stretch-row-requires-clause-page : goal.copy_stretch-row-requires-clause-page
copy_stretch-row-requires-clause-page g c =
    let t = g.P.Pages.terms in
    let own = owned_over t c.args.pins.now (writer_holding t c.loop-row.writer) (writer_holding t c.get_room.new.writer) (g.P.Pages.view c.loop-row.pages) (g.P.Pages.view c.get_room.new.pages) c.get_room.ensures.changes (writer_has_no_pins t c.loop-row.writer) (g.met.P.Pages.pinned c.loop-row.pages) c.loop-row.invariant.own in
    ap (λ (s : Seen). length s.image) c.new_view-view.ensures.is ∙ (g.met.P.Pages.shown c.get_room.new.pages c.args.pins.now.rows own.rows).long ∙ sym c.get_room.ensures.here.page_bytes

pub loop-row-preserved : goal.loop-row-preserved
loop-row-preserved g c =
    let t = g.P.Pages.terms in
    let old = c.args.writer.now in
    let mid = c.get_room.new.writer in
    let new = c.copy_stretch-row.new.writer in
    let b = g.P.Pages.view c.get_room.new.pages in
    let i = c.loop-row.invariant in
    let seen = rows_seen (seen_under t c.args.set.now.layout c.args.pins.now) in
    let place = c.copy_stretch-row.ensures.place in
    let more = c.copy_stretch-row.ensures.more in
    let most = c.copy_stretch-row.ensures.most in
    let view = c.new_view-view.ensures.is in
    let long = ap (λ s. length (rows_seen s)) view in
    let count = i.count in
    record {
      count = i.count;
      low = omega (arith, most, long, count);
      front = stretched (written_cells t old) (written_cells t mid) (written_cells t new) seen c.loop-row.row c.copy_stretch-row.result (c.get_room.ensures.cells ∙ i.front)
          (subst (λ s. written_cells t new ≡ written_cells t mid ++ slice_range (rows_seen s) c.loop-row.row c.copy_stretch-row.result) view c.copy_stretch-row.ensures.rows) (omega (arith, more));
      own = owned_over t c.args.pins.now (writer_holding t c.loop-row.writer) (writer_holding t mid) (g.P.Pages.view c.loop-row.pages) b c.get_room.ensures.changes (writer_has_no_pins t c.loop-row.writer) (g.met.P.Pages.pinned c.loop-row.pages) i.own;
      columns = record {
        kinds = place.kinds ∙ c.get_room.ensures.columns.kinds ∙ i.columns.kinds;
        layout = place.layout ∙ c.get_room.ensures.columns.layout ∙ i.columns.layout;
        page_bytes = place.page_bytes ∙ c.get_room.ensures.columns.page_bytes ∙ i.columns.page_bytes;
      };
      writing = c.copy_stretch-row.ensures.writing;
      here = here_placed t mid new b place c.get_room.ensures.here;
      changes = changes_placed t mid new (writer_holding t old) (g.P.Pages.view c.args.pages.now) b place
          (changes_then t (writer_holding t old) (writer_holding t c.loop-row.writer) (writer_holding t mid) (g.P.Pages.view c.args.pages.now) (g.P.Pages.view c.loop-row.pages) b i.changes c.get_room.ensures.changes);
    }

pub returns-clause-counted : goal.returns-clause-counted
returns-clause-counted g c =
    let t = g.P.Pages.terms in
    let old = c.args.writer.now in
    let new = c.loop-row.writer in
    let i = c.loop-row.invariant in
    let seen = rows_seen (seen_under t c.args.set.now.layout c.args.pins.now) in
    let low = i.low in let count = i.count in let past = c.loop-row-test.false in
    let same = c.in_ok-count.ensures.same in
    let first = same.0 in let second = same.1 in
    let long = front_long (written_cells t old) (written_cells t new) seen c.loop-row.row old.rows new.rows i.front (omega (arith, low, count)) c.requires.writing.counted i.writing.counted in
    omega (arith, long, low, past, count, first, second)

pub returns-clause-front : goal.returns-clause-front
returns-clause-front g c = λ told.
    let t = g.P.Pages.terms in
    let old = c.args.writer.now in
    let new = c.loop-row.writer in
    let i = c.loop-row.invariant in
    let seen = rows_seen (seen_under t c.args.set.now.layout c.args.pins.now) in
    let low = i.low in let count = i.count in
    as_front (written_cells t old) (written_cells t new) seen c.loop-row.row old.rows new.rows i.front (omega (arith, low, count)) c.requires.writing.counted i.writing.counted
    ∙ ap (λ (l : List ValueRow). written_cells t old ++ take (new.rows - old.rows) l) (c.in_ok-count.ensures.told told)

pub returns-clause-rows : goal.returns-clause-rows
returns-clause-rows g c = λ told.
    let t = g.P.Pages.terms in
    let old = c.args.writer.now in
    let i = c.loop-row.invariant in
    let seen = rows_seen (seen_under t c.args.set.now.layout c.args.pins.now) in
    let low = i.low in let count = i.count in let past = c.loop-row-test.false in
    i.front ∙ ap (λ (l : List ValueRow). written_cells t old ++ l) (take_all c.loop-row.row seen (omega (arith, low, past, count)) ∙ c.in_ok-count.ensures.told told)
