use Rattle.std.proofs.Common.{◌+◌, ◌-◌, ◌<◌, ◌≤◌, ◌++◌, List, [], length, get_or, take, ap, ◌∙◌, arith}
use Rattle.std.proofs.lemmas.List.{take_all}
use Rattle.row_image.specs.Texts.{ValueRow}
use Rattle.rebase_pins.specs.RowPages.{under_pins, ids_of}
use Rattle.row_sets.specs.Sets.{joined, set_lists}
use Rattle.row_sets.specs.Writers.{written_cells, writer_holding}
use Rattle.row_sets.proofs.Changed.{changes_then}
use Rattle.row_sets.proofs.Stays.{set_stays, set_differs, writer_kept, writer_has_no_pins}
use Rattle.row_cursors.proofs.Copied.{as_front, front_within, pages_front, page_front, page_more, pages_long, front_most, joined_long}
use Rattle.row_cursors.proofs.Counts.{under_list}
use Rattle.row_cursors.proofs.Places.{lists_long}
use Rattle.row_cursors.proofs.Held.{writer_pinned, writer_released, pinned_apart, changes_pinned}
use Rattle.row_cursors.proofs.copying.copy_rows.Goals as goal

pub pin_page-requires-clause-here : goal.pin_page-requires-clause-here
pin_page-requires-clause-here g c =
    let t = g.P.Pages.terms in
    set_stays t c.args.set.now (writer_holding t c.args.writer.now) (writer_holding t c.loop-page.writer) (g.P.Pages.view c.args.pages.now) (g.P.Pages.view c.loop-page.pages) c.loop-page.invariant.changes c.requires.apart c.requires.here

pub returns-in_err-pins-clause-front : goal.returns-in_err-pins-clause-front
returns-in_err-pins-clause-front g c = λ told.
    let t = g.P.Pages.terms in
    let old = c.args.writer.now in
    let now = c.loop-page.writer in
    let lists = set_lists t c.args.set.now in
    let n = c.loop-page.page in
    let i = c.loop-page.invariant in
    as_front (written_cells t old) (written_cells t now) (joined lists) (length (joined (take n lists))) old.rows now.rows
    (i.rows told ∙ ap (λ (l : List ValueRow). written_cells t old ++ l) (pages_front lists n)) (front_most lists n) c.requires.writing.counted i.writing.counted

pub returns-in_err-pins-clause-writer_here : goal.returns-in_err-pins-clause-writer_here
returns-in_err-pins-clause-writer_here g c =
    let i = c.loop-page.invariant in
    writer_kept g.P.Pages.terms c.loop-page.writer (g.P.Pages.view c.loop-page.pages) (g.P.Pages.view c.pin_page.new.pages) c.in_err-pins.ensures.refused i.writing i.here

pub copy_page-copied-requires-clause-here : goal.copy_page-copied-requires-clause-here
copy_page-copied-requires-clause-here g c =
    let t = g.P.Pages.terms in
    let set = c.args.set.now in
    let w = c.loop-page.writer in
    let pins = c.in_ok-pins.pins in
    let i = c.loop-page.invariant in
    let apart = set_differs t set (writer_holding t c.args.writer.now) (writer_holding t w) (g.P.Pages.view c.args.pages.now) (g.P.Pages.view c.loop-page.pages) i.changes c.requires.here c.requires.apart i.writing.differ in
    writer_pinned t w (ids_of t (under_pins t pins)) (g.P.Pages.view c.loop-page.pages) (g.P.Pages.view c.pin_page.new.pages) c.in_ok-pins.ensures.pinned.took
    (pinned_apart t set w c.loop-page.page pins c.in_ok-pins.ensures.rows apart) i.here

pub returns-in_err-copied-clause-front : goal.returns-in_err-copied-clause-front
returns-in_err-copied-clause-front g c = λ told.
    let t = g.P.Pages.terms in
    let set = c.args.set.now in
    let old = c.args.writer.now in
    let w = c.loop-page.writer in
    let new = c.copy_page-copied.new.writer in
    let lists = set_lists t set in
    let n = c.loop-page.page in
    let i = c.loop-page.invariant in
    let m = new.rows - w.rows in
    let under = under_list t set n c.in_ok-pins.pins c.in_ok-pins.ensures.rows in
    let long = lists_long t set.layout set.pages.items in
    let len = c.len-page-end.ensures in let test = c.loop-page-test.true in
    let inside : n < length lists = omega (arith, long, len, test) in
    let copied = c.copy_page-copied.ensures.front told ∙ ap (λ (l : List ValueRow). written_cells t w ++ take m l) under in
    let within : m ≤ length (get_or lists n []) = front_within (written_cells t w) (written_cells t new) (get_or lists n []) w.rows new.rows copied i.writing.counted c.copy_page-copied.ensures.writing.counted in
    as_front (written_cells t old) (written_cells t new) (joined lists) (length (joined (take n lists)) + m) old.rows new.rows
    (page_front (written_cells t old) (written_cells t w) (written_cells t new) lists n m inside within (i.rows told) copied) (joined_long lists n m inside within) c.requires.writing.counted c.copy_page-copied.ensures.writing.counted

pub returns-in_err-copied-clause-changes : goal.returns-in_err-copied-clause-changes
returns-in_err-copied-clause-changes g c =
    let t = g.P.Pages.terms in
    let old = c.args.writer.now in
    let w = c.loop-page.writer in
    let new = c.copy_page-copied.new.writer in
    let ids = ids_of t (under_pins t c.in_ok-pins.pins) in
    changes_then t (writer_holding t old) (writer_holding t w) (writer_holding t new) (g.P.Pages.view c.args.pages.now) (g.P.Pages.view c.loop-page.pages) (g.P.Pages.view c.release.new.pages) c.loop-page.invariant.changes
    (changes_pinned t ids (writer_holding t w) (writer_holding t new) (g.P.Pages.view c.loop-page.pages) (g.P.Pages.view c.pin_page.new.pages) (g.P.Pages.view c.copy_page-copied.new.pages) (g.P.Pages.view c.release.new.pages) (writer_has_no_pins t w) (writer_has_no_pins t new) c.in_ok-pins.ensures.pinned.took c.copy_page-copied.ensures.changes c.release.ensures.gave)

pub returns-in_err-copied-clause-writer_here : goal.returns-in_err-copied-clause-writer_here
returns-in_err-copied-clause-writer_here g c =
    let t = g.P.Pages.terms in
    writer_released t c.copy_page-copied.new.writer (ids_of t (under_pins t c.in_ok-pins.pins)) (g.P.Pages.view c.copy_page-copied.new.pages) (g.P.Pages.view c.release.new.pages) c.release.ensures.gave c.copy_page-copied.ensures.here

pub loop-page-preserved : goal.loop-page-preserved
loop-page-preserved g c =
    let t = g.P.Pages.terms in
    let set = c.args.set.now in
    let old = c.args.writer.now in
    let w = c.loop-page.writer in
    let new = c.copy_page-copied.new.writer in
    let pins = c.in_ok-pins.pins in
    let ids = ids_of t (under_pins t pins) in
    let lists = set_lists t set in
    let n = c.loop-page.page in
    let i = c.loop-page.invariant in
    let under = under_list t set n pins c.in_ok-pins.ensures.rows in
    let long = lists_long t set.layout set.pages.items in
    let len = c.len-page-end.ensures in let test = c.loop-page-test.true in
    let inside : n < length lists = omega (arith, long, len, test) in
    let more = pages_long lists n inside in
    let before = i.counted in
    let added = c.in_ok-copied.ensures.counted in
    let here = ap length under in
    let columns = c.copy_page-copied.ensures.columns in
    record {
      rows = λ told. page_more (written_cells t old) (written_cells t w) (written_cells t new) lists n inside (i.rows told) (c.in_ok-copied.ensures.rows told ∙ ap (λ (l : List ValueRow). written_cells t w ++ l) under);
      counted = omega (arith, more, before, added, here);
      columns = record { kinds = columns.kinds ∙ i.columns.kinds; layout = columns.layout ∙ i.columns.layout; page_bytes = columns.page_bytes ∙ i.columns.page_bytes };
      writing = c.copy_page-copied.ensures.writing;
      here = writer_released t new ids (g.P.Pages.view c.copy_page-copied.new.pages) (g.P.Pages.view c.release.new.pages) c.release.ensures.gave c.copy_page-copied.ensures.here;
      changes = changes_then t (writer_holding t old) (writer_holding t w) (writer_holding t new) (g.P.Pages.view c.args.pages.now) (g.P.Pages.view c.loop-page.pages) (g.P.Pages.view c.release.new.pages) i.changes
          (changes_pinned t ids (writer_holding t w) (writer_holding t new) (g.P.Pages.view c.loop-page.pages) (g.P.Pages.view c.pin_page.new.pages) (g.P.Pages.view c.copy_page-copied.new.pages) (g.P.Pages.view c.release.new.pages) (writer_has_no_pins t w) (writer_has_no_pins t new) c.in_ok-pins.ensures.pinned.took c.copy_page-copied.ensures.changes c.release.ensures.gave);
    }

pub returns-clause-rows : goal.returns-clause-rows
returns-clause-rows g c = λ told.
    let t = g.P.Pages.terms in
    let set = c.args.set.now in
    let lists = set_lists t set in
    let n = c.loop-page.page in
    let long = lists_long t set.layout set.pages.items in
    let len = c.len-page-end.ensures in let past = c.loop-page-test.false in
    c.loop-page.invariant.rows told ∙ ap (λ l. written_cells t c.args.writer.now ++ joined l) (take_all n lists (omega (arith, long, len, past)))

pub returns-clause-front : goal.returns-clause-front
returns-clause-front g c = λ told.
    let t = g.P.Pages.terms in
    let old = c.args.writer.now in
    let now = c.loop-page.writer in
    let lists = set_lists t c.args.set.now in
    let n = c.loop-page.page in
    let i = c.loop-page.invariant in
    as_front (written_cells t old) (written_cells t now) (joined lists) (length (joined (take n lists))) old.rows now.rows
    (i.rows told ∙ ap (λ (l : List ValueRow). written_cells t old ++ l) (pages_front lists n)) (front_most lists n) c.requires.writing.counted i.writing.counted

pub returns-clause-counted : goal.returns-clause-counted
returns-clause-counted g c =
    let t = g.P.Pages.terms in
    let set = c.args.set.now in
    let lists = set_lists t set in
    let n = c.loop-page.page in
    let long = lists_long t set.layout set.pages.items in
    let len = c.len-page-end.ensures in let past = c.loop-page-test.false in
    let all = ap (λ l. length (joined l)) (take_all n lists (omega (arith, long, len, past))) in
    let counted = c.requires.formed.counted in
    let so_far = c.loop-page.invariant.counted in
    omega (arith, all, counted, so_far)
