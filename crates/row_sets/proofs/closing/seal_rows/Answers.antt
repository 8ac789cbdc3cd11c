use Rattle.std.proofs.Common.{◌≡◌, ◌<◌, ◌++◌, ◌∷◌, [], Some, sym, ◌∙◌, subst, ap, arith, rules}
use Rattle.std.specs.Prelude.{IfSome}
use Rattle.row_image.specs.declared.image.ImageKind.TheVariants.{Rows}
use Rattle.row_image.specs.Flat.{flat}
use Rattle.row_image.specs.Image.{row_count}
use Rattle.page_body.specs.Shows.{IsOpen}
use Rattle.row_sets.specs.Holds.{nothing}
use Rattle.row_sets.specs.Closing.{IsWithRows}
use Rattle.row_sets.specs.Writers.{IsWriterHere, IsOpenRows, heaps_now, used_heaps}
use Rattle.row_sets.proofs.Changed.{changes_seal, changes_same}
use Rattle.row_sets.proofs.Stays.{writer_stays, nothing_has_no_pins}
use Rattle.row_sets.proofs.Fresh.{is_open, rows_whole}
use Rattle.row_sets.proofs.Fills.{fill_closed}
use Rattle.row_sets.proofs.SealedRows.{page_rows_same, page_writing, page_differ, page_here, page_changes, here_pages, is_closed}
use Rattle.row_sets.proofs.closing.seal_rows.Goals as goal

pub seal-requires-clause-own : goal.seal-requires-clause-own
seal-requires-clause-own g c =
    let t = g.P.Pages.terms in
    let w = c.args.writer.now in
    let e : w.open_rows ≡ Some c.in-Some.page = sym c.replace.ensures.value ∙ c.in-Some.is in
    subst (λ o. IfSome o (IsOpen (g.P.Pages.view c.args.pages.now))) e
    (is_open t (Rows w.layout) w.open_rows w.page_bytes (g.P.Pages.view c.args.pages.now) (rows_whole t w w.open_rows c.requires.writing.open_rows) c.requires.here.page_bytes (λ y. let m = c.requires.here.owned.opens y in omega (arith, m)))

pub returns-in-None-clause-closed : goal.returns-in-None-clause-closed
returns-in-None-clause-closed g c =
    let t = g.P.Pages.terms in
    let w = c.args.writer.now in
    is_closed t w (record w { pages = c.reserve.new.self }) c.replace.new.dest (sym c.replace.ensures.value ∙ c.in-None.is) c.replace.ensures.after c.requires.writing

pub returns-in-Ok-clause-fill : goal.returns-in-Ok-clause-fill
returns-in-Ok-clause-fill g c =
    let t = g.P.Pages.terms in
    let w = c.args.writer.now in
    let p = c.in-Some.page in
    let a = g.P.Pages.view c.args.pages.now in
    let b = g.P.Pages.view c.seal.new.self in
    let w2 = c.keep_rows.new.writer in
    let is_rows : w.open_rows ≡ Some p = sym c.replace.ensures.value ∙ c.in-Some.is in
    let kept = c.keep_rows.ensures.kept in
    let n_is : c.from-rows.result ≡ row_count p.frame.bytes.items = search rules in
    let k : IsWithRows c.in-Ok.sealed c.from-rows.result w w2 = record {
      kinds = kept.kinds;
      layout = kept.layout;
      page_bytes = kept.page_bytes;
      open_heap = kept.open_heap;
      rows_are = kept.rows_are;
      long_is = kept.long_is;
      asked_is = kept.asked_is;
      items = kept.items ∙ ap (λ l. l ++ record { page = record { rows = c.in-Ok.sealed; heap0 = w.heap0; heap1 = w.heap1; heap2 = w.heap2; heap3 = w.heap3 }; rows = c.from-rows.result } ∷ []) c.reserve.ensures.items;
      heap0 = kept.heap0;
      heap1 = kept.heap1;
      heap2 = kept.heap2;
      heap3 = kept.heap3;
      sealed_heaps = kept.sealed_heaps;
      first_heap = kept.first_heap;
      low = kept.low;
    } in
    let some_row : 0 < row_count p.frame.bytes.items = subst (λ o. IfSome o (λ q. 0 < row_count q.frame.bytes.items)) is_rows c.requires.some in
    let none = c.keep_rows.ensures.still ∙ c.replace.ensures.after in
    fill_closed t w w2 p c.in-Ok.sealed c.from-rows.result c.requires.sealed is_rows k none c.requires.writing n_is some_row

pub returns-in-Ok-clause-cells : goal.returns-in-Ok-clause-cells
returns-in-Ok-clause-cells g c =
    let t = g.P.Pages.terms in
    let w = c.args.writer.now in
    let p = c.in-Some.page in
    let a = g.P.Pages.view c.args.pages.now in
    let b = g.P.Pages.view c.seal.new.self in
    let w2 = c.keep_rows.new.writer in
    let is_rows : w.open_rows ≡ Some p = sym c.replace.ensures.value ∙ c.in-Some.is in
    let kept = c.keep_rows.ensures.kept in
    let n_is : c.from-rows.result ≡ row_count p.frame.bytes.items = search rules in
    let k : IsWithRows c.in-Ok.sealed c.from-rows.result w w2 = record {
      kinds = kept.kinds;
      layout = kept.layout;
      page_bytes = kept.page_bytes;
      open_heap = kept.open_heap;
      rows_are = kept.rows_are;
      long_is = kept.long_is;
      asked_is = kept.asked_is;
      items = kept.items ∙ ap (λ l. l ++ record { page = record { rows = c.in-Ok.sealed; heap0 = w.heap0; heap1 = w.heap1; heap2 = w.heap2; heap3 = w.heap3 }; rows = c.from-rows.result } ∷ []) c.reserve.ensures.items;
      heap0 = kept.heap0;
      heap1 = kept.heap1;
      heap2 = kept.heap2;
      heap3 = kept.heap3;
      sealed_heaps = kept.sealed_heaps;
      first_heap = kept.first_heap;
      low = kept.low;
    } in
    let some_row : 0 < row_count p.frame.bytes.items = subst (λ o. IfSome o (λ q. 0 < row_count q.frame.bytes.items)) is_rows c.requires.some in
    let none = c.keep_rows.ensures.still ∙ c.replace.ensures.after in
    let s = c.in-Ok.ensures in
    let current = subst (λ o. IfSome o (IsOpenRows w.layout w.page_bytes (used_heaps w) w.first_heap (heaps_now t w))) is_rows c.requires.writing.open_rows in
    let content : t.content c.in-Ok.sealed ≡ flat (Rows w.layout) p.frame.bytes.items = s.content ∙ ap (λ z. flat z p.frame.bytes.items) current.whole.kind_is in
    let kind : t.kind c.in-Ok.sealed ≡ Rows w.layout = s.kind ∙ current.whole.kind_is in
    let ch = changes_seal t p.frame.number c.in-Ok.sealed a b s.counted s.new s.steady s.lives s.pins in
    page_rows_same t w w2 p c.in-Ok.sealed c.from-rows.result c.requires.sealed is_rows k none c.requires.writing content kind n_is some_row

pub returns-in-Ok-clause-writing : goal.returns-in-Ok-clause-writing
returns-in-Ok-clause-writing g c =
    let t = g.P.Pages.terms in
    let w = c.args.writer.now in
    let p = c.in-Some.page in
    let a = g.P.Pages.view c.args.pages.now in
    let b = g.P.Pages.view c.seal.new.self in
    let w2 = c.keep_rows.new.writer in
    let is_rows : w.open_rows ≡ Some p = sym c.replace.ensures.value ∙ c.in-Some.is in
    let kept = c.keep_rows.ensures.kept in
    let n_is : c.from-rows.result ≡ row_count p.frame.bytes.items = search rules in
    let k : IsWithRows c.in-Ok.sealed c.from-rows.result w w2 = record {
      kinds = kept.kinds;
      layout = kept.layout;
      page_bytes = kept.page_bytes;
      open_heap = kept.open_heap;
      rows_are = kept.rows_are;
      long_is = kept.long_is;
      asked_is = kept.asked_is;
      items = kept.items ∙ ap (λ l. l ++ record { page = record { rows = c.in-Ok.sealed; heap0 = w.heap0; heap1 = w.heap1; heap2 = w.heap2; heap3 = w.heap3 }; rows = c.from-rows.result } ∷ []) c.reserve.ensures.items;
      heap0 = kept.heap0;
      heap1 = kept.heap1;
      heap2 = kept.heap2;
      heap3 = kept.heap3;
      sealed_heaps = kept.sealed_heaps;
      first_heap = kept.first_heap;
      low = kept.low;
    } in
    let some_row : 0 < row_count p.frame.bytes.items = subst (λ o. IfSome o (λ q. 0 < row_count q.frame.bytes.items)) is_rows c.requires.some in
    let none = c.keep_rows.ensures.still ∙ c.replace.ensures.after in
    let s = c.in-Ok.ensures in
    let current = subst (λ o. IfSome o (IsOpenRows w.layout w.page_bytes (used_heaps w) w.first_heap (heaps_now t w))) is_rows c.requires.writing.open_rows in
    let content : t.content c.in-Ok.sealed ≡ flat (Rows w.layout) p.frame.bytes.items = s.content ∙ ap (λ z. flat z p.frame.bytes.items) current.whole.kind_is in
    let kind : t.kind c.in-Ok.sealed ≡ Rows w.layout = s.kind ∙ current.whole.kind_is in
    let ch = changes_seal t p.frame.number c.in-Ok.sealed a b s.counted s.new s.steady s.lives s.pins in
    page_writing t w w2 p c.in-Ok.sealed c.from-rows.result c.requires.sealed is_rows k none c.requires.writing content kind n_is some_row (page_differ t w w2 p c.in-Ok.sealed c.from-rows.result c.requires.sealed is_rows k none c.requires.writing content kind n_is some_row a b ch s.new.live s.new.unpinned c.requires.here)

pub returns-in-Ok-clause-here : goal.returns-in-Ok-clause-here
returns-in-Ok-clause-here g c =
    let t = g.P.Pages.terms in
    let w = c.args.writer.now in
    let p = c.in-Some.page in
    let a = g.P.Pages.view c.args.pages.now in
    let b = g.P.Pages.view c.seal.new.self in
    let w2 = c.keep_rows.new.writer in
    let is_rows : w.open_rows ≡ Some p = sym c.replace.ensures.value ∙ c.in-Some.is in
    let kept = c.keep_rows.ensures.kept in
    let n_is : c.from-rows.result ≡ row_count p.frame.bytes.items = search rules in
    let k : IsWithRows c.in-Ok.sealed c.from-rows.result w w2 = record {
      kinds = kept.kinds;
      layout = kept.layout;
      page_bytes = kept.page_bytes;
      open_heap = kept.open_heap;
      rows_are = kept.rows_are;
      long_is = kept.long_is;
      asked_is = kept.asked_is;
      items = kept.items ∙ ap (λ l. l ++ record { page = record { rows = c.in-Ok.sealed; heap0 = w.heap0; heap1 = w.heap1; heap2 = w.heap2; heap3 = w.heap3 }; rows = c.from-rows.result } ∷ []) c.reserve.ensures.items;
      heap0 = kept.heap0;
      heap1 = kept.heap1;
      heap2 = kept.heap2;
      heap3 = kept.heap3;
      sealed_heaps = kept.sealed_heaps;
      first_heap = kept.first_heap;
      low = kept.low;
    } in
    let some_row : 0 < row_count p.frame.bytes.items = subst (λ o. IfSome o (λ q. 0 < row_count q.frame.bytes.items)) is_rows c.requires.some in
    let none = c.keep_rows.ensures.still ∙ c.replace.ensures.after in
    let s = c.in-Ok.ensures in
    let current = subst (λ o. IfSome o (IsOpenRows w.layout w.page_bytes (used_heaps w) w.first_heap (heaps_now t w))) is_rows c.requires.writing.open_rows in
    let content : t.content c.in-Ok.sealed ≡ flat (Rows w.layout) p.frame.bytes.items = s.content ∙ ap (λ z. flat z p.frame.bytes.items) current.whole.kind_is in
    let kind : t.kind c.in-Ok.sealed ≡ Rows w.layout = s.kind ∙ current.whole.kind_is in
    let ch = changes_seal t p.frame.number c.in-Ok.sealed a b s.counted s.new s.steady s.lives s.pins in
    page_here t w w2 p c.in-Ok.sealed c.from-rows.result c.requires.sealed is_rows k none c.requires.writing content kind n_is some_row a b ch s.new.live s.new.unpinned c.requires.here

pub returns-in-Ok-clause-changes : goal.returns-in-Ok-clause-changes
returns-in-Ok-clause-changes g c =
    let t = g.P.Pages.terms in
    let w = c.args.writer.now in
    let p = c.in-Some.page in
    let a = g.P.Pages.view c.args.pages.now in
    let b = g.P.Pages.view c.seal.new.self in
    let w2 = c.keep_rows.new.writer in
    let is_rows : w.open_rows ≡ Some p = sym c.replace.ensures.value ∙ c.in-Some.is in
    let kept = c.keep_rows.ensures.kept in
    let n_is : c.from-rows.result ≡ row_count p.frame.bytes.items = search rules in
    let k : IsWithRows c.in-Ok.sealed c.from-rows.result w w2 = record {
      kinds = kept.kinds;
      layout = kept.layout;
      page_bytes = kept.page_bytes;
      open_heap = kept.open_heap;
      rows_are = kept.rows_are;
      long_is = kept.long_is;
      asked_is = kept.asked_is;
      items = kept.items ∙ ap (λ l. l ++ record { page = record { rows = c.in-Ok.sealed; heap0 = w.heap0; heap1 = w.heap1; heap2 = w.heap2; heap3 = w.heap3 }; rows = c.from-rows.result } ∷ []) c.reserve.ensures.items;
      heap0 = kept.heap0;
      heap1 = kept.heap1;
      heap2 = kept.heap2;
      heap3 = kept.heap3;
      sealed_heaps = kept.sealed_heaps;
      first_heap = kept.first_heap;
      low = kept.low;
    } in
    let some_row : 0 < row_count p.frame.bytes.items = subst (λ o. IfSome o (λ q. 0 < row_count q.frame.bytes.items)) is_rows c.requires.some in
    let none = c.keep_rows.ensures.still ∙ c.replace.ensures.after in
    let s = c.in-Ok.ensures in
    let current = subst (λ o. IfSome o (IsOpenRows w.layout w.page_bytes (used_heaps w) w.first_heap (heaps_now t w))) is_rows c.requires.writing.open_rows in
    let content : t.content c.in-Ok.sealed ≡ flat (Rows w.layout) p.frame.bytes.items = s.content ∙ ap (λ z. flat z p.frame.bytes.items) current.whole.kind_is in
    let kind : t.kind c.in-Ok.sealed ≡ Rows w.layout = s.kind ∙ current.whole.kind_is in
    let ch = changes_seal t p.frame.number c.in-Ok.sealed a b s.counted s.new s.steady s.lives s.pins in
    page_changes t w w2 p c.in-Ok.sealed c.from-rows.result c.requires.sealed is_rows k none c.requires.writing content kind n_is some_row a b ch s.new.live s.new.unpinned c.requires.here

pub returns-in-Err-clause-here : goal.returns-in-Err-clause-here
returns-in-Err-clause-here g c =
    let t = g.P.Pages.terms in
    let w = c.args.writer.now in
    let a = g.P.Pages.view c.args.pages.now in
    let b = g.P.Pages.view c.seal.new.self in
    let e : w.open_rows ≡ Some c.in-Err.page = sym c.replace.ensures.value ∙ c.in-Some.is ∙ ap Some (sym c.in-Err.ensures.back) in
    let same : record w { pages = c.reserve.new.self } ≡ record w { pages = c.reserve.new.self; open_rows = Some c.in-Err.page } = λ i. record w { pages = c.reserve.new.self; open_rows = e i } in
    let s = c.in-Err.ensures in
    let ch = changes_same t nothing a b s.refused s.steady s.lives s.pins in
    subst (IsWriterHere t b) same
    (here_pages t w (record w { pages = c.reserve.new.self }) b c.reserve.ensures.items
    (writer_stays t w nothing nothing a b ch nothing_has_no_pins nothing_has_no_pins
    (λ ends y. let m = c.requires.writing.differ ends y in omega (arith, m))
    (record { pins = λ y. let x = c.requires.here.owned.pins y in omega (arith, x); opens = λ y. let x = c.requires.here.owned.opens y in omega (arith, x) })
    c.requires.here))
