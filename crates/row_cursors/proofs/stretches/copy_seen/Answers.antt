use Rattle.std.proofs.Common.{sym, arith, rules}
use Rattle.rebase_pins.specs.Seen.{rows_seen}
use Rattle.row_sets.specs.Writers.{written_cells}
use Rattle.row_cursors.specs.RowCursors.{no_row}
use Rattle.row_cursors.proofs.Copied.{one_more}
use Rattle.row_cursors.proofs.SeenRows.{row_seen}
use Rattle.row_cursors.proofs.Held.{place_then}
use Rattle.row_cursors.proofs.stretches.copy_seen.Goals as goal

pub loop-row-preserved : goal.loop-row-preserved
loop-row-preserved g c =
    let t = g.P.Pages.terms in
    let view = c.args.view.now in
    let k = c.loop-row.row in
    let i = c.loop-row.invariant in
    let low = i.low in
    let wrote = c.try_append.ensures.rows (search rules) in
    let row = row_seen view k c.hash.result _ (search rules) c.hash.ensures c.read_row.ensures.values in
    record {
      long = search rules;
      low = omega (arith, low);
      rows = one_more (written_cells t c.args.writer.now) (written_cells t c.loop-row.writer) (written_cells t c.try_append.new.writer) (rows_seen view) c.args.from k _ no_row low (search rules) i.rows wrote (sym row);
      writing = c.try_append.ensures.writing;
      place = place_then t c.args.writer.now c.loop-row.writer c.try_append.new.writer i.place c.try_append.ensures.place;
      room = λ e. absurd (omega (arith, low, e));
    }
