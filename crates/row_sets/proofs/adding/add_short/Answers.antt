use Rattle.std.proofs.Common.{map, refl, sym, ap, arith}
use Rattle.std.proofs.Math.Nat.{max-eq_left}
use Rattle.row_image.specs.Rules.{text_limit}
use Rattle.rebase_pins.specs.Seen.{value_read}
use Rattle.row_sets.specs.Packed.{rows_in}
use Rattle.row_sets.proofs.RowPuts.{columns_few}
use Rattle.row_sets.proofs.AddedWriter.{short_cells, short_writing}
use Rattle.row_sets.proofs.adding.add_short.Goals as goal

pub put_short-requires-clause-few : goal.put_short-requires-clause-few
put_short-requires-clause-few g c = columns_few c.args.writer.now.kinds c.args.writer.now.layout (text_limit c.args.writer.now.page_bytes) c.args.row.now c.requires.writing.columns c.requires.fits

pub returns-clause-rows : goal.returns-clause-rows
returns-clause-rows g c = short_cells g.P.Pages.terms c.args.writer.now c.requires.writing c.in-Some.rows c.put_short.new.rows (map value_read c.args.row.now) c.args.hash c.in-Some.is c.requires.room c.requires.fits c.requires.short c.put_short.ensures.page c.put_short.ensures.row

pub returns-clause-writing : goal.returns-clause-writing
returns-clause-writing g c = short_writing g.P.Pages.terms c.args.writer.now c.requires.writing c.in-Some.rows c.put_short.new.rows (map value_read c.args.row.now) c.args.hash c.in-Some.is c.requires.room c.requires.fits c.requires.short c.put_short.ensures.page c.put_short.ensures.row

pub returns-clause-fill : goal.returns-clause-fill
returns-clause-fill g c = record {
  fit = refl;
  room = refl;
  done = refl;
  rows = let e = ap rows_in c.in-Some.is in let n = c.put_short.ensures.row.count in omega (arith, e, n);
  sealed = refl;
  used = omega arith;
  long = omega arith;
  asked = sym (max-eq_left c.requires.added);
}
