use Rattle.std.proofs.Common.{min, length, drop}
use Rattle.std.proofs.Math.ListN.{drop_of_length-le}
use Rattle.script_says.specs.Catalog.{most_counted}
use Rattle.paged_catalog.specs.Meaning.{sets_rows}
use Rattle.paged_catalog.proofs.Counted.{counts_end}
use Rattle.paged_catalog.proofs.counting.rows_of.Goals as goal

pub returns : goal.returns
returns g c =
    let t = g.P.Pages.terms in
    let l = c.loop-set in
    counts_end t l.rows (min (length (sets_rows t c.args.sets.now)) most_counted) most_counted (drop l.set-index c.args.sets.now) (drop_of_length-le c.args.sets.now c.loop-set-test.false) l.invariant.so_far l.invariant.few
