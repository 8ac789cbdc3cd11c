use Rattle.row_sets.specs.Holds.{nothing}
use Rattle.row_sets.specs.Sets.{set_holding}
use Rattle.row_sets.proofs.Changed.{changes_kept, changes_then}
use Rattle.row_sets_runs.proofs.Rests.{alone, here_on, as_changes}
use Rattle.csv_table_runs.proofs.session.load_readable.Goals as goal

pub put_set-read-requires-clause-alone : goal.put_set-read-requires-clause-alone
put_set-read-requires-clause-alone g c = alone g.P.Pages.terms c.in_ok-set.set (g.P.Pages.view c.load_csv.new.pages) c.in_ok-set.ensures.unpinned

pub retire_set-requires-clause-here : goal.retire_set-requires-clause-here
retire_set-requires-clause-here g c =
    let t = g.P.Pages.terms in
    let a = g.P.Pages.view c.load_csv.new.pages in
    let b = g.P.Pages.view c.put_set-read.new.pages in
    here_on t c.in_ok-set.set a b (as_changes t a b c.put_set-read.ensures.kept) c.in_ok-set.ensures.formed c.in_ok-set.ensures.here
