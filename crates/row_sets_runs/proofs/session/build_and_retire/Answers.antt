use Rattle.row_sets.specs.Holds.{nothing}
use Rattle.row_sets.specs.Sets.{set_holding}
use Rattle.row_sets.proofs.Changed.{changes_then}
use Rattle.row_sets_runs.proofs.session.build_and_retire.Goals as goal

pub returns : goal.returns
returns g c = record {
  changes =
      let t = g.P.Pages.terms in
      changes_then t nothing (set_holding t c.in_ok-set.set) nothing (g.P.Pages.view c.args.pages.now) (g.P.Pages.view c.build.new.pages) (g.P.Pages.view c.retire_set.new.pages) c.in_ok-set.ensures.changes c.retire_set.ensures;
}
