use Rattle.row_sets.specs.Holds.{nothing}
use Rattle.row_sets.specs.Changes.{Changes}
use Rattle.row_figures.proofs.work.write_often.Given as goal

abbrev pub invariant-loop-round : goal.invariant-loop-round
invariant-loop-round g l = Changes g.P.Pages.terms nothing nothing (g.P.Pages.view l.initial.pages) (g.P.Pages.view l.pages)
