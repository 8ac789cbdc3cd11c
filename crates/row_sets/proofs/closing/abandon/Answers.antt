use Rattle.row_sets.specs.Packed.{Packs}
use Rattle.row_sets.proofs.Fills.{written}
use Rattle.row_sets.proofs.closing.abandon.Goals as goal

pub give_up-requires-clause-writing : goal.give_up-requires-clause-writing
give_up-requires-clause-writing g c = written (Packs c.args.writer) g.P.Pages.terms c.args.writer c.requires.writing
