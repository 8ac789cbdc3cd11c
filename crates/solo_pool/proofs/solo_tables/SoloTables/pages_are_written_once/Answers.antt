use Rattle.solo_pool.specs.SpillLaws.{wrote_most}
use Rattle.solo_pool.proofs.solo_tables.SoloTables.pages_are_written_once.Goals as goal

pub returns : goal.returns
returns g c = wrote_most c.args.self.now
