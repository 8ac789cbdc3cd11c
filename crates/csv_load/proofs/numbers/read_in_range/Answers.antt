use Rattle.csv_load.proofs.Ranges.{number_is}
use Rattle.csv_load.proofs.numbers.read_in_range.Goals as goal

pub returns : goal.returns
returns c = number_is c.args.kind c.requires c.args.field.now c.read_number.result c.read_number.ensures
