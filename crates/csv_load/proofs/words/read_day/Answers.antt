use Rattle.csv_load.proofs.Days.{day_is}
use Rattle.csv_load.proofs.words.read_day.Goals as goal

pub returns : goal.returns
returns c = day_is c.args.bytes.now c.read_date.result c.read_date.ensures.some c.read_date.ensures.none
