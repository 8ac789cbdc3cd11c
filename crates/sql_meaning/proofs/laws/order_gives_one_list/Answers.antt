use Rattle.sql_meaning.proofs.Selecting.{cut-same}
use Rattle.sql_meaning.proofs.laws.order_gives_one_list.Goals as goal

pub returns : goal.returns
returns c = cut-same
