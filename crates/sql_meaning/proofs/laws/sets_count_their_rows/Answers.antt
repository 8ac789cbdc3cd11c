use Rattle.sql_meaning.proofs.SetLemmas.{combined-SameBag, member-SameBag}
use Rattle.sql_meaning.proofs.SetCounts.{combined-count}
use Rattle.sql_meaning.proofs.laws.sets_count_their_rows.Goals as goal

pub returns : goal.returns
returns c = record { count = combined-count; order = combined-SameBag; member = member-SameBag }
