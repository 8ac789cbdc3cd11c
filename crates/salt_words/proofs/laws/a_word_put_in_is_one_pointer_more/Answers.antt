use Rattle.salt_words.proofs.Tables.{put_adds, put_apart}
use Rattle.salt_words.proofs.laws.a_word_put_in_is_one_pointer_more.Goals as goal

pub returns-clause-table : goal.returns-clause-table
returns-clause-table c = put_adds

pub returns-clause-apart : goal.returns-clause-apart
returns-clause-apart c = put_apart
