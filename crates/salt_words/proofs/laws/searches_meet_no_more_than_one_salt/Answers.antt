use Rattle.salt_words.proofs.Tables.{search_steps}
use Rattle.salt_words.proofs.laws.searches_meet_no_more_than_one_salt.Goals as goal

pub returns : goal.returns
returns c = λ words pointers salt first table. search_steps words pointers table salt first
