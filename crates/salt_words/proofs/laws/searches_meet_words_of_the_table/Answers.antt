use Rattle.salt_words.proofs.Tables.{met_word}
use Rattle.salt_words.proofs.laws.searches_meet_words_of_the_table.Goals as goal

pub returns : goal.returns
returns c = met_word
