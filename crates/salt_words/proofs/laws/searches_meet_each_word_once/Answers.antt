use Rattle.salt_words.proofs.Tables.{search_bag}
use Rattle.salt_words.proofs.laws.searches_meet_each_word_once.Goals as goal

pub returns : goal.returns
returns c = λ words pointers good first table apart none begin test. search_bag words pointers table good first apart none begin test
