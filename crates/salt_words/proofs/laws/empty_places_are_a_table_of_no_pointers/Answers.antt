use Rattle.salt_words.proofs.Tables.{empty_table}
use Rattle.salt_words.proofs.laws.empty_places_are_a_table_of_no_pointers.Goals as goal

pub returns : goal.returns
returns c = empty_table
