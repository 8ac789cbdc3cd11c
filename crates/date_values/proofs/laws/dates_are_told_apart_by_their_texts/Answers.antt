use Rattle.date_values.proofs.Texts.{day_texts_same}
use Rattle.date_values.proofs.laws.dates_are_told_apart_by_their_texts.Goals as goal

pub returns : goal.returns
returns c = day_texts_same
