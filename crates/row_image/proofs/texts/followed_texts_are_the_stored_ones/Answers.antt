use Rattle.row_image.proofs.Followed.{long_lies, text_followed}
use Rattle.row_image.proofs.texts.followed_texts_are_the_stored_ones.Goals as goal

pub returns : goal.returns
returns c kinds image row column prefix size address page accepted below inside cell =
    let on = long_lies kinds image row column prefix size address accepted page.least page.most below inside cell in
    (on.1, on.2, λ heap frame placed. text_followed kinds image heap row column prefix size address on.1 frame on.0 on.2 placed)
