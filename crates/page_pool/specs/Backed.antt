-- A share of the ledger stands beside each frame.
use Rattle.std.specs.Prelude.{Option, is_some, ◌≡◌}
use Rattle.page_body.specs.declared.body.PageBody.{PageBody}
use Rattle.page_body.specs.Bodies.{frame_of}

-- there is a share exactly where the body has a frame
abbrev pub IsBacked : {A : Type 0} → PageBody → Option A → Type 0
IsBacked body share = is_some share ≡ is_some (frame_of body)
