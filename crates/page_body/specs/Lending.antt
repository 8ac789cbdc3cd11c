-- An open page whose bytes are lent.
use Rattle.std.specs.Prelude.{ℕ, List}
use Rattle.std.specs.Borrow.{Lends, MutBor, Fml, u8, Array}
use Rattle.evict_ring.specs.Lending.{frame_with}
use Rattle.page_body.specs.declared.open.OpenPage.{OpenPage}
use Rattle.page_body.specs.contracts.open.OpenPage.{the_row}

-- the open page with other bytes
abbrev pub page_with : OpenPage → List ℕ → OpenPage
page_with p bytes = record p { frame = frame_with p.frame bytes }

-- what is written to the bytes that an open page lends is what its frame has afterwards
abbrev pub LendsPage : MutBor OpenPage → MutBor (List ℕ) → Fml
LendsPage p r = Lends the_row (Array u8 0) p r (page_with p.now)
