use Rattle.page_body.specs.MemView.{mem_view}
use Rattle.page_body.specs.Keeps.{Kept}
use Rattle.rebase_pins.proofs.tests.fill_frames.Given as goal

abbrev pub invariant-loop : goal.invariant-loop
invariant-loop l = Kept (mem_view l.fn.pages) (mem_view l.pages)
