use Rattle.std.proofs.Common.{◌≡◌, length}
use Rattle.row_image.proofs.tests.long_texts_lie_on_the_heap_page_of_their_part.Given as goal

abbrev pub invariant-loop-place : goal.invariant-loop-place
invariant-loop-place g l = length l.unheaped ≡ 4096
