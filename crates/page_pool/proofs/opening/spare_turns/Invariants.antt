use Rattle.std.proofs.Common.{◌≡◌, ◌+◌, length}
use Rattle.page_pool.specs.Opening.{AreSpare}
use Rattle.page_pool.proofs.opening.spare_turns.Given as goal

abbrev pub invariant-loop-number : goal.invariant-loop-number
invariant-loop-number g l = record {
  book : l.book.total ≡ l.number;
  parts : l.rest.parts + l.number ≡ l.fn.frames;
  amount : l.rest.amount ≡ 0;
  count : length l.turns.items ≡ l.number;
  home : AreSpare l.fn.page l.number l.turns.items;
}
