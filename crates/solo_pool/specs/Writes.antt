-- How the pages, the pages sealed and the writes are tied, while the counts stay below their end.
use Rattle.std.specs.Prelude.{ℕ, ◌+◌, ◌-◌, ◌^◌, ◌<◌, ◌≤◌, List}
use Rattle.std.specs.List.{sum_by}
use Rattle.solo_pool.specs.declared.entry.Entry.{Entry}
use Rattle.solo_pool.specs.Weights.{ticketed, unwritten}

abbrev pub ticket_in : Entry → ℕ
ticket_in e = ticketed e.body

abbrev pub unwritten_in : Entry → ℕ
unwritten_in e = unwritten e.body

-- each ticket cost a write, and each page is written once
pub record Paid (entries : List Entry) (sealed wrote : ℕ) : Type 0 where
  pub most : wrote ≤ 2 ^ 64 - 1
  pub tickets : wrote < 2 ^ 64 - 1 → sum_by ticket_in entries ≤ wrote
  pub once : sealed < 2 ^ 64 - 1 → wrote + sum_by unwritten_in entries ≤ sealed
