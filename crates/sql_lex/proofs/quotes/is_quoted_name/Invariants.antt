use Rattle.std.proofs.Common.{◌≡◌, ◌+◌, ◌-◌, ◌≤◌, length, drop, nat_le}
use Rattle.std.specs.List.{list_all}
use Rattle.sql_lex.specs.Quotes.{undoubled}
use Rattle.sql_lex.proofs.quotes.is_quoted_name.Given as goal

-- the bytes so far are counted, and none of them is below 32
abbrev pub invariant-loop-at : goal.invariant-loop-at
invariant-loop-at l = record {
  within : l.at ≤ length l.inside;
  few : l.count ≤ l.at;
  counted : length (undoubled 34 l.inside) ≡ l.count + length (undoubled 34 (drop l.at l.inside));
  passed : list_all (λ c. nat_le 32 c) (undoubled 34 l.inside) ≡ list_all (λ c. nat_le 32 c) (undoubled 34 (drop l.at l.inside));
}

abbrev pub decreases-loop-at : goal.decreases-loop-at
decreases-loop-at l = length l.inside - l.at
