use Rattle.std.proofs.Common.{◌≡◌, ◌++◌, ◌-◌, ◌≤◌, length, drop}
use Rattle.sql_lex.specs.Quotes.{undoubled}
use Rattle.sql_lex.proofs.values.unquoted.Given as goal

-- the bytes so far, with those of what is left, are all
abbrev pub invariant-loop-at : goal.invariant-loop-at
invariant-loop-at l = (l.at ≤ length l.inside) × (l.bytes.items ++ undoubled l.quote (drop l.at l.inside) ≡ undoubled l.quote l.inside)

abbrev pub decreases-loop-at : goal.decreases-loop-at
decreases-loop-at l = length l.inside - l.at
