use Rattle.std.proofs.Common.{◌≡◌, ◌+◌, ◌-◌, ◌≤◌, length, drop}
use Rattle.std.specs.Option.{option_map}
use Rattle.sql_lex.specs.Quotes.{to_closing}
use Rattle.sql_lex.proofs.quotes.to_closing.Given as goal

-- what is left gives the whole, moved on
abbrev pub invariant-loop-at : goal.invariant-loop-at
invariant-loop-at l = (l.at ≤ length l.inside) × (to_closing l.quote l.inside ≡ option_map (λ n. n + l.at) (to_closing l.quote (drop l.at l.inside)))

abbrev pub decreases-loop-at : goal.decreases-loop-at
decreases-loop-at l = length l.inside - l.at
