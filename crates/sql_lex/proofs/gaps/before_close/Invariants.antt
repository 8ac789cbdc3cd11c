use Rattle.std.proofs.Common.{◌≡◌, ◌+◌, drop}
use Rattle.std.specs.Option.{option_map}
use Rattle.sql_lex.specs.Gaps.{before_close}
use Rattle.sql_lex.proofs.gaps.before_close.Given as goal

-- what is left gives the whole, moved on
abbrev pub invariant-loop-at : goal.invariant-loop-at
invariant-loop-at l = before_close l.text ≡ option_map (λ n. n + l.at) (before_close (drop l.at l.text))
