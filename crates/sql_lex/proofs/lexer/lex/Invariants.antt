use Rattle.std.proofs.Common.{◌≡◌, ◌-◌, ◌≤◌, length, drop}
use Rattle.sql_lex.specs.Lexed.{tokens_from}
use Rattle.sql_lex.proofs.LexedLemmas.{all_before}
use Rattle.sql_lex.proofs.lexer.lex.Given as goal

-- the tokens so far, with those of what is left, are all
abbrev pub invariant-loop-at : goal.invariant-loop-at
invariant-loop-at l = record {
  within : l.at ≤ length l.script;
  so_far : all_before l.list.items (tokens_from l.at 0 (drop l.at l.script)) ≡ tokens_from 0 0 l.script;
}

abbrev pub decreases-loop-at : goal.decreases-loop-at
decreases-loop-at l = length l.script - l.at
