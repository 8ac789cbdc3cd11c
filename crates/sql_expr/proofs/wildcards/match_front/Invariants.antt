use Rattle.std.proofs.Common.{◌≡◌, ◌≤◌, length}
use Rattle.sql_expr.specs.Characters.{characters}
use Rattle.sql_expr.specs.Segments.{left_over}
use Rattle.sql_expr.proofs.wildcards.match_front.Given as goal

abbrev pub invariant-loop-sign : goal.invariant-loop-sign
invariant-loop-sign l = record {
  left : left_over (characters l.signs) (characters l.rest) ≡ left_over (characters l.pattern) (characters l.text);
  shorter_rest : length l.rest ≤ length l.text;
  shorter_signs : length l.signs ≤ length l.pattern;
}

abbrev pub decreases-loop-sign : goal.decreases-loop-sign
decreases-loop-sign l = length l.signs
