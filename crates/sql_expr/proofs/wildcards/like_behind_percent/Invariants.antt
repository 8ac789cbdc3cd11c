use Rattle.std.proofs.Common.{◌≡◌, ◌+◌, length}
use Rattle.sql_expr.specs.Segments.{like_behind}
use Rattle.sql_expr.proofs.wildcards.like_behind_percent.Given as goal

abbrev pub invariant-search : goal.invariant-search
invariant-search l = like_behind l.signs l.rest ≡ like_behind l.pattern l.text

abbrev pub decreases-search : goal.decreases-search
decreases-search l = length l.rest + length l.signs
