use Rattle.std.proofs.Common.{◌≡◌, take}
use Rattle.sql_expr.proofs.equality.+same.Given as goal

abbrev pub invariant-same_links-loop-i : goal.invariant-same_links-loop-i
invariant-same_links-loop-i l = take l.i l.left ≡ take l.i l.right

abbrev pub invariant-same_list-loop-i : goal.invariant-same_list-loop-i
invariant-same_list-loop-i l = take l.i l.left ≡ take l.i l.right
