-- Equality of typed trees, as a test. Two trees are equal where their codes are.
use Rattle.std.specs.Prelude.{Bool, true, false, ◌==◌, ◌&&◌}
use base.Stored.{Gv, gnil, gnum, gcons}
use Rattle.sql_expr.specs.declared.tree.Expr.{Expr}
use Rattle.sql_expr.specs.contracts.tree.Expr.{the_row}

abbrev pub same_code : Gv → Gv → Bool
same_code gnil gnil = true
same_code (gnum m) (gnum n) = m == n
same_code (gcons a b) (gcons c d) = same_code a c && same_code b d
same_code x y = false

unfoldable pub same : Expr → Expr → Bool
same a b = same_code (the_row.coded.code a) (the_row.coded.code b)
