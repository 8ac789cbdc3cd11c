-- An expression over the same columns at their places afterwards.
use Rattle.sql_expr.specs.declared.tree.Expr.{Expr}
use Rattle.sql_expr.specs.declared.tree.Link.{Link}
use Rattle.sql_meaning.specs.Moved.{moved, moved_link}
use Rattle.sql_plan.specs.declared.places.Places.{Places}
use Rattle.sql_plan.specs.declared.places.Places.TheVariants.{Kept, Moved}

abbrev pub moved_by : Places → Expr → Expr
moved_by Kept expr = expr
moved_by (Moved list) expr = moved list expr

abbrev pub link_moved_by : Places → Link → Link
link_moved_by Kept link = link
link_moved_by (Moved list) link = moved_link list link
