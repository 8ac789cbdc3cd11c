-- Statements whose SELECT can be planned.
use Rattle.std.specs.Prelude.{⊤}
use Rattle.bound_tree.specs.declared.statement.Bound.{Bound}
use Rattle.bound_tree.specs.declared.statement.Bound.TheVariants as bound
use Rattle.sql_plan.specs.Numbered.{AreNumbered}

-- each FROM of its SELECT, if it has one, has columns that have numbers of 32 bits
abbrev pub IsNumberedStatement : Bound → Type 0
IsNumberedStatement (bound.CreateTable name columns) = ⊤
IsNumberedStatement (bound.DropTable name) = ⊤
IsNumberedStatement (bound.Copy name file header delimiter null) = ⊤
IsNumberedStatement (bound.Explain select) = AreNumbered select
IsNumberedStatement (bound.Select select) = AreNumbered select
