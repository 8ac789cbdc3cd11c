-- Conjuncts whose subqueries were answered, as the meaning has them.
use Rattle.std.specs.Prelude.{Bool, false, List, [], map, Some}
use Rattle.ooc_types.specs.declared.value.Value.{Value}
use Rattle.sql_expr.specs.declared.fault.ValueFault.{ValueFault}
use Rattle.sql_expr.specs.declared.tree.Expr.{Expr}
use Rattle.sql_expr.specs.Meaning.{value_of}
use Rattle.sql_meaning.specs.Found.{Found, Row}
use Rattle.sql_meaning.specs.Ordered.{value_at}
use Rattle.sql_meaning.specs.Statements.{Meant, member_says, membership}
use Rattle.plain_rows.specs.Tests.{Parts, parts_of, condition_by}
use Rattle.plain_cores.specs.declared.known.Known.{Known}
use Rattle.plain_cores.specs.declared.known.Known.TheVariants as of

abbrev pub known_parts : Known → Parts
known_parts (of.Condition expr) = parts_of expr.now
known_parts (of.Member expr values negated faults) = record { of = expr.now; among = Some (record { values = values.items; negated = negated }) }

-- the faults of its subquery
abbrev pub faults_in : Known → List ValueFault
faults_in (of.Condition expr) = []
faults_in (of.Member expr values negated faults) = faults.items

abbrev pub meant_in : Known → Meant
meant_in known = record { condition = condition_by (known_parts known); faults = faults_in known }

-- IN with what its subquery means
abbrev pub member_meant : Bool → Found Row → Expr → Meant
member_meant negated found expr = record { condition = membership negated found expr; faults = found.faults }

-- IN with these values, and the faults of its subquery
abbrev pub member_of_values : Bool → List Value → Expr → List ValueFault → Meant
member_of_values negated values expr faults = record { condition = record { plain = false; says = λ row. member_says negated values (value_of row expr) }; faults = faults }

-- what IN is made of, with the rows that its subquery gave
abbrev pub member_parts : Bool → List Row → Expr → Parts
member_parts negated rows expr = record { of = expr; among = Some (record { values = map (value_at 0) rows; negated = negated }) }
