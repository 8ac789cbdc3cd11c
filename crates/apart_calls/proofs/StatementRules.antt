-- The statements of a script: in each core the calls stand apart, where no two of the script's tokens begin at one place.
use Rattle.std.proofs.Common.{ℕ, List, [], ◌∷◌, Option, Some, None, arith}
use Rattle.std.specs.List.{AllByRecursion}
use Rattle.sql_grammar.specs.Combinators.{optional}
use Rattle.sql_grammar.specs.Derives.{derives}
use Rattle.sql_grammar.specs.Lexeme.{Lexeme}
use Rattle.sql_grammar.specs.Nesting.{nested}
use Rattle.sql_grammar.specs.Selects.{select}
use Rattle.sql_grammar.specs.Statements as g
use Rattle.sql_grammar.specs.Verdict.{IsScript}
use Rattle.sql_grammar.specs.declared.tree.statement.Script.{Script}
use Rattle.sql_grammar.specs.declared.tree.statement.Statement.{Statement}
use Rattle.sql_grammar.specs.declared.tree.statement.Statement.TheVariants as t
use Rattle.formed_binding.specs.Placed.{StandApart, select_places}
use Rattle.apart_calls.proofs.Fits.{AtMostOnce, Places, none, starts}
use Rattle.apart_calls.proofs.Keeping.{Any, Each, Keeps, Told, Turns, Widens, anything, applied, behind, constant, each-of, of-wider, one-or}
use Rattle.apart_calls.proofs.NodeLemmas.{OfSelect}
use Rattle.apart_calls.proofs.SelectRules.{nested-keeps, select-keeps}

abbrev OfStatement : Told Statement
OfStatement statement n = AtMostOnce n → StandApart statement

abbrev OfOptional : Told (Option Statement)
OfOptional None n = Unit {0}
OfOptional (Some statement) n = OfStatement statement n

abbrev OfScript : Told Script
OfScript script n = AtMostOnce n → AllByRecursion StandApart script.statements

optional-wider : Widens OfOptional
optional-wider None n m in_m of = tt
optional-wider (Some statement) n m in_m of = λ few. of (λ place. omega (arith, in_m place, few place))

present-apart : (list : List (Option Statement)) (n : Places) → Each OfOptional list n → AtMostOnce n → AllByRecursion StandApart (g.present list)
present-apart [] n each few = tt
present-apart (None ∷ list) n each few = present-apart list each.1 each.3 (λ place. omega (arith, each.4 place, few place))
present-apart (Some statement ∷ list) n each few = (each.2 (λ place. omega (arith, each.4 place, few place)), present-apart list each.1 each.3 (λ place. omega (arith, each.4 place, few place)))

script-told : Turns OfOptional (Turns (Each OfOptional) OfScript) (λ first others. record { statements = g.present (first ∷ others) }) none
script-told first i j of room others m k also more few = present-apart (first ∷ others) k (i, m, of, also, λ place. omega (arith, room place, more place)) few

explain-told : Turns OfSelect OfStatement t.Explain none
explain-told query i j of room few = of.separate (λ place. omega (arith, room place, few place))

select-told : Turns OfSelect OfStatement t.Select none
select-told query i j of room few = of.separate (λ place. omega (arith, room place, few place))

module _ (depth : ℕ) where
  create-keeps : Keeps (derives (nested depth) g.create) OfStatement
  unfolding g.create
  create-keeps = applied Any OfStatement
      (applied Any (Turns Any OfStatement) (constant (Turns Any (Turns Any OfStatement)) (λ name columns. t.CreateTable name columns) (λ name i j _ room columns m k _ more few. tt)) (anything _))
      (anything _)

  drop-keeps : Keeps (derives (nested depth) g.drop) OfStatement
  unfolding g.drop
  drop-keeps = applied Any OfStatement (constant (Turns Any OfStatement) t.DropTable (λ name i j _ room few. tt)) (anything _)

  copy-keeps : Keeps (derives (nested depth) g.copy) OfStatement
  unfolding g.copy
  copy-keeps = applied Any OfStatement
      (applied Any (Turns Any OfStatement)
      (applied Any (Turns Any (Turns Any OfStatement)) (constant (Turns Any (Turns Any (Turns Any OfStatement))) (λ name file options. t.Copy name file options) (λ name i j _ room file m k _ more options p q _ also few. tt)) (anything _))
      (anything _))
      (anything _)

  whole-select : Keeps (derives (nested depth) select) OfSelect
  whole-select = select-keeps (nested depth) (nested-keeps depth)

  statement-keeps : Keeps (derives (nested depth) g.statement) OfStatement
  unfolding g.statement
  statement-keeps = one-or OfStatement create-keeps (one-or OfStatement drop-keeps (one-or OfStatement copy-keeps (one-or OfStatement
      (applied OfSelect OfStatement (constant (Turns OfSelect OfStatement) t.Explain explain-told) (behind OfSelect (of-wider select_places) whole-select))
      (applied OfSelect OfStatement (constant (Turns OfSelect OfStatement) t.Select select-told) whole-select))))

  optional-told : Turns OfStatement OfOptional Some none
  optional-told statement i j of room few = of (λ place. omega (arith, room place, few place))

  optional-keeps : Keeps (derives (nested depth) (optional g.statement)) OfOptional
  optional-keeps = one-or OfOptional (applied OfStatement OfOptional (constant (Turns OfStatement OfOptional) Some optional-told) statement-keeps) (constant OfOptional None tt)

  script-keeps : Keeps (derives (nested depth) g.script) OfScript
  unfolding g.script
  script-keeps = applied (Each OfOptional) OfScript
      (applied OfOptional (Turns (Each OfOptional) OfScript) (constant (Turns OfOptional (Turns (Each OfOptional) OfScript)) (λ first others. record { statements = g.present (first ∷ others) }) script-told) optional-keeps)
      (each-of OfOptional (behind OfOptional optional-wider optional-keeps))

pub script-apart : (depth : ℕ) (script : Script) (w : List Lexeme) → IsScript depth script w → AtMostOnce (starts w) → AllByRecursion StandApart script.statements
script-apart depth script w is = script-keeps depth script w is
