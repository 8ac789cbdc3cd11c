-- How a whole script is read.
use Rattle.std.specs.Prelude.{ℕ, [], ◌∷◌, Ok, Err}
use Rattle.sql_grammar.specs.declared.tree.statement.Script.{Script}
use Rattle.sql_grammar.specs.declared.fault.Fault.TheVariants.{Syntax}
use Rattle.sql_grammar.specs.Reading.{Parser, and_then, read}
use Rattle.sql_grammar.specs.Statements.{script}
use Rattle.sql_grammar.specs.Nesting.{readers}

-- nothing comes after it
abbrev pub ended : Script → Parser Script
ended s [] = Ok (s, [])
ended s (x ∷ w) = Err (Syntax, x ∷ w)

unfoldable pub whole : ℕ → Parser Script
whole depth w = and_then (read (readers depth) script w) ended
