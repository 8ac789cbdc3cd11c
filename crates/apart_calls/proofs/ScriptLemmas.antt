-- The statements of a script's bytes.
use Rattle.std.proofs.Common.{◌≡◌, ℕ, Bool, true, false, List, length, Ok, Err, refl}
use Rattle.std.specs.Prelude.{Result, nat_lt}
use Rattle.std.specs.List.{AllByRecursion}
use Rattle.sql_lex.specs.declared.token.Token.{Token}
use Rattle.sql_lex.specs.Lexed.{lexed}
use Rattle.sql_grammar.specs.Lexemes.{lexemes}
use Rattle.sql_grammar.specs.Verdict.{limit}
use Rattle.sql_grammar.specs.declared.tree.statement.Script.{Script}
use Rattle.formed_binding.specs.Placed.{StandApart}
use Rattle.script_opening.specs.Limits.{most_script}
use Rattle.script_opening.specs.Trees.{IsLexedTree, IsSizedTree, IsTreeOf}
use Rattle.apart_calls.proofs.StatementRules.{script-apart}
use Rattle.apart_calls.proofs.TokenLemmas.{tokens-apart}

lexed-apart : (bytes : List ℕ) (script : Script) (found : Result (List Token) ℕ) → lexed bytes ≡ found → IsLexedTree bytes found (Ok script) → AllByRecursion StandApart script.statements
lexed-apart bytes script (Err place) is tree = cc
lexed-apart bytes script (Ok tokens) is tree = script-apart limit script (lexemes bytes tokens) tree (tokens-apart bytes tokens is)

sized-apart : (long : Bool) (bytes : List ℕ) (script : Script) → IsSizedTree long bytes (Ok script) → AllByRecursion StandApart script.statements
sized-apart true bytes script tree = cc
sized-apart false bytes script tree = lexed-apart bytes script (lexed bytes) refl tree

pub tree-apart : (bytes : List ℕ) (script : Script) → IsTreeOf bytes (Ok script) → AllByRecursion StandApart script.statements
tree-apart bytes script tree = sized-apart (nat_lt most_script (length bytes)) bytes script tree
