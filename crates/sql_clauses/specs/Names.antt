-- Names and texts of the script.
use Rattle.std.specs.Prelude.{ℕ, List}
use Rattle.sql_lex.specs.Values.{unquoted}
use Rattle.sql_grammar.specs.declared.tree.expr.Span.{Span}
use Rattle.sql_scope.specs.Texts.{text_at, plain_name}
use Rattle.sql_scope.specs.Scopes.{View}

-- a name as it is written, without its quotes
abbrev pub name_of : View → Span → List ℕ
name_of view span = plain_name (text_at view.script span)

-- what a text literal stands for
abbrev pub text_of : View → Span → List ℕ
text_of view span = unquoted (text_at view.script span)
