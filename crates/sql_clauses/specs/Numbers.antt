-- Numbers of the script.
use Rattle.std.specs.Prelude.{ℕ, ℤ, pos, negsuc, Option, Some, None, Ok}
use Rattle.ooc_types.specs.declared.refusal.RefusalKind.TheVariants.{BadToken}
use Rattle.sql_lex.specs.Values.{integer_value}
use Rattle.sql_grammar.specs.declared.tree.expr.Span.{Span}
use Rattle.sql_scope.specs.Answer.{Answer, refuse, ◌>>=◌}
use Rattle.sql_scope.specs.Texts.{text_at}
use Rattle.sql_scope.specs.Scopes.{View}

-- The lexer has refused what is no number, so BadToken doesn't come here.
abbrev pub whole_number : ℕ → Option ℤ → Answer ℕ
whole_number place None = refuse place BadToken
whole_number place (Some (negsuc n)) = refuse place BadToken
whole_number place (Some (pos n)) = Ok n

-- the number that a token writes
abbrev pub number_at : View → Span → Answer ℕ
number_at view span = whole_number span.start (integer_value (text_at view.script span))

abbrev pub some_number : ℕ → Answer (Option ℕ)
some_number n = Ok (Some n)

-- the number behind LIMIT or OFFSET, where it is written
abbrev pub written_number : View → Option Span → Answer (Option ℕ)
written_number view None = Ok None
written_number view (Some span) = number_at view span >>= some_number
