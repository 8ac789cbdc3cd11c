-- The constants that literals stand for.
use Rattle.std.specs.Prelude.{ℕ, ℤ, pos, negsuc, Bool, true, false, nat_le, List, length, Option, Some, None, Ok}
use Rattle.ooc_types.specs.declared.schema.SqlType.TheVariants.{Boolean, Decimal, Date, Varchar}
use Rattle.ooc_types.specs.declared.value.Value.TheVariants as value
use Rattle.ooc_types.specs.declared.refusal.RefusalKind.TheVariants.{BadToken, TextTooLong, BadDate}
use Rattle.sql_expr.specs.declared.tree.Expr.{Expr as Tree}
use Rattle.sql_expr.specs.declared.tree.Expr.TheVariants as typed
use Rattle.sql_expr.specs.Typing.{integer_type}
use Rattle.sql_lex.specs.declared.values.DecimalValue.{DecimalValue}
use Rattle.sql_lex.specs.Values.{integer_value, decimal_value, unquoted}
use Rattle.sql_grammar.specs.declared.tree.expr.Span.{Span}
use Rattle.sql_grammar.specs.declared.tree.expr.Literal.{Literal}
use Rattle.sql_grammar.specs.declared.tree.expr.Literal.TheVariants as literals
use Rattle.sql_scope.specs.Answer.{Answer, refuse, unless, ◌>>=◌}
use Rattle.sql_scope.specs.Texts.{text_at}
use Rattle.sql_scope.specs.Dates.{day_of}
use Rattle.sql_scope.specs.Scopes.{View}

-- The lexer has refused what is no number, so BadToken doesn't come here.
abbrev pub integer_literal : ℕ → Option ℤ → Answer Tree
integer_literal place None = refuse place BadToken
integer_literal place (Some (negsuc n)) = refuse place BadToken
integer_literal place (Some (pos n)) = Ok (typed.Constant (value.Number (pos n) 0) (integer_type n))

abbrev pub decimal_literal : ℕ → Option DecimalValue → Answer Tree
decimal_literal place None = refuse place BadToken
decimal_literal place (Some d) = Ok (typed.Constant (value.Number d.digits d.scale) (Decimal d.width d.scale))

abbrev pub limited : ℕ → ℕ → List ℕ → Answer (List ℕ)
limited limit place text = unless (nat_le (length text) limit) place TextTooLong text

-- a text without its quotes, within the limit
abbrev pub text_literal : View → Span → Answer (List ℕ)
text_literal view span = limited view.limit span.start (unquoted (text_at view.script span))

abbrev pub a_text : View → Span → Answer Tree
a_text view span = text_literal view span >>= (λ text. Ok (typed.Constant (value.Text text) Varchar))

abbrev pub a_truth : Bool → Tree
a_truth truth = typed.Constant (value.Truth truth) Boolean

abbrev pub date_literal : ℕ → Option ℤ → Answer Tree
date_literal place None = refuse place BadDate
date_literal place (Some day) = Ok (typed.Constant (value.Day day) Date)

abbrev pub literal : View → Literal → Answer Tree
literal view (literals.Integer span) = integer_literal span.start (integer_value (text_at view.script span))
literal view (literals.Decimal span) = decimal_literal span.start (decimal_value (text_at view.script span))
literal view (literals.Text span) = a_text view span
literal view (literals.True span) = Ok (a_truth true)
literal view (literals.False span) = Ok (a_truth false)
literal view (literals.Date span) = date_literal span.start (day_of (unquoted (text_at view.script span)))
