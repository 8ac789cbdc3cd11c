-- The grammar of expressions.
use Rattle.std.specs.Prelude.{ℕ, List, [], ◌∷◌, Option, Some, None, Bool}
use Rattle.sql_lex.specs.declared.token.Word.TheVariants as w
use Rattle.sql_lex.specs.declared.token.Sign.TheVariants as s
use Rattle.sql_grammar.specs.declared.tree.expr.Span.{Span}
use Rattle.sql_grammar.specs.declared.tree.expr.Literal.{Literal}
use Rattle.sql_grammar.specs.declared.tree.expr.Literal.TheVariants as l
use Rattle.sql_grammar.specs.declared.tree.expr.Constant.{Constant}
use Rattle.sql_grammar.specs.declared.tree.expr.ColumnName.{ColumnName}
use Rattle.sql_grammar.specs.declared.tree.expr.ChainSign.{ChainSign}
use Rattle.sql_grammar.specs.declared.tree.expr.ChainSign.TheVariants as c
use Rattle.sql_grammar.specs.declared.tree.expr.CompareSign.{CompareSign}
use Rattle.sql_grammar.specs.declared.tree.expr.CompareSign.TheVariants as o
use Rattle.sql_grammar.specs.declared.tree.expr.Argument.{Argument}
use Rattle.sql_grammar.specs.declared.tree.expr.Argument.TheVariants as a
use Rattle.sql_grammar.specs.declared.tree.expr.Link.{Link}
use Rattle.sql_grammar.specs.declared.tree.expr.Operand.{Operand}
use Rattle.sql_grammar.specs.declared.tree.expr.Expr.{Expr}
use Rattle.sql_grammar.specs.declared.tree.expr.Expr.TheVariants as e
use Rattle.sql_grammar.specs.Form.{Form, empty, one, many, nest, an_expr, a_neg, a_unary, an_argument, a_select}
use Rattle.sql_grammar.specs.Classes.{word_class, sign_class, query_class, opens, other_names, date_class, text_class, integer_class, decimal_class}
use Rattle.sql_grammar.specs.Combinators.{span_of, ◌<$>◌, ◌<*>◌, ◌<*◌, ◌>>◌, ◌or◌, token, word, sign, name, text, optional, has, list}

-- ---- nodes of several operands: one operand alone is itself

abbrev pub chain_of : Expr → List Link → Expr
chain_of first [] = first
chain_of first (link ∷ links) = e.Chain first (link ∷ links)

abbrev pub every_of : Expr → List Operand → Expr
every_of first [] = first
every_of first (operand ∷ others) = e.Every first (operand ∷ others)

abbrev pub either_of : Expr → List Operand → Expr
either_of first [] = first
either_of first (operand ∷ others) = e.Either first (operand ∷ others)

-- a part, and what is made of it
abbrev pub follows : {A B : Type 0} → A → (A → B) → B
follows a f = f a

abbrev pub column_of : Span → Option Span → ColumnName
column_of first None = record { source = None; name = first }
column_of first (Some second) = record { source = Some first; name = second }

-- ---- the rules

-- int | decimal | text | TRUE | FALSE, the literals of one token
unfoldable pub plain_literal : Form Literal
plain_literal = token integer_class (λ x. l.Integer (span_of x)) or token decimal_class (λ x. l.Decimal (span_of x)) or token text_class (λ x. l.Text (span_of x))
    or token (word_class w.True) (λ x. l.True (span_of x)) or token (word_class w.False) (λ x. l.False (span_of x))

-- DATE text
unfoldable pub date : Form Literal
date = l.Date <$> token date_class span_of >> text

-- literal = int | decimal | text | TRUE | FALSE | DATE text
unfoldable pub literal : Form Literal
literal = date or plain_literal

-- const = [ "-" ] literal
unfoldable pub constant : Form Constant
constant = (λ minus literal. record { minus = minus; literal = literal }) <$> optional (sign s.Minus) <*> literal

-- name | name "." name
unfoldable pub column_name : Form ColumnName
column_name = column_of <$> name <*> optional (sign s.Dot >> name)

-- "(" ( "*" | [ DISTINCT ] expr ) ")", behind a function's name
abbrev pub called : Form (Span → Expr)
called = nest opens an_argument (λ _ argument name. e.Call name argument) <* sign s.RightParenthesis

-- [ "." name ], behind the name of a column or of its source
abbrev pub column_end : Form (Span → Expr)
column_end = ((λ second first. e.Column (record { source = Some first; name = second })) <$> (sign s.Dot >> name))
    or empty (λ first. e.Column (record { source = None; name = first }))

-- [ "." name | "(" ( "*" | [ DISTINCT ] expr ) ")" ], behind a name
unfoldable pub name_end : Form (Span → Expr)
name_end = called or column_end

-- name | name "." name | name "(" ( "*" | [ DISTINCT ] expr ) ")", where the name isn't DATE
unfoldable pub named : Form Expr
named = follows <$> one other_names span_of <*> name_end

-- text, behind DATE
abbrev pub date_end : Form (Span → Expr)
date_end = (λ text _. e.Literal (l.Date text)) <$> text

-- DATE text, or what begins with the name DATE
unfoldable pub dated : Form Expr
dated = follows <$> token date_class span_of <*> (date_end or name_end)

-- "(" expr ")"
unfoldable pub group : Form Expr
group = nest opens an_expr (λ _ inner. inner) <* sign s.RightParenthesis

-- atom = literal | name | name "." name | name "(" ( "*" | [ DISTINCT ] expr ) ")" | "(" expr ")"
unfoldable pub atom : Form Expr
atom = named or dated or group or (e.Literal <$> plain_literal)

-- unary = "-" unary | atom
unfoldable pub unary : Form Expr
unary = nest (sign_class s.Minus ∷ []) a_unary (λ x operand. e.Minus x.start operand) or atom

unfoldable pub term_sign : Form (ChainSign × ℕ)
term_sign = token (sign_class s.Star) (λ x. (c.Times, x.start)) or token (sign_class s.Quotient) (λ x. (c.Quotient, x.start)) or token (sign_class s.Remainder) (λ x. (c.Remainder, x.start))

unfoldable pub term_link : Form Link
term_link = (λ sign right. record { place = sign.1; sign = sign.0; right = right }) <$> term_sign <*> unary

-- term = unary { ( "*" | "//" | "%" ) unary }
unfoldable pub term : Form Expr
term = chain_of <$> unary <*> many term_link

unfoldable pub sum_sign : Form (ChainSign × ℕ)
sum_sign = token (sign_class s.Plus) (λ x. (c.Plus, x.start)) or token (sign_class s.Minus) (λ x. (c.Minus, x.start))

unfoldable pub sum_link : Form Link
sum_link = (λ sign right. record { place = sign.1; sign = sign.0; right = right }) <$> sum_sign <*> term

-- sum = term { ( "+" | "-" ) term }
unfoldable pub sum : Form Expr
sum = chain_of <$> term <*> many sum_link

unfoldable pub compare_sign : Form (CompareSign × ℕ)
compare_sign = token (sign_class s.Equal) (λ x. (o.Equal, x.start)) or token (sign_class s.Unequal) (λ x. (o.Unequal, x.start))
    or token (sign_class s.Less) (λ x. (o.Less, x.start)) or token (sign_class s.AtMost) (λ x. (o.AtMost, x.start))
    or token (sign_class s.Greater) (λ x. (o.Greater, x.start)) or token (sign_class s.AtLeast) (λ x. (o.AtLeast, x.start))

-- compare sum
unfoldable pub comparison : Form (Expr → Expr)
comparison = (λ sign right left. e.Compare sign.1 sign.0 left right) <$> compare_sign <*> sum

-- IS [ NOT ] NULL
unfoldable pub null_test : Form (Expr → Expr)
null_test = (λ place negated left. e.IsNull place negated left) <$> word w.Is <*> has (word w.Not) <* word w.Null

-- LIKE text
unfoldable pub like : Form (Bool → Expr → Expr)
like = (λ place pattern negated left. e.Like place negated left pattern) <$> word w.Like <*> text

-- "(" select ")", behind IN
unfoldable pub member : Form (ℕ → Bool → Expr → Expr)
member = nest (query_class ∷ []) a_select (λ _ query place negated left. e.Member place negated left query) <* sign s.RightParenthesis

-- "(" const { "," const } ")", behind IN
unfoldable pub one_of : Form (ℕ → Bool → Expr → Expr)
one_of = (λ list place negated left. e.OneOf place negated left list) <$> sign s.LeftParenthesis >> list constant <* sign s.RightParenthesis

-- IN "(" ( const { "," const } | select ) ")"
unfoldable pub in_test : Form (Bool → Expr → Expr)
in_test = follows <$> word w.In <*> (member or one_of)

-- AND sum
abbrev pub upper : Form Expr
upper = word w.And >> sum

-- BETWEEN sum AND sum: its place, and both bounds
abbrev pub bounds : Form (ℕ × Expr × Expr)
bounds = (λ place low high. (place, low, high)) <$> word w.Between <*> sum <*> upper

-- BETWEEN sum AND sum
unfoldable pub between : Form (Bool → Expr → Expr)
between = (λ bounds negated left. e.Between bounds.0 negated left bounds.1 bounds.2) <$> bounds

-- [ NOT ] LIKE text | [ NOT ] IN "(" ( const { "," const } | select ) ")" | [ NOT ] BETWEEN sum AND sum
unfoldable pub range_test : Form (Expr → Expr)
range_test = (λ negated test. test negated) <$> has (word w.Not) <*> (like or in_test or between)

unfoldable pub after_sum : Form (Expr → Expr)
after_sum = comparison or null_test or range_test or empty (λ left. left)

-- pred = sum [ compare sum | IS [ NOT ] NULL | [ NOT ] LIKE text | [ NOT ] IN "(" ( const { "," const } | select ) ")" | [ NOT ] BETWEEN sum AND sum ]
unfoldable pub pred : Form Expr
pred = (λ left test. test left) <$> sum <*> after_sum

-- neg = NOT neg | pred
unfoldable pub neg : Form Expr
neg = nest (word_class w.Not ∷ []) a_neg (λ x operand. e.Not x.start operand) or pred

unfoldable pub and_operand : Form Operand
and_operand = (λ place right. record { place = place; right = right }) <$> word w.And <*> neg

-- conj = neg { AND neg }
unfoldable pub conj : Form Expr
conj = every_of <$> neg <*> many and_operand

unfoldable pub or_operand : Form Operand
or_operand = (λ place right. record { place = place; right = right }) <$> word w.Or <*> conj

-- expr = conj { OR conj }
unfoldable pub expr : Form Expr
expr = either_of <$> conj <*> many or_operand

-- "*" | [ DISTINCT ] expr
unfoldable pub argument : Form Argument
argument = token (sign_class s.Star) (λ _. a.Star) or (a.Distinct <$> word w.Distinct >> expr) or (a.Value <$> expr)
