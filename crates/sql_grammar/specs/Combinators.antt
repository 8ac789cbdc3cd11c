-- How rules are put together.
use Rattle.std.specs.Prelude.{ℕ, List, [], ◌∷◌, Option, Some, None, Bool, true, false}
use Rattle.sql_lex.specs.declared.token.Word.{Word}
use Rattle.sql_lex.specs.declared.token.Sign.{Sign}
use Rattle.sql_lex.specs.declared.token.Sign.TheVariants as s
use Rattle.sql_grammar.specs.declared.tree.expr.Span.{Span}
use Rattle.sql_grammar.specs.Lexeme.{Lexeme}
use Rattle.sql_grammar.specs.Form.{Form, empty, one, both, either, many}
use Rattle.sql_grammar.specs.Classes.{word_class, sign_class, opens, names, text_class, integer_class}

-- where a token stands
abbrev pub span_of : Lexeme → Span
span_of x = record { start = x.start; end = x.end }

-- a rule and another, and what the first makes of the second
infixl 20 ◌<*>◌
abbrev pub ◌<*>◌ : {A B : Type 0} → Form (A → B) → Form A → Form B
p <*> q = both (λ f a. f a) p q

-- a value made of the rule's
infixl 20 ◌<$>◌
abbrev pub ◌<$>◌ : {A B : Type 0} → (A → B) → Form A → Form B
f <$> p = empty f <*> p

-- a rule and another, of which the first stands for the whole
infixl 20 ◌<*◌
abbrev pub ◌<*◌ : {A B : Type 0} → Form A → Form B → Form A
p <* q = both (λ a b. a) p q

-- a rule and another, of which the second stands for the whole
infixr 30 ◌>>◌
abbrev pub ◌>>◌ : {A B : Type 0} → Form A → Form B → Form B
p >> q = both (λ a b. b) p q

infixr 10 ◌or◌
abbrev pub ◌or◌ : {A : Type 0} → Form A → Form A → Form A
p or q = either p q

-- a token of this class
abbrev pub token : {A : Type 0} → ℕ → (Lexeme → A) → Form A
token class f = one (class ∷ []) f

-- a word, which stands for its place
abbrev pub word : Word → Form ℕ
word x = token (word_class x) (λ t. t.start)

-- a sign, which stands for its place
abbrev pub sign : Sign → Form ℕ
sign x = token (sign_class x) (λ t. t.start)

-- "(", whatever comes behind it
abbrev pub opening : Form ℕ
opening = one opens (λ t. t.start)

abbrev pub name : Form Span
name = one names span_of

abbrev pub text : Form Span
text = token text_class span_of

abbrev pub integer : Form Span
integer = token integer_class span_of

-- `[ p ]`
abbrev pub optional : {A : Type 0} → Form A → Form (Option A)
optional p = (Some <$> p) or empty None

-- whether `[ p ]` is there
abbrev pub has : {A : Type 0} → Form A → Form Bool
has p = ((λ _. true) <$> p) or empty false

-- `p { "," p }`
abbrev pub list : {A : Type 0} → Form A → Form (List A)
list p = (λ a more. a ∷ more) <$> p <*> many (sign s.Comma >> p)

-- `"(" p ")"`
abbrev pub parenthesized : {A : Type 0} → Form A → Form A
parenthesized p = opening >> p <* sign s.RightParenthesis
