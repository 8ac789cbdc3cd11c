-- What a rule of the grammar is made of.
use Rattle.std.specs.Prelude.{ℕ, List}
use Rattle.sql_grammar.specs.Lexeme.{Lexeme}
use Rattle.sql_grammar.specs.declared.tree.expr.Expr.{Expr}
use Rattle.sql_grammar.specs.declared.tree.expr.Argument.{Argument}
use Rattle.sql_grammar.specs.declared.tree.select.Select.{Select}

-- the rules that nest
pub data Sort : Type 0 where
  an_expr : Sort
  a_neg : Sort
  a_unary : Sort
  an_argument : Sort
  a_select : Sort

-- what each of them stands for
abbrev pub Value : Sort → Type 0
Value an_expr = Expr
Value a_neg = Expr
Value a_unary = Expr
Value an_argument = Argument
Value a_select = Select

-- a rule, and what the tokens that it takes stand for
pub data Form : Type 0 → Type 1 where
  -- no tokens
  empty : {A : Type 0} → A → Form A
  -- a token of one of these classes
  one : {A : Type 0} → List ℕ → (Lexeme → A) → Form A
  -- a rule, and then another
  both : {A B C : Type 0} → (A → B → C) → Form A → Form B → Form C
  -- one rule or the other
  either : {A : Type 0} → Form A → Form A → Form A
  -- a rule any number of times
  many : {A : Type 0} → Form A → Form (List A)
  -- a token of one of these classes, which opens a level, and the rule in it
  nest : {A : Type 0} → List ℕ → (s : Sort) → (Lexeme → Value s → A) → Form A
  -- a rule, and the first of its tokens
  marked : {A B : Type 0} → (Lexeme → A → B) → Form A → Form B
  -- tokens of these three classes, or else the rule
  phrase : {A : Type 0} → List ℕ → ℕ → ℕ → (Lexeme → A) → Form A → Form A
