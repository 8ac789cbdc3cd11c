-- How a rule of the grammar is read, token by token: a choice is made by the next token.
use Rattle.std.specs.Prelude.{ℕ, zero, suc, List, [], ◌∷◌, length, Option, Some, None, Result, Ok, Err, if◌then◌else◌, Bool, true, false}
use Rattle.sql_grammar.specs.Lexeme.{Lexeme, sees, first, tail, lexeme_at}
use Rattle.sql_grammar.specs.Form.{Sort, Value, Form, empty, one, both, either, many, nest, marked, phrase}
use Rattle.sql_grammar.specs.declared.fault.Fault.{Fault}
use Rattle.sql_grammar.specs.declared.fault.Fault.TheVariants.{Syntax, TooDeep}

-- what was read and the tokens after it, or why no rule goes on and the tokens from the bad one on
abbrev pub Outcome : Type 0 → Type 0
Outcome A = Result (A × List Lexeme) (Fault × List Lexeme)

abbrev pub Parser : Type 0 → Type 0
Parser A = List Lexeme → Outcome A

abbrev pub and_then : {A B : Type 0} → Outcome A → (A → Parser B) → Outcome B
and_then (Ok p) f = f p.0 p.1
and_then (Err e) f = Err e

-- the rule takes no tokens, if it is so
abbrev pub nullable : {A : Type 0} → Form A → Bool
nullable (empty a) = true
nullable (one classes f) = false
nullable (both f p q) = if nullable p then nullable q else false
nullable (either p q) = if nullable p then true else nullable q
nullable (many p) = true
nullable (nest openers s f) = false
nullable (marked f p) = false
nullable (phrase classes second third f p) = nullable p

-- the rule's tokens may begin with this one
abbrev pub begins : {A : Type 0} → Form A → Option Lexeme → Bool
begins (empty a) x = false
begins (one classes f) x = sees classes x
begins (both f p q) x = if nullable p then (if begins p x then true else begins q x) else begins p x
begins (either p q) x = if begins p x then true else begins q x
begins (many p) x = begins p x
begins (nest openers s f) x = sees openers x
begins (marked f p) x = begins p x
begins (phrase classes second third f p) x = if sees classes x then true else begins p x

abbrev pub taken : {A : Type 0} → (Lexeme → A) → Option Lexeme → Parser A
taken f x w = Ok (f (lexeme_at x), w)

-- as often as the next token begins one; the number bounds it, and each takes a token
unfoldable pub many_from : {A : Type 0} → (Option Lexeme → Bool) → Parser A → ℕ → Parser (List A)
many_from starts p zero w = Ok ([], w)
many_from starts p (suc k) w = if starts (first w)
    then and_then (p w) (λ a r. and_then (many_from starts p k r) (λ list s. Ok (a ∷ list, s)))
    else Ok ([], w)

-- one level deeper, behind the token that opens it, or too deep
abbrev pub opened : {A : Type 0} → Option (Parser A) → Parser A
opened None w = Err (TooDeep, w)
opened (Some p) w = p (tail w)

abbrev pub sees_phrase : List ℕ → ℕ → ℕ → List Lexeme → Bool
sees_phrase classes second third w = if sees classes (first w)
    then (if sees (second ∷ []) (first (tail w)) then sees (third ∷ []) (first (tail (tail w))) else false)
    else false

-- how what nests is read, or that it is too deep
abbrev pub Readers : Type 0
Readers = (s : Sort) → Option (Parser (Value s))

abbrev pub read : {A : Type 0} → Readers → Form A → Parser A
read n (empty a) w = Ok (a, w)
read n (one classes f) w = if sees classes (first w) then taken f (first w) (tail w) else Err (Syntax, w)
read n (both f p q) w = and_then (read n p w) (λ a r. and_then (read n q r) (λ b s. Ok (f a b, s)))
read n (either p q) w = if begins p (first w) then read n p w else read n q w
read n (many p) w = many_from (begins p) (read n p) (length w) w
read n (nest openers s f) w = if sees openers (first w) then and_then (opened (n s) w) (λ a r. Ok (f (lexeme_at (first w)) a, r)) else Err (Syntax, w)
read n (marked f p) w = and_then (read n p w) (λ a r. taken (λ x. f x a) (first w) r)
read n (phrase classes second third f p) w = if sees_phrase classes second third w
    then taken f (first w) (tail (tail (tail w)))
    else read n p w
