-- What `parse` answers. Tokens are those of `lexemes`, among which a parenthesis before SELECT has a class of its own:
-- behind IN it opens a level and one before a constant doesn't, and both are told where the parenthesis stands.
use Rattle.std.specs.Prelude.{◌≡◌, ◌⊎◌, ℕ, ◌+◌, List, [], ◌∷◌, ◌++◌, Result, Ok, Err}
use Rattle.sql_grammar.specs.Lexeme.{Lexeme}
use Rattle.sql_grammar.specs.declared.tree.statement.Script.{Script}
use Rattle.sql_grammar.specs.declared.fault.ParseFault.{ParseFault}
use Rattle.sql_grammar.specs.declared.fault.ParseFault.TheVariants.{Syntax, TooDeep, OutOfMemory}
use Rattle.sql_grammar.specs.Derives.{derives}
use Rattle.sql_grammar.specs.Statements.{script}
use Rattle.sql_grammar.specs.Nesting.{nested}

-- the tokens are this script, within so many levels of nesting
abbrev pub IsScript : ℕ → Script → List Lexeme → Type 0
IsScript depth s w = derives (nested depth) script s w

-- some script goes on from these tokens
abbrev pub Begins : ℕ → List Lexeme → Type 0
Begins depth w = (s : Script) × (more : List Lexeme) × IsScript depth s (w ++ more)

-- how many levels may be nested
abbrev pub limit : ℕ
limit = 32

-- where the first of these tokens stands, or the end of a script of that length
abbrev pub place_of : ℕ → List Lexeme → ℕ
place_of end [] = end
place_of end (x ∷ w) = x.start

-- A script within the limit begins with the tokens before the place; with the token at it none begins, however deep it nests;
-- or the place is the end, and the tokens are none.
pub record SyntaxAt (end : ℕ) (w : List Lexeme) (place : ℕ) : Type 0 where
  pub front : List Lexeme
  pub rest : List Lexeme
  pub whole : w ≡ front ++ rest
  pub stands : place ≡ place_of end rest
  pub before : Begins limit front
  pub at : (depth : ℕ) (x : Lexeme) (more : List Lexeme) → rest ≡ x ∷ more → Begins depth (front ++ x ∷ []) → ⊥
  pub ends : (depth : ℕ) (s : Script) → rest ≡ [] → IsScript depth s w → ⊥

-- A script within the limit begins with the tokens before the place; with the token at it none within the limit begins, and one that nests a level more does.
pub record TooDeepAt (w : List Lexeme) (place : ℕ) : Type 0 where
  pub front : List Lexeme
  pub token : Lexeme
  pub more : List Lexeme
  pub whole : w ≡ front ++ token ∷ more
  pub stands : place ≡ token.start
  pub before : Begins limit front
  pub at : Begins limit (front ++ token ∷ []) → ⊥
  pub deeper : Begins (limit + 1) (front ++ token ∷ [])

-- the fault is the one that the tokens of a script of that length have
abbrev pub Refuses : ℕ → List Lexeme → ParseFault → Type 0
Refuses end w (Syntax place) = SyntaxAt end w place
Refuses end w (TooDeep place) = TooDeepAt w place
Refuses end w OutOfMemory = Unit {0}

-- it was refused with this fault, or for want of memory
abbrev pub IsRefusedWith : ParseFault → Result Script ParseFault → Type 0
IsRefusedWith fault (Ok s) = ⊥
IsRefusedWith fault (Err e) = (e ≡ fault) ⊎ (e ≡ OutOfMemory)
