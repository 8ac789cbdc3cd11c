use Rattle.std.proofs.Common.{◌≡◌, ◌==◌, ℕ, List, [], ◌∷◌, length, Bool, IsTrue, sym, ◌∙◌, arith}
use Rattle.sql_lex.specs.declared.token.Token.{Token}
use Rattle.sql_grammar.specs.Lexeme.{Lexeme}
use Rattle.sql_grammar.specs.Lexemes.{lexeme, lexemes}
use Rattle.flat_rules.proofs.cursor.Cursor.is_at_end.Goals as goal

at_end : (script : List ℕ) (tokens : List Token) (w : List Lexeme) (b : Bool) → w ≡ lexemes script tokens → b ≡ (length tokens == 0) → (IsTrue b → w ≡ []) × (w ≡ [] → IsTrue b)
at_end script [] w b e h = (λ _. e, λ _. grind (arith, h))
at_end script (t ∷ tokens) w b e h = (λ k. absurd (grind (arith, h, k)), λ f. absurd (let g : lexeme script t tokens ∷ lexemes script tokens ≡ [] = sym e ∙ f in cc))

pub returns : goal.returns
returns c = at_end c.self.inside.script.now c.self.inside.tokens.now c.args.self.now c.is_empty.result (sym c.self.view_is) c.is_empty.ensures
