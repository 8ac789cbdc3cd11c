-- The verdicts rule each other out: tokens are a script, or have one fault.
use Rattle.std.proofs.Common.{◌≡◌, ℕ, ◌+◌, List, [], ◌∷◌, ◌++◌, refl, sym, ◌∙◌, ap, subst, append_assoc, ◌⊎◌, inl, inr}
use Rattle.sql_grammar.specs.Lexeme.{Lexeme}
use Rattle.sql_grammar.specs.declared.tree.statement.Script.{Script}
use Rattle.sql_grammar.specs.Verdict.{IsScript, Begins, limit, place_of, SyntaxAt, TooDeepAt}

-- the second front is the first, one token more, and others
record Longer (u r u2 : List Lexeme) : Type 0 where
  pub x : Lexeme
  pub more : List Lexeme
  pub z : List Lexeme
  pub rest : r ≡ x ∷ more
  pub whole : u2 ≡ (u ++ x ∷ []) ++ z

Splits : List Lexeme → List Lexeme → List Lexeme → List Lexeme → Type 0
Splits u r u2 r2 = ((u ≡ u2) × (r ≡ r2)) ⊎ (Longer u r u2 ⊎ Longer u2 r2 u)

same_head : (x y : Lexeme) (u v : List Lexeme) → x ∷ u ≡ y ∷ v → x ≡ y
same_head x y u v e = cc

same_tail : (x y : Lexeme) (u v : List Lexeme) → x ∷ u ≡ y ∷ v → u ≡ v
same_tail x y u v e = cc

longer_cons : (x y : Lexeme) (u r u2 : List Lexeme) → x ≡ y → Longer u r u2 → Longer (x ∷ u) r (y ∷ u2)
longer_cons x y u r u2 e l = record { x = l.x; more = l.more; z = l.z; rest = l.rest; whole = ap (λ t. t ∷ u2) (sym e) ∙ ap (λ t. x ∷ t) l.whole }

splits : (u r u2 r2 : List Lexeme) → u ++ r ≡ u2 ++ r2 → Splits u r u2 r2
unfolding Splits
splits [] r [] r2 e = inl (refl, e)
splits [] r (y ∷ u2) r2 e = inr (inl (record { x = y; more = u2 ++ r2; z = u2; rest = e; whole = refl }))
splits (x ∷ u) r [] r2 e = inr (inr (record { x = x; more = u ++ r; z = u; rest = sym e; whole = refl }))
splits (x ∷ u) r (y ∷ u2) r2 e = cons (splits u r u2 r2 (same_tail x y (u ++ r) (u2 ++ r2) e))
  where
    cons : ((u ≡ u2) × (r ≡ r2)) ⊎ (Longer u r u2 ⊎ Longer u2 r2 u) → ((x ∷ u ≡ y ∷ u2) × (r ≡ r2)) ⊎ (Longer (x ∷ u) r (y ∷ u2) ⊎ Longer (y ∷ u2) r2 (x ∷ u))
    cons (inl p) = inl (ap (λ t. t ∷ u) (same_head x y (u ++ r) (u2 ++ r2) e) ∙ ap (λ t. y ∷ t) p.0, p.1)
    cons (inr (inl l)) = inr (inl (longer_cons x y u r u2 (same_head x y (u ++ r) (u2 ++ r2) e) l))
    cons (inr (inr l)) = inr (inr (longer_cons y x u2 r2 u (sym (same_head x y (u ++ r) (u2 ++ r2) e)) l))

-- what goes on from a front goes on from a shorter one
shorter : (d : ℕ) (u z : List Lexeme) → Begins d (u ++ z) → Begins d u
shorter d u z b = (b.0, z ++ b.1, subst (IsScript d b.0) (append_assoc u z b.1) b.2)

of_longer : (d : ℕ) (u r u2 : List Lexeme) (l : Longer u r u2) → Begins d u2 → Begins d (u ++ l.x ∷ [])
of_longer d u r u2 l b = shorter d (u ++ l.x ∷ []) l.z (subst (Begins d) l.whole b)

module _ (end : ℕ) (w : List Lexeme) where
  pub no_syntax : (place : ℕ) (s : Script) → SyntaxAt end w place → IsScript limit s w → ⊥
  no_syntax place s p g = go p.rest refl
    where
      go : (rest : List Lexeme) → p.rest ≡ rest → ⊥
      go [] e = p.ends limit s e g
      go (x ∷ more) e = p.at limit x more e (s, more, subst (IsScript limit s) (p.whole ∙ ap (λ t. p.front ++ t) e ∙ sym (append_assoc p.front (x ∷ []) more)) g)

  pub no_too_deep : (place : ℕ) (s : Script) → TooDeepAt w place → IsScript limit s w → ⊥
  no_too_deep place s p g = p.at (s, p.more, subst (IsScript limit s) (p.whole ∙ sym (append_assoc p.front (p.token ∷ []) p.more)) g)

  pub one_syntax : (a b : ℕ) → SyntaxAt end w a → SyntaxAt end w b → a ≡ b
  unfolding Splits
  one_syntax a b p q = go (splits p.front p.rest q.front q.rest (sym p.whole ∙ q.whole))
    where
      go : Splits p.front p.rest q.front q.rest → a ≡ b
      go (inl e) = p.stands ∙ ap (place_of end) e.1 ∙ sym q.stands
      go (inr (inl l)) = absurd (p.at limit l.x l.more l.rest (of_longer limit p.front p.rest q.front l q.before))
      go (inr (inr l)) = absurd (q.at limit l.x l.more l.rest (of_longer limit q.front q.rest p.front l p.before))

  pub one_too_deep : (a b : ℕ) → TooDeepAt w a → TooDeepAt w b → a ≡ b
  unfolding Splits
  one_too_deep a b p q = go (splits p.front (p.token ∷ p.more) q.front (q.token ∷ q.more) (sym p.whole ∙ q.whole))
    where
      token_of : (f : List Lexeme) (t : Lexeme) (m : List Lexeme) (l : Longer f (t ∷ m) p.front) → l.x ≡ t
      token_of f t m l = sym (same_head t l.x m l.more l.rest)

      token_of2 : (f : List Lexeme) (t : Lexeme) (m : List Lexeme) (l : Longer f (t ∷ m) q.front) → l.x ≡ t
      token_of2 f t m l = sym (same_head t l.x m l.more l.rest)

      go : Splits p.front (p.token ∷ p.more) q.front (q.token ∷ q.more) → a ≡ b
      go (inl e) = p.stands ∙ ap (λ t. t.start) (same_head p.token q.token p.more q.more e.1) ∙ sym q.stands
      go (inr (inl l)) = absurd (p.at (subst (λ t. Begins limit (p.front ++ t ∷ [])) (token_of2 p.front p.token p.more l) (of_longer limit p.front (p.token ∷ p.more) q.front l q.before)))
      go (inr (inr l)) = absurd (q.at (subst (λ t. Begins limit (q.front ++ t ∷ [])) (token_of q.front q.token q.more l) (of_longer limit q.front (q.token ∷ q.more) p.front l p.before)))

  pub not_both : (a b : ℕ) → SyntaxAt end w a → TooDeepAt w b → ⊥
  unfolding Splits
  not_both a b p q = go (splits p.front p.rest q.front (q.token ∷ q.more) (sym p.whole ∙ q.whole))
    where
      go : Splits p.front p.rest q.front (q.token ∷ q.more) → ⊥
      go (inl e) = p.at (limit + 1) q.token q.more e.1 (subst (λ t. Begins (limit + 1) (t ++ q.token ∷ [])) (sym e.0) q.deeper)
      go (inr (inl l)) = p.at limit l.x l.more l.rest (of_longer limit p.front p.rest q.front l q.before)
      go (inr (inr l)) = q.at (subst (λ t. Begins limit (q.front ++ t ∷ [])) (sym (same_head q.token l.x q.more l.more l.rest)) (of_longer limit q.front (q.token ∷ q.more) p.front l p.before))
