-- A loop that reads a rule as often as it comes, beside the reading of all of it.
use Rattle.std.proofs.Common.{◌≡◌, ℕ, zero, suc, ◌≤◌, ◌<◌, List, [], ◌∷◌, length, Option, None, Ok, Err, Bool, true, false, refl, sym, ◌∙◌, ap, arith, if◌then◌else◌}
use Rattle.sql_grammar.specs.Lexeme.{Lexeme, first}
use Rattle.sql_grammar.specs.declared.fault.Fault.{Fault}
use Rattle.sql_grammar.specs.Reading.{Outcome, and_then, many_from}

-- The whole is what comes of the values from here on.
pub record SoFar {A C : Type 0} (starts : Option Lexeme → Bool) (p : List Lexeme → Outcome A) (whole : Outcome C) (f : List A → C) (w : List Lexeme) : Type 0 where
  pub allowed : ℕ
  pub enough : length w ≤ allowed
  pub comes_of : whole ≡ and_then (many_from starts p allowed w) (λ list r. Ok (f list, r))

pub started : {A C : Type 0} (starts : Option Lexeme → Bool) (p : List Lexeme → Outcome A) (whole : Outcome C) (f : List A → C) (w : List Lexeme) → whole ≡ and_then (many_from starts p (length w) w) (λ list r. Ok (f list, r)) → SoFar starts p whole f w
started starts p whole f w e = record { allowed = length w; enough = omega arith; comes_of = e }

module _ {A C : Type 0} (starts : Option Lexeme → Bool) (p : List Lexeme → Outcome A) (no_end : starts None ≡ false) (whole : Outcome C) where
  some_left : (w : List Lexeme) → starts (first w) ≡ true → (k : ℕ) × (length w ≡ suc k)
  some_left [] h = absurd (let f : false ≡ true = sym no_end ∙ h in cc)
  some_left (x ∷ w) h = (length w, refl)

  turn_is : (m : ℕ) (w : List Lexeme) → starts (first w) ≡ true → many_from starts p (suc m) w ≡ and_then (p w) (λ a r. and_then (many_from starts p m r) (λ list s. Ok (a ∷ list, s)))
  unfolding many_from
  turn_is m w h = ap (λ (b : Bool). if b then and_then (p w) (λ a r. and_then (many_from starts p m r) (λ list s. Ok (a ∷ list, s))) else Ok ([], w)) h

  one_more : (f g : List A → C) (a : A) (o : Outcome (List A)) → ((list : List A) → f (a ∷ list) ≡ g list) → and_then (and_then o (λ list s. Ok (a ∷ list, s))) (λ list r. Ok (f list, r)) ≡ and_then o (λ list r. Ok (g list, r))
  one_more f g a (Ok q) e = ap (λ c. Ok (c, q.1)) (e q.0)
  one_more f g a (Err q) e = refl

  step_by : (f g : List A → C) (a : A) (w r : List Lexeme) (k : ℕ) → length w ≤ k → whole ≡ and_then (many_from starts p k w) (λ list r. Ok (f list, r)) → starts (first w) ≡ true → p w ≡ Ok (a, r) → length r < length w → ((list : List A) → f (a ∷ list) ≡ g list) → SoFar starts p whole g r
  step_by f g a w r zero en c h q l e = absurd (omega arith)
  step_by f g a w r (suc k) en c h q l e = record {
    allowed = k;
    enough = omega arith;
    comes_of = c ∙ ap (λ o. and_then o (λ list r. Ok (f list, r))) (turn_is k w h ∙ ap (λ o. and_then o (λ a r. and_then (many_from starts p k r) (λ list s. Ok (a ∷ list, s)))) q)
        ∙ one_more f g a (many_from starts p k r) e;
  }

  pub stepped : (f g : List A → C) (a : A) (w r : List Lexeme) → SoFar starts p whole f w → starts (first w) ≡ true → p w ≡ Ok (a, r) → length r < length w → ((list : List A) → f (a ∷ list) ≡ g list) → SoFar starts p whole g r
  stepped f g a w r s h q l e = step_by f g a w r s.allowed s.enough s.comes_of h q l e

  fail_by : (f : List A → C) (w : List Lexeme) (q : Fault × List Lexeme) (k : ℕ) → length w ≤ k → whole ≡ and_then (many_from starts p k w) (λ list r. Ok (f list, r)) → starts (first w) ≡ true → p w ≡ Err q → whole ≡ Err q
  fail_by f w q zero en c h e = absurd (let l = some_left w h in omega (arith, l.1))
  fail_by f w q (suc k) en c h e = c ∙ ap (λ o. and_then o (λ list r. Ok (f list, r))) (turn_is k w h ∙ ap (λ o. and_then o (λ a r. and_then (many_from starts p k r) (λ list s. Ok (a ∷ list, s)))) e)

  pub failed : (f : List A → C) (w : List Lexeme) (q : Fault × List Lexeme) → SoFar starts p whole f w → starts (first w) ≡ true → p w ≡ Err q → whole ≡ Err q
  failed f w q s h e = fail_by f w q s.allowed s.enough s.comes_of h e

  ends_at : (k : ℕ) (w : List Lexeme) → starts (first w) ≡ false → many_from starts p k w ≡ Ok ([], w)
  unfolding many_from
  ends_at zero w h = refl
  ends_at (suc k) w h = ap (λ (b : Bool). if b then and_then (p w) (λ a r. and_then (many_from starts p k r) (λ list s. Ok (a ∷ list, s))) else Ok ([], w)) h

  pub ended : (f : List A → C) (w : List Lexeme) → SoFar starts p whole f w → starts (first w) ≡ false → whole ≡ Ok (f [], w)
  ended f w s h = s.comes_of ∙ ap (λ o. and_then o (λ list r. Ok (f list, r))) (ends_at s.allowed w h)
