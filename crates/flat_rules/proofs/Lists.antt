-- Loops over `p { "," p }`, and over the links of a chain.
use Rattle.std.proofs.Common.{◌≡◌, ◌≢◌, ℕ, ◌<◌, List, [], ◌∷◌, ◌++◌, length, Option, None, Some, Ok, Err, Bool, true, false, refl, sym, ◌∙◌, ap, subst, append_assoc, if◌then◌else◌}
use Rattle.sql_lex.specs.declared.token.Sign.TheVariants as g
use Rattle.sql_grammar.specs.Lexeme.{Lexeme, first, tail, sees, lexeme_at}
use Rattle.sql_grammar.specs.declared.fault.Fault.{Fault}
use Rattle.sql_grammar.specs.declared.fault.Fault.TheVariants.{Syntax}
use Rattle.sql_grammar.specs.Form.{Form, many}
use Rattle.sql_grammar.specs.Reading.{Outcome, and_then, begins, many_from, Readers, read}
use Rattle.sql_grammar.specs.Classes.{sign_class}
use Rattle.sql_grammar.specs.Combinators.{◌>>◌, sign, list}
use Rattle.flat_rules.proofs.Turning.{SoFar, started, stepped, failed, ended}

append_nil : {A : Type 0} (u : List A) → u ++ [] ≡ u
append_nil [] = refl
append_nil (x ∷ u) = ap (λ v. x ∷ v) (append_nil u)

-- ---- as many as come

module _ {A : Type 0} (n : Readers) (p : Form A) (w : List Lexeme) where
  abbrev pub ManySoFar : List A → List Lexeme → Type 0
  ManySoFar found r = SoFar (begins p) (read n p) (read n (many p) w) (λ more. found ++ more) r

  all_of : (o : Outcome (List A)) → o ≡ and_then o (λ list r. Ok (list, r))
  all_of (Ok q) = refl
  all_of (Err q) = refl

  pub many_started : (r : List Lexeme) (found : List A) → r ≡ w → found ≡ [] → ManySoFar found r
  many_started r found e f = subst (λ z. ManySoFar z r) (sym f) (subst (λ v. SoFar (begins p) (read n p) (read n (many p) w) (λ more. more) v) (sym e)
      (started (begins p) (read n p) (read n (many p) w) (λ more. more) w (all_of (many_from (begins p) (read n p) (length w) w))))

  pub many_stepped : (no_end : begins p None ≡ false) (found next : List A) (u r : List Lexeme) (a : A) → ManySoFar found u → begins p (first u) ≡ true → read n p u ≡ Ok (a, r) → length r < length u → next ≡ found ++ a ∷ [] → ManySoFar next r
  many_stepped no_end found next u r a s h e l f = stepped (begins p) (read n p) no_end (read n (many p) w) (λ more. found ++ more) (λ more. next ++ more) a u r s h e l
      (λ more. sym (append_assoc found (a ∷ []) more) ∙ ap (λ z. z ++ more) (sym f))

  pub many_failed : (no_end : begins p None ≡ false) (found : List A) (u : List Lexeme) (why : Fault × List Lexeme) → ManySoFar found u → begins p (first u) ≡ true → read n p u ≡ Err why → read n (many p) w ≡ Err why
  many_failed no_end found u why s h e = failed (begins p) (read n p) no_end (read n (many p) w) (λ more. found ++ more) u why s h e

  pub many_ended : (no_end : begins p None ≡ false) (found : List A) (u : List Lexeme) → ManySoFar found u → begins p (first u) ≡ false → read n (many p) w ≡ Ok (found, u)
  many_ended no_end found u s h = ended (begins p) (read n p) no_end (read n (many p) w) (λ more. found ++ more) u s h ∙ ap (λ z. Ok (z, u)) (append_nil found)

-- ---- a list with commas

module _ {A : Type 0} (n : Readers) (p : Form A) where
  abbrev comma : List Lexeme → Outcome A
  comma = read n (sign g.Comma >> p)

  at_comma : (u : List Lexeme) (o : Outcome A) → sees (sign_class g.Comma ∷ []) (first u) ≡ true → read n p (tail u) ≡ o → comma u ≡ o
  at_comma u o h e = ap (λ (b : Bool). and_then (if b then Ok ((lexeme_at (first u)).start, tail u) else Err (Syntax, u)) (λ a r. and_then (read n p r) (λ b s. Ok (b, s)))) h ∙ ap (λ o. and_then o (λ b s. Ok (b, s))) e ∙ same o
    where
      same : (o : Outcome A) → and_then o (λ b s. Ok (b, s)) ≡ o
      same (Ok q) = refl
      same (Err q) = refl

  module _ (w : List Lexeme) where
    abbrev pub ListSoFar : List A → List Lexeme → Type 0
    ListSoFar found r = SoFar (sees (sign_class g.Comma ∷ [])) comma (read n (list p) w) (λ more. found ++ more) r

    pub list_started : (a : A) (r : List Lexeme) (found : List A) → read n p w ≡ Ok (a, r) → found ≡ a ∷ [] → ListSoFar found r
    list_started a r found e f =
        let pre : A → List Lexeme → Outcome (List A → List A) = λ a s. Ok ((λ more. a ∷ more), s) in
        subst (λ z. ListSoFar z r) (sym f)
        (started (sees (sign_class g.Comma ∷ [])) comma (read n (list p) w) (λ more. a ∷ more) r
        (ap (λ o. and_then (and_then o pre) (λ f r. and_then (many_from (sees (sign_class g.Comma ∷ [])) comma (length r) r) (λ b s. Ok (f b, s)))) e))

    pub list_stepped : (found next : List A) (u r : List Lexeme) (a : A) → ListSoFar found u → sees (sign_class g.Comma ∷ []) (first u) ≡ true → read n p (tail u) ≡ Ok (a, r) → length r < length u → next ≡ found ++ a ∷ [] → ListSoFar next r
    list_stepped found next u r a s h e l f = stepped (sees (sign_class g.Comma ∷ [])) comma refl (read n (list p) w) (λ more. found ++ more) (λ more. next ++ more) a u r s h (at_comma u (Ok (a, r)) h e) l
        (λ more. sym (append_assoc found (a ∷ []) more) ∙ ap (λ z. z ++ more) (sym f))

    pub list_failed : (found : List A) (u : List Lexeme) (why : Fault × List Lexeme) → ListSoFar found u → sees (sign_class g.Comma ∷ []) (first u) ≡ true → read n p (tail u) ≡ Err why → read n (list p) w ≡ Err why
    list_failed found u why s h e = failed (sees (sign_class g.Comma ∷ [])) comma refl (read n (list p) w) (λ more. found ++ more) u why s h (at_comma u (Err why) h e)

    pub list_ended : (found : List A) (u : List Lexeme) → ListSoFar found u → sees (sign_class g.Comma ∷ []) (first u) ≡ false → read n (list p) w ≡ Ok (found, u)
    list_ended found u s h = ended (sees (sign_class g.Comma ∷ [])) comma refl (read n (list p) w) (λ more. found ++ more) u s h ∙ ap (λ z. Ok (z, u)) (append_nil found)

pub seen_some : (classes : List ℕ) (o : Option Lexeme) → sees classes o ≡ true → o ≢ None
seen_some classes None h = λ e. (let f : false ≡ true = h in cc)
seen_some classes (Some y) h = λ e. cc
