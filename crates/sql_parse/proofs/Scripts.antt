-- The loop over statements.
use Rattle.std.proofs.Common.{◌≡◌, ◌<◌, List, [], ◌∷◌, ◌++◌, length, Option, None, Some, Ok, Err, Bool, true, false, refl, sym, ◌∙◌, ap, subst, append_assoc, if◌then◌else◌}
use Rattle.sql_lex.specs.declared.token.Sign.TheVariants as g
use Rattle.sql_grammar.specs.Lexeme.{Lexeme, first, tail, sees, lexeme_at}
use Rattle.sql_grammar.specs.declared.fault.Fault.{Fault}
use Rattle.sql_grammar.specs.declared.fault.Fault.TheVariants.{Syntax}
use Rattle.sql_grammar.specs.declared.tree.statement.Statement.{Statement}
use Rattle.sql_grammar.specs.declared.tree.statement.Script.{Script}
use Rattle.sql_grammar.specs.Reading.{Outcome, and_then, many_from, Readers, read}
use Rattle.sql_grammar.specs.Classes.{sign_class}
use Rattle.sql_grammar.specs.Combinators.{◌>>◌, sign, optional}
use Rattle.sql_grammar.specs.Statements.{statement, present, script}
use Rattle.flat_rules.proofs.Turning.{SoFar, started, stepped, failed, ended}

append_nil : {A : Type 0} (u : List A) → u ++ [] ≡ u
append_nil [] = refl
append_nil (x ∷ u) = ap (λ v. x ∷ v) (append_nil u)

present_cons : (o : Option Statement) (more : List (Option Statement)) → present (o ∷ more) ≡ present (o ∷ []) ++ present more
present_cons None more = refl
present_cons (Some a) more = refl

of_list : List Statement → Script
of_list list = record { statements = list }

module _ (n : Readers) where
  abbrev after : List Lexeme → Outcome (Option Statement)
  after = read n (sign g.Semicolon >> optional statement)

  at_semicolon : (u : List Lexeme) (o : Outcome (Option Statement)) → sees (sign_class g.Semicolon ∷ []) (first u) ≡ true → read n (optional statement) (tail u) ≡ o → after u ≡ o
  at_semicolon u o h e = ap (λ (b : Bool). and_then (if b then Ok ((lexeme_at (first u)).start, tail u) else Err (Syntax, u)) (λ a r. and_then (read n (optional statement) r) (λ b s. Ok (b, s)))) h ∙ ap (λ o. and_then o (λ b s. Ok (b, s))) e ∙ same o
    where
      same : (o : Outcome (Option Statement)) → and_then o (λ b s. Ok (b, s)) ≡ o
      same (Ok q) = refl
      same (Err q) = refl

  module _ (w : List Lexeme) where
    abbrev pub ScriptSoFar : List Statement → List Lexeme → Type 0
    ScriptSoFar found r = SoFar (sees (sign_class g.Semicolon ∷ [])) after (read n script w) (λ more. record { statements = found ++ present more }) r

    same_then : (f h : List (Option Statement) → Script) (o : Outcome (List (Option Statement))) → ((more : List (Option Statement)) → f more ≡ h more) → and_then o (λ list r. Ok (f list, r)) ≡ and_then o (λ list r. Ok (h list, r))
    same_then f h (Ok q) e = ap (λ c. Ok (c, q.1)) (e q.0)
    same_then f h (Err q) e = refl

    pub script_started : (a : Option Statement) (r : List Lexeme) (found : List Statement) → read n (optional statement) w ≡ Ok (a, r) → found ≡ present (a ∷ []) → ScriptSoFar found r
    unfolding script of_list
    script_started a r found e f =
        let pre : Option Statement → List Lexeme → Outcome (List (Option Statement) → Script) = λ a s. Ok ((λ more. record { statements = present (a ∷ more) }), s) in
        subst (λ z. ScriptSoFar z r) (sym f)
        (started (sees (sign_class g.Semicolon ∷ [])) after (read n script w) (λ more. record { statements = present (a ∷ []) ++ present more }) r
        (ap (λ o. and_then (and_then o pre) (λ f r. and_then (many_from (sees (sign_class g.Semicolon ∷ [])) after (length r) r) (λ b s. Ok (f b, s)))) e
        ∙ same_then (λ more. record { statements = present (a ∷ more) }) (λ more. record { statements = present (a ∷ []) ++ present more }) (many_from (sees (sign_class g.Semicolon ∷ [])) after (length r) r) (λ more. ap of_list (present_cons a more))))

    pub script_not_started : (why : Fault × List Lexeme) → read n (optional statement) w ≡ Err why → read n script w ≡ Err why
    unfolding script
    script_not_started why e =
        let pre : Option Statement → List Lexeme → Outcome (List (Option Statement) → Script) = λ a s. Ok ((λ more. record { statements = present (a ∷ more) }), s) in
        ap (λ o. and_then (and_then o pre) (λ f r. and_then (many_from (sees (sign_class g.Semicolon ∷ [])) after (length r) r) (λ b s. Ok (f b, s)))) e

    pub script_stepped : (found next : List Statement) (u r : List Lexeme) (a : Option Statement) → ScriptSoFar found u → sees (sign_class g.Semicolon ∷ []) (first u) ≡ true → read n (optional statement) (tail u) ≡ Ok (a, r) → length r < length u → next ≡ found ++ present (a ∷ []) → ScriptSoFar next r
    unfolding of_list
    script_stepped found next u r a s h e l f = stepped (sees (sign_class g.Semicolon ∷ [])) after refl (read n script w) (λ more. record { statements = found ++ present more }) (λ more. record { statements = next ++ present more }) a u r s h (at_semicolon u (Ok (a, r)) h e) l
        (λ more. ap of_list (ap (λ z. found ++ z) (present_cons a more) ∙ sym (append_assoc found (present (a ∷ [])) (present more)) ∙ ap (λ z. z ++ present more) (sym f)))

    pub script_failed : (found : List Statement) (u : List Lexeme) (why : Fault × List Lexeme) → ScriptSoFar found u → sees (sign_class g.Semicolon ∷ []) (first u) ≡ true → read n (optional statement) (tail u) ≡ Err why → read n script w ≡ Err why
    script_failed found u why s h e = failed (sees (sign_class g.Semicolon ∷ [])) after refl (read n script w) (λ more. record { statements = found ++ present more }) u why s h (at_semicolon u (Err why) h e)

    pub script_ended : (found : List Statement) (u : List Lexeme) → ScriptSoFar found u → sees (sign_class g.Semicolon ∷ []) (first u) ≡ false → read n script w ≡ Ok (record { statements = found }, u)
    unfolding of_list
    script_ended found u s h = ended (sees (sign_class g.Semicolon ∷ [])) after refl (read n script w) (λ more. record { statements = found ++ present more }) u s h ∙ ap (λ z. Ok (of_list z, u)) (append_nil found)
