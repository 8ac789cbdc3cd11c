-- What the grammar derives, at each depth, is what is read there.
use Rattle.std.proofs.Common.{◌≡◌, ℕ, zero, suc, List, [], ◌∷◌, Some, None, Ok, Err, refl, sym, ◌∙◌, ap, subst, inr}
use Rattle.sql_grammar.specs.Lexeme.{Lexeme, first}
use Rattle.sql_grammar.specs.declared.fault.Fault.TheVariants.{Syntax}
use Rattle.sql_grammar.specs.declared.tree.statement.Script.{Script}
use Rattle.sql_grammar.specs.Form.{Sort}
use Rattle.sql_grammar.specs.Derives.{derives}
use Rattle.sql_grammar.specs.Reading.{Outcome, and_then, read}
use Rattle.sql_grammar.specs.Sound.{goes_on}
use Rattle.sql_grammar.specs.Statements.{script}
use Rattle.sql_grammar.specs.Nesting.{body, nested, readers}
use Rattle.sql_grammar.specs.Whole.{ended, whole}
use Rattle.sql_grammar.specs.Verdict.{IsScript}
use Rattle.sql_grammar.proofs.Sets.{unseen_in}
use Rattle.sql_grammar.proofs.Laws.{Viable, Reads, Says, append_nil}
use Rattle.sql_grammar.proofs.Forms.{SortRight, viable, right, complete}
use Rattle.sql_grammar.proofs.Lasts.{last, last_is, body_alive, body_sound, script_sound, script_alive}
use Rattle.sql_grammar.proofs.Tame.{body_tame, script_tame}
use Rattle.sql_grammar.proofs.Grown.{EachFalls, EachGrown, Grown, Falls, rest_of, falls, grown, grown_then}

pub rules : (d : ℕ) (s : Sort) → SortRight s (readers d s) (nested d s) (last s)
unfolding readers
rules zero s = λ a u h. absurd h
rules (suc d) s = record {
  right = right (readers d) (nested d) last (rules d) (body s) (body_sound s) (body_tame (readers d) s);
  some = viable (nested d) (body s) (body_alive s);
  complete = λ a u r h e. complete (readers d) (nested d) last (rules d) (body s) (body_sound s) (body_tame (readers d) s) a u r h (unseen_in (first r) (goes_on last (body s)) (last s) (last_is s) e);
}

pub each_falls : (d : ℕ) (s : Sort) → EachFalls (readers d s)
unfolding readers
each_falls zero s = tt
each_falls (suc d) s = falls (readers d) (each_falls d) (body s)

pub each_grown : (d : ℕ) (s : Sort) → EachGrown (readers d s) (readers (suc d) s)
unfolding readers
each_grown zero s = falls (readers 0) (each_falls 0) (body s)
each_grown (suc d) s = grown (readers d) (readers (suc d)) (each_falls (suc d)) (each_grown d) (body s)

-- ---- whole scripts

module _ (d : ℕ) where
  script_right : (w : List Lexeme) → Says (read (readers d) script) (derives (nested d) script) w (read (readers d) script w)
  script_right = right (readers d) (nested d) last (rules d) script script_sound (script_tame (readers d))

  only_end : (s : Script) (r : List Lexeme) → first r ≡ None → ended s r ≡ Ok (s, r)
  only_end s [] e = refl
  only_end s (x ∷ r) e = cc

  not_end : (s : Script) (x : Lexeme) (r : List Lexeme) → first r ≡ Some x → ended s r ≡ Err (Syntax, r)
  not_end s x [] e = cc
  not_end s x (y ∷ r) e = refl

  at_end : (w : List Lexeme) (s : Script) (rest : List Lexeme) → Reads (read (readers d) script) (derives (nested d) script) w s rest → Says (whole d) (IsScript d) w (ended s rest)
  unfolding whole
  at_end w s [] p = record { front = p.front; whole = p.whole; spelled = p.spelled; again = λ r e. ap (λ o. and_then o ended) (p.again r e) ∙ only_end s r e }
  at_end w s (x ∷ rest) p = record { front = p.front; whole = p.whole; viable = inr (s, [], subst (IsScript d s) (sym (append_nil p.front)) p.spelled); again = λ r e. ap (λ o. and_then o ended) (p.again r e) ∙ not_end s x r e }

  by_outcome : (w : List Lexeme) (o : Outcome Script) → Says (read (readers d) script) (derives (nested d) script) w o → Says (whole d) (IsScript d) w (and_then o ended)
  unfolding whole
  by_outcome w (Ok p) s = at_end w p.0 p.1 s
  by_outcome w (Err q) s = record { front = s.front; whole = s.whole; viable = s.viable; again = λ r e. ap (λ o. and_then o ended) (s.again r e) }

  pub whole_right : (w : List Lexeme) → Says (whole d) (IsScript d) w (whole d w)
  unfolding whole
  whole_right w = by_outcome w (read (readers d) script w) (script_right w)

  pub whole_complete : (s : Script) (w : List Lexeme) → IsScript d s w → whole d w ≡ Ok (s, [])
  unfolding whole
  whole_complete s w g = ap (λ o. and_then o ended) (ap (read (readers d) script) (sym (append_nil w)) ∙ complete (readers d) (nested d) last (rules d) script script_sound (script_tame (readers d)) s w [] g refl)

  ended_falls : (s : Script) (r : List Lexeme) → Falls r (rest_of (ended s r))
  ended_falls s [] = record { front = []; whole = refl }
  ended_falls s (x ∷ r) = record { front = []; whole = refl }

  ended_grown : (s : Script) (r : List Lexeme) → Grown (ended s r) (ended s r)
  ended_grown s [] = refl
  ended_grown s (x ∷ r) = refl

  pub whole_grown : (w : List Lexeme) → Grown (whole d w) (whole (suc d) w)
  unfolding whole
  whole_grown w = grown_then ended ended ended_grown ended_falls (read (readers d) script w) (read (readers (suc d)) script w) (grown (readers d) (readers (suc d)) (each_falls (suc d)) (each_grown d) script w)

pub no_tokens : (d : ℕ) → Viable (IsScript d) []
no_tokens d = viable (nested d) script script_alive
