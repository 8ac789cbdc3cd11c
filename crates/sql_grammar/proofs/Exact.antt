-- From what the reading of whole scripts does to what the grammar says.
use Rattle.std.proofs.Common.{◌≡◌, ℕ, zero, suc, ◌+◌, List, [], ◌∷◌, ◌++◌, Ok, Err, sym, ◌∙◌, ap, subst, append_assoc, arith, inl, inr}
use Rattle.std.proofs.lemmas.List.{append_cancel_right}
use Rattle.sql_grammar.specs.Lexeme.{Lexeme, first}
use Rattle.sql_grammar.specs.declared.fault.Fault.{Fault}
use Rattle.sql_grammar.specs.declared.fault.Fault.TheVariants.{Syntax, TooDeep}
use Rattle.sql_grammar.specs.declared.tree.statement.Script.{Script}
use Rattle.sql_grammar.specs.Reading.{Outcome, and_then, read}
use Rattle.sql_grammar.specs.Statements.{script}
use Rattle.sql_grammar.specs.Nesting.{readers}
use Rattle.sql_grammar.specs.Verdict.{IsScript, Begins, limit, place_of, SyntaxAt, TooDeepAt}
use Rattle.sql_grammar.specs.Whole.{ended, whole}
use Rattle.sql_grammar.proofs.Laws.{MayGoOn, Says, Reads, Stops, append_nil}
use Rattle.sql_grammar.proofs.Grown.{Grown, Beyond, rest_of}
use Rattle.sql_grammar.proofs.Rules.{whole_right, whole_complete, whole_grown, no_tokens}

up : ℕ → ℕ → ℕ
up zero d = d
up (suc k) d = suc (up k d)

up_is : (k d : ℕ) → up k d ≡ k + d
unfolding up
up_is zero d = omega arith
up_is (suc k) d = let e : up k d ≡ k + d = up_is k d in omega arith

up_comm : (k d : ℕ) → up k d ≡ up d k
up_comm k d = let e : up k d ≡ k + d = up_is k d in let f : up d k ≡ d + k = up_is d k in omega arith

raise_ok : (k d : ℕ) (w : List Lexeme) (p : Script × List Lexeme) → whole d w ≡ Ok p → whole (up k d) w ≡ Ok p
unfolding up
raise_ok zero d w p e = e
raise_ok (suc k) d w p e = subst (λ o. Grown o (whole (suc (up k d)) w)) (raise_ok k d w p e) (whole_grown (up k d) w)

raise_syntax : (k d : ℕ) (w r : List Lexeme) → whole d w ≡ Err (Syntax, r) → whole (up k d) w ≡ Err (Syntax, r)
unfolding up
raise_syntax zero d w r e = e
raise_syntax (suc k) d w r e = subst (λ o. Grown o (whole (suc (up k d)) w)) (raise_syntax k d w r e) (whole_grown (up k d) w)

-- what is a script at some depth is no fault of syntax at another
clash : (d k : ℕ) (w r : List Lexeme) (s : Script) → IsScript d s w → whole k w ≡ Err (Syntax, r) → ⊥
clash d k w r s g e =
    let a : whole (up k d) w ≡ Ok (s, []) = raise_ok k d w (s, []) (whole_complete d s w g) in
    let b : whole (up d k) w ≡ Err (Syntax, r) = raise_syntax d k w r e in
    let c : whole (up k d) w ≡ whole (up d k) w = ap (λ n. whole n w) (up_comm k d) in
    cc

stops_of : (d : ℕ) (w : List Lexeme) (f : Fault) (r : List Lexeme) → whole d w ≡ Err (f, r) → Stops (whole d) (IsScript d) w f r
stops_of d w f r e = subst (Says (whole d) (IsScript d) w) e (whole_right d w)

after_one : (u v : List Lexeme) (x : Lexeme) → u ++ x ∷ v ≡ (u ++ x ∷ []) ++ v
after_one u v x = sym (append_assoc u (x ∷ []) v)

begins_of : (d : ℕ) (u : List Lexeme) → MayGoOn (IsScript d) u → Begins d u
begins_of d u (inl e) = subst (Begins d) (sym e) (no_tokens d)
begins_of d u (inr v) = v

pub syntax_at : (end : ℕ) (w : List Lexeme) (place : ℕ) (r : List Lexeme) → whole limit w ≡ Err (Syntax, r) → place ≡ place_of end r → SyntaxAt end w place
syntax_at end w place r e h =
    let s = stops_of limit w Syntax r e in
    record {
      front = s.front;
      rest = r;
      whole = s.whole;
      stands = h;
      before = begins_of limit s.front s.viable;
      at = λ depth x more k b. clash depth limit (s.front ++ (x ∷ b.1)) (x ∷ b.1) b.0 (subst (IsScript depth b.0) (sym (after_one s.front b.1 x)) b.2) (s.again (x ∷ b.1) (sym (ap first k)));
      ends = λ depth t k g. clash depth limit w r t g e;
    }

-- the tokens up to where the deeper reading came
reached : (w : List Lexeme) (o : Outcome Script) → Says (whole (limit + 1)) (IsScript (limit + 1)) w o → (u : List Lexeme) × (w ≡ u ++ rest_of o) × Begins (limit + 1) u
reached w (Ok p) s = (s.front, s.whole, (p.0, [], subst (IsScript (limit + 1) p.0) (sym (append_nil s.front)) s.spelled))
reached w (Err q) s = (s.front, s.whole, begins_of (limit + 1) s.front s.viable)

deep : (end : ℕ) (w : List Lexeme) (place : ℕ) (r : List Lexeme) → place ≡ place_of end r → Stops (whole limit) (IsScript limit) w TooDeep r → Beyond r (rest_of (whole (limit + 1) w)) → TooDeepAt w place
deep end w place r h s b =
    let rest : List Lexeme = rest_of (whole (limit + 1) w) in
    let all : w ≡ s.front ++ b.token ∷ (b.more ++ rest) = s.whole ∙ ap (λ z. s.front ++ z) b.whole in
    let k = reached w (whole (limit + 1) w) (whole_right (limit + 1) w) in
    let same : k.0 ≡ s.front ++ b.token ∷ b.more = append_cancel_right k.0 (s.front ++ b.token ∷ b.more) rest (sym k.1 ∙ all ∙ sym (append_assoc s.front (b.token ∷ b.more) rest)) in
    let long : k.0 ++ k.2.1 ≡ (s.front ++ b.token ∷ []) ++ (b.more ++ k.2.1) =
    ap (λ z. z ++ k.2.1) (same ∙ after_one s.front b.more b.token) ∙ append_assoc (s.front ++ b.token ∷ []) b.more k.2.1 in
    record {
      front = s.front;
      token = b.token;
      more = b.more ++ rest;
      whole = all;
      stands = h ∙ ap (place_of end) b.whole;
      before = begins_of limit s.front s.viable;
      at = λ c.
          let g : IsScript limit c.0 (s.front ++ (b.token ∷ c.1)) = subst (IsScript limit c.0) (sym (after_one s.front c.1 b.token)) c.2 in
          let p : whole limit (s.front ++ (b.token ∷ c.1)) ≡ Ok (c.0, []) = whole_complete limit c.0 (s.front ++ (b.token ∷ c.1)) g in
          let q : whole limit (s.front ++ (b.token ∷ c.1)) ≡ Err (TooDeep, b.token ∷ c.1) = s.again (b.token ∷ c.1) (sym (ap first b.whole)) in
          cc;
      deeper = (k.2.0, b.more ++ k.2.1, subst (IsScript (limit + 1) k.2.0) long k.2.2);
    }

pub too_deep_at : (end : ℕ) (w : List Lexeme) (place : ℕ) (r : List Lexeme) → whole limit w ≡ Err (TooDeep, r) → place ≡ place_of end r → TooDeepAt w place
too_deep_at end w place r e h = deep end w place r h (stops_of limit w TooDeep r e) (subst (λ o. Grown o (whole (limit + 1) w)) e (whole_grown limit w))

only_end : (s : Script) (w : List Lexeme) (a : Script) (r : List Lexeme) → ended s w ≡ Ok (a, r) → r ≡ []
only_end s [] a r e = let i : ◌≡◌ {A = Script × List Lexeme} (s, []) (a, r) = cc in sym (ap (λ p. p.1) i)
only_end s (x ∷ w) a r e = cc

end_of : (o : Outcome Script) (a : Script) (r : List Lexeme) → and_then o ended ≡ Ok (a, r) → r ≡ []
end_of (Ok p) a r e = only_end p.0 p.1 a r e
end_of (Err q) a r e = cc

rest_is : (d : ℕ) (w : List Lexeme) (a : Script) (r : List Lexeme) → whole d w ≡ Ok (a, r) → r ≡ []
unfolding whole
rest_is d w a r e = end_of (read (readers d) script w) a r e

pub is_script : (d : ℕ) (w : List Lexeme) (a : Script) (r : List Lexeme) → whole d w ≡ Ok (a, r) → IsScript d a w
is_script d w a r e =
    let s : Reads (whole d) (IsScript d) w a r = subst (Says (whole d) (IsScript d) w) e (whole_right d w) in
    subst (IsScript d a) (sym (s.whole ∙ ap (λ z. s.front ++ z) (rest_is d w a r e) ∙ append_nil s.front)) s.spelled

pub only_script : (d : ℕ) (w : List Lexeme) (a s : Script) (r : List Lexeme) → whole d w ≡ Ok (a, r) → IsScript d s w → a ≡ s
only_script d w a s r e g = let f : whole d w ≡ Ok (s, []) = whole_complete d s w g in let i : ◌≡◌ {A = Script × List Lexeme} (a, r) (s, []) = cc in ap (λ p. p.0) i

pub no_script : (d : ℕ) (w : List Lexeme) (s : Script) (q : Fault × List Lexeme) → whole d w ≡ Err q → IsScript d s w → ⊥
no_script d w s q e g = let f : whole d w ≡ Ok (s, []) = whole_complete d s w g in cc
