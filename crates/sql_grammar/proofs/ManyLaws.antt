-- What holds of a rule holds of any number of it.
use Rattle.std.proofs.Common.{◌≡◌, ℕ, zero, suc, ◌≤◌, List, [], ◌∷◌, ◌++◌, length, Option, Some, None, Ok, Err, Bool, true, false, refl, sym, ◌∙◌, ap, subst, append_assoc, arith, length-append, if◌then◌else◌, inl, inr}
use Rattle.sql_grammar.specs.Lexeme.{Lexeme, first}
use Rattle.sql_grammar.specs.declared.fault.Fault.{Fault}
use Rattle.sql_grammar.specs.Derives.{Many, none, more}
use Rattle.sql_grammar.specs.Reading.{Outcome, Parser, and_then, many_from}
use Rattle.sql_grammar.proofs.Laws.{Viable, MayGoOn, Reads, Says, IsRight, first_append}

-- the tokens begin with one that begins the rule
pub record Begins (starts : Option Lexeme → Bool) (u : List Lexeme) : Type 0 where
  pub token : Lexeme
  pub rest : List Lexeme
  pub whole : u ≡ token ∷ rest
  pub begin : starts (Some token) ≡ true

module _ {A : Type 0} (starts : Option Lexeme → Bool) (P : Parser A) (L : A → List Lexeme → Type 0) (no_end : starts None ≡ false)
    (begun : (a : A) (u : List Lexeme) → L a u → Begins starts u) where
  goes_on : (m : ℕ) (w : List Lexeme) → starts (first w) ≡ true → many_from starts P (suc m) w ≡ and_then (P w) (λ a r. and_then (many_from starts P m r) (λ list s. Ok (a ∷ list, s)))
  unfolding many_from
  goes_on m w e = ap (λ (b : Bool). if b then and_then (P w) (λ a r. and_then (many_from starts P m r) (λ list s. Ok (a ∷ list, s))) else Ok ([], w)) e

  ends : (m : ℕ) (w : List Lexeme) → starts (first w) ≡ false → many_from starts P m w ≡ Ok ([], w)
  unfolding many_from
  ends zero w e = refl
  ends (suc m) w e = ap (λ (b : Bool). if b then and_then (P w) (λ a r. and_then (many_from starts P m r) (λ list s. Ok (a ∷ list, s))) else Ok ([], w)) e

  -- with enough turns allowed
  pub record AllRead (w : List Lexeme) (list : List A) (rest : List Lexeme) : Type 0 where
    pub front : List Lexeme
    pub whole : w ≡ front ++ rest
    pub spelled : Many L list front
    pub again : (m : ℕ) (r : List Lexeme) → length (front ++ r) ≤ m → first r ≡ first rest → many_from starts P m (front ++ r) ≡ Ok (list, r)

  pub record OneStops (w : List Lexeme) (why : Fault) (rest : List Lexeme) : Type 0 where
    pub front : List Lexeme
    pub whole : w ≡ front ++ rest
    pub viable : Viable (Many L) front
    pub again : (m : ℕ) (r : List Lexeme) → length (front ++ r) ≤ m → first r ≡ first rest → many_from starts P m (front ++ r) ≡ Err (why, r)

  ManySay : List Lexeme → Outcome (List A) → Type 0
  ManySay w (Ok p) = AllRead w p.0 p.1
  ManySay w (Err p) = OneStops w p.0 p.1

  shorter : (x : Lexeme) (v u r : List Lexeme) (n : ℕ) → u ≡ x ∷ v → length (u ++ r) ≤ suc n → length r ≤ n
  shorter x v u r n e h = let g : length ((x ∷ v) ++ r) ≤ suc n = subst (λ z. length (z ++ r) ≤ suc n) e h in omega (arith, length-append v r)

  -- one more, with m turns allowed
  turned : (m : ℕ) (a : A) (u r : List Lexeme) → L a u → length (u ++ r) ≤ m → P (u ++ r) ≡ Ok (a, r) → (k : ℕ) × (length r ≤ k) × (many_from starts P m (u ++ r) ≡ and_then (many_from starts P k r) (λ list s. Ok (a ∷ list, s)))
  turned zero a u r t h e = let s = begun a u t in let g : length ((s.token ∷ s.rest) ++ r) ≤ 0 = subst (λ z. length (z ++ r) ≤ 0) s.whole h in absurd (omega arith)
  turned (suc m) a u r t h e = let s = begun a u t in (
    m,
    shorter s.token s.rest u r m s.whole h,
    goes_on m (u ++ r) (ap (λ z. starts (first (z ++ r))) s.whole ∙ s.begin) ∙ ap (λ o. and_then o (λ a r. and_then (many_from starts P m r) (λ list s. Ok (a ∷ list, s)))) e,
  )

  stopped : (m : ℕ) (w : List Lexeme) (why : Fault) (r : List Lexeme) → starts (first w) ≡ true → length w ≤ m → P w ≡ Err (why, r) → many_from starts P m w ≡ Err (why, r)
  stopped zero [] why r e h t = absurd (let f : false ≡ true = sym no_end ∙ e in cc)
  stopped zero (x ∷ w) why r e h t = absurd (omega arith)
  stopped (suc m) w why r e h t = goes_on m w e ∙ ap (λ o. and_then o (λ a r. and_then (many_from starts P m r) (λ list s. Ok (a ∷ list, s)))) t

  module _ (right : IsRight P L) where
    rest_say : (w : List Lexeme) (a : A) (r : List Lexeme) → Reads P L w a r → (o : Outcome (List A)) → ManySay r o → ManySay w (and_then o (λ list s. Ok (a ∷ list, s)))
    unfolding ManySay
    rest_say w a r p (Ok q) s = record {
      front = p.front ++ s.front;
      whole = p.whole ∙ ap (λ x. p.front ++ x) s.whole ∙ sym (append_assoc p.front s.front q.1);
      spelled = more p.spelled s.spelled;
      again = λ m t h e.
          let h2 : length (p.front ++ (s.front ++ t)) ≤ m = subst (λ z. length z ≤ m) (append_assoc p.front s.front t) h in
          let k = turned m a p.front (s.front ++ t) p.spelled h2 (p.again (s.front ++ t) (first_append s.front t q.1 e ∙ ap first (sym s.whole))) in
          ap (many_from starts P m) (append_assoc p.front s.front t) ∙ k.2 ∙ ap (λ o. and_then o (λ list s. Ok (a ∷ list, s))) (s.again k.0 t k.1 e);
    }
    rest_say w a r p (Err q) s = record {
      front = p.front ++ s.front;
      whole = p.whole ∙ ap (λ x. p.front ++ x) s.whole ∙ sym (append_assoc p.front s.front q.1);
      viable = (a ∷ s.viable.0, s.viable.1, subst (Many L (a ∷ s.viable.0)) (sym (append_assoc p.front s.front s.viable.1)) (more p.spelled s.viable.2));
      again = λ m t h e.
          let h2 : length (p.front ++ (s.front ++ t)) ≤ m = subst (λ z. length z ≤ m) (append_assoc p.front s.front t) h in
          let k = turned m a p.front (s.front ++ t) p.spelled h2 (p.again (s.front ++ t) (first_append s.front t q.1 e ∙ ap first (sym s.whole))) in
          ap (many_from starts P m) (append_assoc p.front s.front t) ∙ k.2 ∙ ap (λ o. and_then o (λ list s. Ok (a ∷ list, s))) (s.again k.0 t k.1 e);
    }

    viable_one : (front : List Lexeme) → MayGoOn L front → Viable (Many L) front
    viable_one front (inl e) = ([], [], subst (Many L []) (sym (ap (λ z. z ++ []) e)) none)
    viable_one front (inr v) = (v.0 ∷ [], v.1 ++ [], subst (Many L (v.0 ∷ [])) (append_assoc front v.1 []) (more v.2 none))

    turn_says : (n : ℕ) (w : List Lexeme) → starts (first w) ≡ true → length w ≤ suc n
        → ((r : List Lexeme) → length r ≤ n → ManySay r (many_from starts P n r))
        → (o : Outcome A) → Says P L w o → ManySay w (and_then o (λ a r. and_then (many_from starts P n r) (λ list s. Ok (a ∷ list, s))))
    unfolding ManySay
    turn_says n w e h each (Err q) s = record {
      front = s.front;
      whole = s.whole;
      viable = viable_one s.front s.viable;
      again = λ m t g f. stopped m (s.front ++ t) q.0 t (ap starts (first_append s.front t q.1 f ∙ ap first (sym s.whole)) ∙ e) g (s.again t f);
    }
    turn_says n w e h each (Ok p) s =
        let g = begun p.0 s.front s.spelled in
        rest_say w p.0 p.1 s (many_from starts P n p.1)
        (each p.1 (shorter g.token g.rest s.front p.1 n g.whole (subst (λ z. length z ≤ suc n) s.whole h)))

    none_say : (w : List Lexeme) → starts (first w) ≡ false → ManySay w (Ok ([], w))
    unfolding ManySay
    none_say w e = record { front = []; whole = refl; spelled = none; again = λ m r h f. ends m r (ap starts f ∙ e) }

    by_next : (n : ℕ) (w : List Lexeme) → length w ≤ suc n → ((r : List Lexeme) → length r ≤ n → ManySay r (many_from starts P n r))
        → (b : Bool) → starts (first w) ≡ b → ManySay w (many_from starts P (suc n) w)
    by_next n w h each true e = subst (ManySay w) (sym (goes_on n w e)) (turn_says n w e h each (P w) (right w))
    by_next n w h each false e = subst (ManySay w) (sym (ends (suc n) w e)) (none_say w e)

    many_say : (n : ℕ) (w : List Lexeme) → length w ≤ n → ManySay w (many_from starts P n w)
    many_say zero [] h = subst (ManySay []) (sym (ends zero [] no_end)) (none_say [] no_end)
    many_say zero (x ∷ w) h = absurd (omega arith)
    many_say (suc n) w h = by_next n w h (λ r g. many_say n r g) (starts (first w)) refl

    of_many : (w : List Lexeme) (o : Outcome (List A)) → ManySay w o → Says (λ w. many_from starts P (length w) w) (Many L) w o
    unfolding ManySay
    of_many w (Ok p) s = record { front = s.front; whole = s.whole; spelled = s.spelled; again = λ r e. s.again (length (s.front ++ r)) r (omega arith) e }
    of_many w (Err p) s = record { front = s.front; whole = s.whole; viable = inr s.viable; again = λ r e. s.again (length (s.front ++ r)) r (omega arith) e }

    pub many_right : IsRight (λ w. many_from starts P (length w) w) (Many L)
    many_right w = of_many w (many_from starts P (length w) w) (many_say (length w) w (omega arith))

  module _ (inner : Option Lexeme → Bool) (complete : (a : A) (u r : List Lexeme) → L a u → inner (first r) ≡ false → P (u ++ r) ≡ Ok (a, r))
      (apart : (x : Lexeme) → starts (Some x) ≡ true → inner (Some x) ≡ false) where
    next_ends : {list : List A} {v : List Lexeme} (r : List Lexeme) → Many L list v → inner (first r) ≡ false → inner (first (v ++ r)) ≡ false
    next_ends r none e = e
    next_ends r (more {a} {u} {list} {v} t ts) e =
        let s = begun a u t in
        subst (λ z. inner (first ((z ++ v) ++ r)) ≡ false) (sym s.whole) (apart s.token s.begin)

    all_read : {list : List A} {v : List Lexeme} (m : ℕ) (r : List Lexeme) → Many L list v → inner (first r) ≡ false → starts (first r) ≡ false → length (v ++ r) ≤ m → many_from starts P m (v ++ r) ≡ Ok (list, r)
    all_read m r none e f h = ends m r f
    all_read m r (more {a} {u} {list} {v} t ts) e f h =
        let h2 : length (u ++ (v ++ r)) ≤ m = subst (λ z. length z ≤ m) (append_assoc u v r) h in
        let k = turned m a u (v ++ r) t h2 (complete a u (v ++ r) t (next_ends r ts e)) in
        ap (many_from starts P m) (append_assoc u v r) ∙ k.2 ∙ ap (λ o. and_then o (λ list s. Ok (a ∷ list, s))) (all_read k.0 r ts e f k.1)

    pub many_complete : (list : List A) (u r : List Lexeme) → Many L list u → inner (first r) ≡ false → starts (first r) ≡ false → many_from starts P (length (u ++ r)) (u ++ r) ≡ Ok (list, r)
    many_complete list u r t e f = all_read (length (u ++ r)) r t e f (omega arith)
