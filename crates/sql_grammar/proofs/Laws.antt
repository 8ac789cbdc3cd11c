-- What holds of a parser and of the language that it reads, part by part.
use Rattle.std.proofs.Common.{◌≡◌, ℕ, List, [], ◌∷◌, ◌++◌, Option, Some, None, Result, Ok, Err, Bool, true, false, refl, sym, ◌∙◌, ap, subst, append_assoc, if◌then◌else◌, ◌⊎◌, inl, inr}
use Rattle.std.proofs.lemmas.List.{append_cancel_right}
use Rattle.sql_grammar.specs.Lexeme.{Lexeme, first, tail, sees, is_among, lexeme_at}
use Rattle.sql_grammar.specs.declared.fault.Fault.{Fault}
use Rattle.sql_grammar.specs.declared.fault.Fault.TheVariants.{Syntax, TooDeep}
use Rattle.sql_grammar.specs.Derives.{Language, One, Both, Nest, Marked, Phrase}
use Rattle.sql_grammar.specs.Reading.{Outcome, Parser, and_then, taken, opened, sees_phrase}

-- some word goes on from these tokens
abbrev pub Viable : {A : Type 0} → (A → List Lexeme → Type 0) → List Lexeme → Type 0
Viable {A} L u = (a : A) × (v : List Lexeme) × L a (u ++ v)

-- nothing was read, or some word goes on from it
abbrev pub MayGoOn : {A : Type 0} → (A → List Lexeme → Type 0) → List Lexeme → Type 0
MayGoOn L u = (u ≡ []) ⊎ Viable L u

-- The parser read the front, which spells the value, and whatever comes after the same next token.
pub record Reads {A : Type 0} (P : List Lexeme → Result (A × List Lexeme) (Fault × List Lexeme)) (L : A → List Lexeme → Type 0) (w : List Lexeme) (a : A) (rest : List Lexeme) : Type 0 where
  pub front : List Lexeme
  pub whole : w ≡ front ++ rest
  pub spelled : L a front
  pub again : (r : List Lexeme) → first r ≡ first rest → P (front ++ r) ≡ Ok (a, r)

-- The parser stopped after the front, from which some word goes on, and does so before the same next token.
pub record Stops {A : Type 0} (P : List Lexeme → Result (A × List Lexeme) (Fault × List Lexeme)) (L : A → List Lexeme → Type 0) (w : List Lexeme) (why : Fault) (rest : List Lexeme) : Type 0 where
  pub front : List Lexeme
  pub whole : w ≡ front ++ rest
  pub viable : MayGoOn L front
  pub again : (r : List Lexeme) → first r ≡ first rest → P (front ++ r) ≡ Err (why, r)

abbrev pub Says : {A : Type 0} → Parser A → Language A → List Lexeme → Outcome A → Type 0
Says P L w (Ok p) = Reads P L w p.0 p.1
Says P L w (Err f) = Stops P L w f.0 f.1

abbrev pub IsRight : {A : Type 0} → Parser A → Language A → Type 0
IsRight P L = (w : List Lexeme) → Says P L w (P w)

pub append_nil : (u : List Lexeme) → u ++ [] ≡ u
append_nil [] = refl
append_nil (x ∷ u) = ap (λ v. x ∷ v) (append_nil u)

pub first_append : (u r s : List Lexeme) → first r ≡ first s → first (u ++ r) ≡ first (u ++ s)
first_append [] r s e = e
first_append (x ∷ u) r s e = refl

pub empty_says : {A : Type 0} (a : A) (w : List Lexeme) → Reads (λ w. Ok (a, w)) (λ b w. (b ≡ a) × (w ≡ [])) w a w
empty_says a w = record { front = []; whole = refl; spelled = (refl, refl); again = λ r e. refl }

-- ---- one token

module _ {A : Type 0} (classes : List ℕ) (f : Lexeme → A) where
  abbrev pub one_read : Parser A
  one_read w = if sees classes (first w) then taken f (first w) (tail w) else Err (Syntax, w)

  one_cases : (x : Lexeme) (w : List Lexeme) (b : Bool) → is_among x.class classes ≡ b → Says one_read (One classes f) (x ∷ w) (if b then taken f (Some x) w else Err (Syntax, x ∷ w))
  one_cases x w true e = record {
    front = x ∷ [];
    whole = refl;
    spelled = record { token = x; alone = refl; among = e; means = refl };
    again = λ r h. ap (λ (b : Bool). if b then taken f (Some x) r else Err (Syntax, x ∷ r)) e;
  }
  one_cases x w false e = record {
    front = [];
    whole = refl;
    viable = inl refl;
    again = λ r h. ap (λ o. if sees classes o then taken f o (tail r) else Err (Syntax, r)) h ∙ ap (λ (b : Bool). if b then taken f (Some x) (tail r) else Err (Syntax, r)) e;
  }

  pub one_right : (w : List Lexeme) → Says one_read (One classes f) w (one_read w)
  one_right [] = record { front = []; whole = refl; viable = inl refl; again = λ r h. ap (λ o. if sees classes o then taken f o (tail r) else Err (Syntax, r)) h }
  one_right (x ∷ w) = one_cases x w (is_among x.class classes) refl

  pub one_complete : (a : A) (u r : List Lexeme) → One classes f a u → one_read (u ++ r) ≡ Ok (a, r)
  one_complete a u r s = ap (λ z. one_read (z ++ r)) s.alone ∙ ap (λ (b : Bool). if b then taken f (Some s.token) r else Err (Syntax, s.token ∷ r)) s.among ∙ ap (λ z. Ok (z, r)) (sym s.means)

-- ---- one rule after another

module _ {A B C : Type 0} (f : A → B → C) (P : Parser A) (Q : Parser B) (L : Language A) (M : Language B) where
  abbrev pub both_read : Parser C
  both_read w = and_then (P w) (λ a r. and_then (Q r) (λ b s. Ok (f a b, s)))

  second : (w : List Lexeme) (a : A) (r : List Lexeme) → Reads P L w a r → Viable M [] → (o : Outcome B) → Says Q M r o → Says both_read (Both f L M) w (and_then o (λ b s. Ok (f a b, s)))
  second w a r p some (Ok q) s = record {
    front = p.front ++ s.front;
    whole = p.whole ∙ ap (λ x. p.front ++ x) s.whole ∙ sym (append_assoc p.front s.front q.1);
    spelled = record { value = a; next = q.0; front = p.front; back = s.front; whole = refl; fore = p.spelled; aft = s.spelled; means = refl };
    again = λ t e. ap both_read (append_assoc p.front s.front t)
        ∙ ap (λ o. and_then o (λ a r. and_then (Q r) (λ b s. Ok (f a b, s)))) (p.again (s.front ++ t) (first_append s.front t q.1 e ∙ ap first (sym s.whole)))
        ∙ ap (λ o. and_then o (λ b s. Ok (f a b, s))) (s.again t e);
  }
  second w a r p some (Err q) s = record {
    front = p.front ++ s.front;
    whole = p.whole ∙ ap (λ x. p.front ++ x) s.whole ∙ sym (append_assoc p.front s.front q.1);
    viable = goes s.viable;
    again = λ t e. ap both_read (append_assoc p.front s.front t)
        ∙ ap (λ o. and_then o (λ a r. and_then (Q r) (λ b s. Ok (f a b, s)))) (p.again (s.front ++ t) (first_append s.front t q.1 e ∙ ap first (sym s.whole)))
        ∙ ap (λ o. and_then o (λ b s. Ok (f a b, s))) (s.again t e);
  }
    where
      goes : MayGoOn M s.front → MayGoOn (Both f L M) (p.front ++ s.front)
      goes (inl e) = inr (f a some.0, some.1, record { value = a; next = some.0; front = p.front; back = some.1; whole = ap (λ z. (p.front ++ z) ++ some.1) e ∙ append_assoc p.front [] some.1; fore = p.spelled; aft = some.2; means = refl })
      goes (inr v) = inr (f a v.0, v.1, record { value = a; next = v.0; front = p.front; back = s.front ++ v.1; whole = append_assoc p.front s.front v.1; fore = p.spelled; aft = v.2; means = refl })

  both_says : (w : List Lexeme) → ((r : List Lexeme) → Says Q M r (Q r)) → Viable M [] → (o : Outcome A) → Says P L w o → Says both_read (Both f L M) w (and_then o (λ a r. and_then (Q r) (λ b s. Ok (f a b, s))))
  both_says w next some (Ok p) s = second w p.0 p.1 s some (Q p.1) (next p.1)
  both_says w next some (Err q) s = record {
    front = s.front;
    whole = s.whole;
    viable = goes s.viable;
    again = λ t e. ap (λ o. and_then o (λ a r. and_then (Q r) (λ b s. Ok (f a b, s)))) (s.again t e);
  }
    where
      goes : MayGoOn L s.front → MayGoOn (Both f L M) s.front
      goes (inl e) = inl e
      goes (inr v) = inr (f v.0 some.0, v.1 ++ some.1, record { value = v.0; next = some.0; front = s.front ++ v.1; back = some.1; whole = sym (append_assoc s.front v.1 some.1); fore = v.2; aft = some.2; means = refl })

  pub both_right : IsRight P L → IsRight Q M → Viable M [] → IsRight both_read (Both f L M)
  both_right p q some w = both_says w q some (P w) (p w)

  pub both_viable : Viable L [] → Viable M [] → Viable (Both f L M) []
  both_viable p q = (f p.0 q.0, p.1 ++ q.1, record { value = p.0; next = q.0; front = p.1; back = q.1; whole = refl; fore = p.2; aft = q.2; means = refl })

  pub both_complete : (c : C) (u r : List Lexeme) (s : Both f L M c u) → P (s.front ++ (s.back ++ r)) ≡ Ok (s.value, s.back ++ r) → Q (s.back ++ r) ≡ Ok (s.next, r) → both_read (u ++ r) ≡ Ok (c, r)
  both_complete c u r s p q = ap (λ w. both_read (w ++ r)) s.whole ∙ ap both_read (append_assoc s.front s.back r)
      ∙ ap (λ o. and_then o (λ a r. and_then (Q r) (λ b s. Ok (f a b, s)))) p
      ∙ ap (λ o. and_then o (λ b t. Ok (f s.value b, t))) q
      ∙ ap (λ z. Ok (z, r)) (sym s.means)

-- ---- a choice by the next token

module _ {A : Type 0} (by : Option Lexeme → Parser A) (L : Language A) where
  pub look_says : (w : List Lexeme) (o : Outcome A) → Says (by (first w)) L w o → Says (λ w. by (first w) w) L w o
  look_says w (Ok p) s = record {
    front = s.front;
    whole = s.whole;
    spelled = s.spelled;
    again = λ r e. ap (λ x. by x (s.front ++ r)) (first_append s.front r p.1 e ∙ ap first (sym s.whole)) ∙ s.again r e;
  }
  look_says w (Err p) s = record {
    front = s.front;
    whole = s.whole;
    viable = s.viable;
    again = λ r e. ap (λ x. by x (s.front ++ r)) (first_append s.front r p.1 e ∙ ap first (sym s.whole)) ∙ s.again r e;
  }

pub wider : {A : Type 0} (P : Parser A) (L M : Language A) → ((a : A) (u : List Lexeme) → L a u → M a u) → (w : List Lexeme) (o : Outcome A) → Says P L w o → Says P M w o
wider P L M more w (Ok p) s = record { front = s.front; whole = s.whole; spelled = more p.0 s.front s.spelled; again = s.again }
wider P L M more w (Err p) s = record { front = s.front; whole = s.whole; viable = goes s.viable; again = s.again }
  where
    goes : MayGoOn L s.front → MayGoOn M s.front
    goes (inl e) = inl e
    goes (inr v) = inr (v.0, v.1, more v.0 (s.front ++ v.1) v.2)

-- ---- a level deeper

abbrev pub entered : {A B : Type 0} → (Lexeme → A → B) → Option (Parser A) → Parser B
entered f o w = and_then (opened o w) (λ a r. Ok (f (lexeme_at (first w)) a, r))

abbrev pub inside : {A B : Type 0} → (Lexeme → A → B) → Parser A → Option Lexeme → Parser B
inside f p x w = and_then (p w) (λ a r. Ok (f (lexeme_at x) a, r))

module _ {A B : Type 0} (openers : List ℕ) (f : Lexeme → A → B) (P : Parser A) (L : Language A) where
  abbrev pub nest_read : Parser B
  nest_read w = if sees openers (first w) then entered f (Some P) w else Err (Syntax, w)

  nest_seen : (x : Lexeme) (r : List Lexeme) → is_among x.class openers ≡ true → nest_read (x ∷ r) ≡ and_then (P r) (λ a s. Ok (f x a, s))
  nest_seen x r e = ap (λ (b : Bool). if b then inside f P (Some x) r else Err (Syntax, x ∷ r)) e

  nest_inside : (x : Lexeme) (w : List Lexeme) → is_among x.class openers ≡ true → Viable L [] → (o : Outcome A) → Says P L w o → Says nest_read (Nest openers f L) (x ∷ w) (and_then o (λ a s. Ok (f x a, s)))
  nest_inside x w e some (Ok p) s = record {
    front = x ∷ s.front;
    whole = ap (λ z. x ∷ z) s.whole;
    spelled = record { token = x; value = p.0; rest = s.front; whole = refl; opens = e; inside = s.spelled; means = refl };
    again = λ r h. nest_seen x (s.front ++ r) e ∙ ap (λ o. and_then o (λ a s. Ok (f x a, s))) (s.again r h);
  }
  nest_inside x w e some (Err p) s = record {
    front = x ∷ s.front;
    whole = ap (λ z. x ∷ z) s.whole;
    viable = goes s.viable;
    again = λ r h. nest_seen x (s.front ++ r) e ∙ ap (λ o. and_then o (λ a s. Ok (f x a, s))) (s.again r h);
  }
    where
      goes : MayGoOn L s.front → MayGoOn (Nest openers f L) (x ∷ s.front)
      goes (inl h) = inr (f x some.0, some.1, record { token = x; value = some.0; rest = some.1; whole = ap (λ z. x ∷ (z ++ some.1)) h; opens = e; inside = some.2; means = refl })
      goes (inr v) = inr (f x v.0, v.1, record { token = x; value = v.0; rest = s.front ++ v.1; whole = refl; opens = e; inside = v.2; means = refl })

  nest_cases : IsRight P L → Viable L [] → (x : Lexeme) (w : List Lexeme) (b : Bool) → is_among x.class openers ≡ b → Says nest_read (Nest openers f L) (x ∷ w) (if b then inside f P (Some x) w else Err (Syntax, x ∷ w))
  nest_cases p some x w true e = nest_inside x w e some (P w) (p w)
  nest_cases p some x w false e = record {
    front = [];
    whole = refl;
    viable = inl refl;
    again = λ r h. ap (λ o. if sees openers o then inside f P o (tail r) else Err (Syntax, r)) h ∙ ap (λ (b : Bool). if b then inside f P (Some x) (tail r) else Err (Syntax, r)) e;
  }

  pub nest_right : IsRight P L → Viable L [] → IsRight nest_read (Nest openers f L)
  nest_right p some [] = record { front = []; whole = refl; viable = inl refl; again = λ r h. ap (λ o. if sees openers o then inside f P o (tail r) else Err (Syntax, r)) h }
  nest_right p some (x ∷ w) = nest_cases p some x w (is_among x.class openers) refl

  pub nest_complete : (b : B) (u r : List Lexeme) (s : Nest openers f L b u) → P (s.rest ++ r) ≡ Ok (s.value, r) → nest_read (u ++ r) ≡ Ok (b, r)
  nest_complete b u r s p = ap (λ z. nest_read (z ++ r)) s.whole ∙ nest_seen s.token (s.rest ++ r) s.opens ∙ ap (λ o. and_then o (λ a t. Ok (f s.token a, t))) p ∙ ap (λ z. Ok (z, r)) (sym s.means)

-- where nothing may nest
module _ {A B : Type 0} (openers : List ℕ) (f : Lexeme → A → B) (L : Language A) where
  abbrev pub deep_read : Parser B
  deep_read w = if sees openers (first w) then entered f None w else Err (Syntax, w)

  deep_cases : (w : List Lexeme) (b : Bool) → sees openers (first w) ≡ b → Says deep_read (Nest openers f L) w (if b then Err (TooDeep, w) else Err (Syntax, w))
  deep_cases w true e = record { front = []; whole = refl; viable = inl refl; again = λ r h. ap (λ o. if sees openers o then Err (TooDeep, r) else Err (Syntax, r)) h ∙ ap (λ (b : Bool). if b then Err (TooDeep, r) else Err (Syntax, r)) e }
  deep_cases w false e = record { front = []; whole = refl; viable = inl refl; again = λ r h. ap (λ o. if sees openers o then Err (TooDeep, r) else Err (Syntax, r)) h ∙ ap (λ (b : Bool). if b then Err (TooDeep, r) else Err (Syntax, r)) e }

  pub deep_right : IsRight deep_read (Nest openers f L)
  deep_right w = deep_cases w (sees openers (first w)) refl

-- ---- a rule with its first token

module _ {A B : Type 0} (f : Lexeme → A → B) (P : Parser A) (L : Language A) where
  abbrev pub marked_read : Parser B
  marked_read w = and_then (P w) (λ a r. taken (λ x. f x a) (first w) r)

  pub marked_says : ((a : A) (u : List Lexeme) → L a u → (x : Lexeme) × (v : List Lexeme) × (u ≡ x ∷ v)) → (w : List Lexeme) (o : Outcome A) → Says P L w o → Says marked_read (Marked f L) w (and_then o (λ a r. taken (λ x. f x a) (first w) r))
  marked_says some w (Ok p) s = let t = some p.0 s.front s.spelled in
      let h : first w ≡ Some t.0 = ap first s.whole ∙ ap (λ z. first (z ++ p.1)) t.2 in
      subst (λ o. Says marked_read (Marked f L) w (taken (λ x. f x p.0) o p.1)) (sym h) (record {
        front = s.front;
        whole = s.whole;
        spelled = record { token = t.0; value = p.0; rest = t.1; whole = t.2; spelled = s.spelled; means = refl };
        again = λ r k. ap (λ o. and_then o (λ a t. taken (λ x. f x a) (first (s.front ++ r)) t)) (s.again r k) ∙ ap (λ z. taken (λ x. f x p.0) (first (z ++ r)) r) t.2;
      })
  marked_says some w (Err q) s = record {
    front = s.front;
    whole = s.whole;
    viable = goes s.viable;
    again = λ r k. ap (λ o. and_then o (λ a t. taken (λ x. f x a) (first (s.front ++ r)) t)) (s.again r k);
  }
    where
      goes : MayGoOn L s.front → MayGoOn (Marked f L) s.front
      goes (inl e) = inl e
      goes (inr v) = let t = some v.0 (s.front ++ v.1) v.2 in inr (f t.0 v.0, v.1, record { token = t.0; value = v.0; rest = t.1; whole = t.2; spelled = v.2; means = refl })

  pub marked_complete : (b : B) (u r : List Lexeme) (s : Marked f L b u) → P (u ++ r) ≡ Ok (s.value, r) → marked_read (u ++ r) ≡ Ok (b, r)
  marked_complete b u r s p = ap (λ o. and_then o (λ a t. taken (λ x. f x a) (first (u ++ r)) t)) p ∙ ap (λ z. taken (λ x. f x s.value) (first (z ++ r)) r) s.whole ∙ ap (λ z. Ok (z, r)) (sym s.means)

-- ---- a phrase of three tokens, or else a rule that stops at the third of them

module _ {A : Type 0} (classes : List ℕ) (two three : ℕ) (f : Lexeme → A) (P : Parser A) (L : Language A) where
  abbrev pub phrase_read : Parser A
  phrase_read w = if sees_phrase classes two three w then taken f (first w) (tail (tail (tail w))) else P w

  -- the tokens begin with the phrase
  pub record Begun (w : List Lexeme) : Type 0 where
    pub x : Lexeme
    pub y : Lexeme
    pub z : Lexeme
    pub rest : List Lexeme
    pub whole : w ≡ x ∷ y ∷ z ∷ rest
    pub is_x : is_among x.class classes ≡ true
    pub is_y : is_among y.class (two ∷ []) ≡ true
    pub is_z : is_among z.class (three ∷ []) ≡ true

  both_true : (a b c : Bool) → (if a then (if b then c else false) else false) ≡ true → (a ≡ true) × (b ≡ true) × (c ≡ true)
  both_true true true c e = (refl, refl, e)
  both_true true false c e = cc
  both_true false b c e = cc

  pub begun : (w : List Lexeme) → sees_phrase classes two three w ≡ true → Begun w
  begun [] e = cc
  begun (x ∷ []) e = cut (is_among x.class classes) e
    where
      cut : (b : Bool) → (if b then false else false) ≡ true → Begun (x ∷ [])
      cut true h = cc
      cut false h = cc
  begun (x ∷ y ∷ []) e = cut (is_among x.class classes) (is_among y.class (two ∷ [])) e
    where
      cut : (a b : Bool) → (if a then (if b then false else false) else false) ≡ true → Begun (x ∷ y ∷ [])
      cut true true h = cc
      cut true false h = cc
      cut false b h = cc
  begun (x ∷ y ∷ z ∷ w) e = let t = both_true (is_among x.class classes) (is_among y.class (two ∷ [])) (is_among z.class (three ∷ [])) e in
      record { x = x; y = y; z = z; rest = w; whole = refl; is_x = t.0; is_y = t.1; is_z = t.2 }

  seen : (x y z : Lexeme) (r : List Lexeme) → is_among x.class classes ≡ true → is_among y.class (two ∷ []) ≡ true → is_among z.class (three ∷ []) ≡ true → sees_phrase classes two three (x ∷ y ∷ z ∷ r) ≡ true
  seen x y z r a b c = ap (λ (d : Bool). if d then (if is_among y.class (two ∷ []) then is_among z.class (three ∷ []) else false) else false) a
      ∙ ap (λ (d : Bool). if d then is_among z.class (three ∷ []) else false) b ∙ c

  module _ (stops : (x y z : Lexeme) (r : List Lexeme) → is_among x.class classes ≡ true → is_among y.class (two ∷ []) ≡ true → is_among z.class (three ∷ []) ≡ true → P (x ∷ y ∷ z ∷ r) ≡ Err (Syntax, z ∷ r)) where
    stopped : (w : List Lexeme) (b : Begun w) → P w ≡ Err (Syntax, b.z ∷ b.rest)
    stopped w b = ap P b.whole ∙ stops b.x b.y b.z b.rest b.is_x b.is_y b.is_z

    phrase_ok : (w : List Lexeme) → Begun w → Says phrase_read (λ a w. Phrase classes two three f a w ⊎ L a w) w (taken f (first w) (tail (tail (tail w))))
    phrase_ok w b = subst (λ v. Says phrase_read (λ a w. Phrase classes two three f a w ⊎ L a w) v (taken f (first v) (tail (tail (tail v))))) (sym b.whole) (record {
      front = b.x ∷ b.y ∷ b.z ∷ [];
      whole = refl;
      spelled = inl (record { x = b.x; y = b.y; z = b.z; whole = refl; is_x = b.is_x; is_y = b.is_y; is_z = b.is_z; means = refl });
      again = λ r e. ap (λ (d : Bool). if d then taken f (Some b.x) r else P (b.x ∷ b.y ∷ b.z ∷ r)) (seen b.x b.y b.z r b.is_x b.is_y b.is_z);
    })

    no_phrase : (v : List Lexeme) → sees_phrase classes two three v ≡ false → phrase_read v ≡ P v
    no_phrase v e = ap (λ (d : Bool). if d then taken f (first v) (tail (tail (tail v))) else P v) e

    other_ok : (w : List Lexeme) (p : A × List Lexeme) → Reads P L w p.0 p.1 → Reads phrase_read (λ a w. Phrase classes two three f a w ⊎ L a w) w p.0 p.1
    other_ok w p s = record {
      front = s.front;
      whole = s.whole;
      spelled = inr s.spelled;
      again = λ r e. still r e (sees_phrase classes two three (s.front ++ r)) refl;
    }
      where
        still : (r : List Lexeme) → first r ≡ first p.1 → (d : Bool) → sees_phrase classes two three (s.front ++ r) ≡ d → phrase_read (s.front ++ r) ≡ Ok (p.0, r)
        still r e true h = let k = stopped (s.front ++ r) (begun (s.front ++ r) h) in let g : P (s.front ++ r) ≡ Ok (p.0, r) = s.again r e in absurd (cc)
        still r e false h = no_phrase (s.front ++ r) h ∙ s.again r e

    same_rest : (w v : List Lexeme) (why : Fault) → ◌≡◌ {A = Outcome A} (Err (Syntax, w)) (Err (why, v)) → w ≡ v
    same_rest w v why e = let i : ◌≡◌ {A = Fault × List Lexeme} (Syntax, w) (why, v) = cc in ap (λ p. p.1) i

    other_err : (w : List Lexeme) → sees_phrase classes two three w ≡ false → (q : Fault × List Lexeme) → Stops P L w q.0 q.1 → Stops phrase_read (λ a w. Phrase classes two three f a w ⊎ L a w) w q.0 q.1
    other_err w none q s = record {
      front = s.front;
      whole = s.whole;
      viable = goes s.viable;
      again = λ r e. still r e (sees_phrase classes two three (s.front ++ r)) refl;
    }
      where
        goes : MayGoOn L s.front → MayGoOn (λ a w. Phrase classes two three f a w ⊎ L a w) s.front
        goes (inl e) = inl e
        goes (inr v) = inr (v.0, v.1, inr v.2)

        -- where the phrase begins, the rule stops at its third token, and that is the next one
        third : (r : List Lexeme) → first r ≡ first q.1 → Begun (s.front ++ r) → sees_phrase classes two three w ≡ true
        third r e b =
            let k : b.z ∷ b.rest ≡ r = same_rest (b.z ∷ b.rest) r q.0 (sym (stopped (s.front ++ r) b) ∙ s.again r e) in
            let fr : s.front ≡ b.x ∷ b.y ∷ [] = append_cancel_right s.front (b.x ∷ b.y ∷ []) r (b.whole ∙ ap (λ t. b.x ∷ b.y ∷ t) k) in
            let wi : w ≡ b.x ∷ b.y ∷ q.1 = s.whole ∙ ap (λ t. t ++ q.1) fr in
            let fi : first q.1 ≡ Some b.z = sym e ∙ ap first (sym k) in
            ap (sees_phrase classes two three) wi
            ∙ ap (λ o. if is_among b.x.class classes then (if is_among b.y.class (two ∷ []) then sees (three ∷ []) o else false) else false) fi
            ∙ seen b.x b.y b.z [] b.is_x b.is_y b.is_z

        still : (r : List Lexeme) → first r ≡ first q.1 → (d : Bool) → sees_phrase classes two three (s.front ++ r) ≡ d → phrase_read (s.front ++ r) ≡ Err (q.0, r)
        still r e true h = let k = third r e (begun (s.front ++ r) h) in absurd (let f : false ≡ true = sym none ∙ k in cc)
        still r e false h = no_phrase (s.front ++ r) h ∙ s.again r e

    pub phrase_says : (w : List Lexeme) → Says P L w (P w) → Says phrase_read (λ a w. Phrase classes two three f a w ⊎ L a w) w (phrase_read w)
    phrase_says w s = by_test (sees_phrase classes two three w) refl
      where
        other : sees_phrase classes two three w ≡ false → (o : Outcome A) → Says P L w o → Says phrase_read (λ a w. Phrase classes two three f a w ⊎ L a w) w o
        other e (Ok p) t = other_ok w p t
        other e (Err q) t = other_err w e q t

        by_test : (d : Bool) → sees_phrase classes two three w ≡ d → Says phrase_read (λ a w. Phrase classes two three f a w ⊎ L a w) w (if d then taken f (first w) (tail (tail (tail w))) else P w)
        by_test true e = phrase_ok w (begun w e)
        by_test false e = other e (P w) s

    pub phrase_complete : (a : A) (u r : List Lexeme) → Phrase classes two three f a u → phrase_read (u ++ r) ≡ Ok (a, r)
    phrase_complete a u r s = ap (λ z. phrase_read (z ++ r)) s.whole
        ∙ ap (λ (d : Bool). if d then taken f (Some s.x) r else P (s.x ∷ s.y ∷ s.z ∷ r)) (seen s.x s.y s.z r s.is_x s.is_y s.is_z)
        ∙ ap (λ z. Ok (z, r)) (sym s.means)

    pub other_complete : (a : A) (w r : List Lexeme) → P w ≡ Ok (a, r) → phrase_read w ≡ Ok (a, r)
    other_complete a w r g = by_test (sees_phrase classes two three w) refl
      where
        by_test : (d : Bool) → sees_phrase classes two three w ≡ d → phrase_read w ≡ Ok (a, r)
        by_test true h = let k = stopped w (begun w h) in absurd cc
        by_test false h = no_phrase w h ∙ g
