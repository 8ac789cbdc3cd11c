-- A sound rule is read as it derives: whatever the reading answers, and whatever it derives.
use Rattle.std.proofs.Common.{◌≡◌, ◌==◌, ℕ, List, [], ◌∷◌, ◌++◌, Option, Some, None, Ok, Err, Bool, true, false, refl, sym, ◌∙◌, ap, if◌then◌else◌, inl, inr, arith}
use Rattle.sql_grammar.specs.Lexeme.{Lexeme, is_among, sees, first}
use Rattle.sql_grammar.specs.declared.fault.Fault.TheVariants.{Syntax}
use Rattle.sql_grammar.specs.Form.{Sort, Value, Form, empty, one, both, either, many, nest, marked, phrase}
use Rattle.sql_grammar.specs.Derives.{Language, Inner, none, Nest, derives}
use Rattle.sql_grammar.specs.Reading.{Outcome, Parser, nullable, begins, Readers, read}
use Rattle.sql_grammar.specs.Sound.{firsts, goes_on, alive, disjoint, ◌and◌, opposite, is_sound}
use Rattle.sql_grammar.proofs.Sets.{left_of, right_of, is_false, apart, unseen_left, unseen_right}
use Rattle.sql_grammar.proofs.Firsts.{begins_is, Starts, StartsOr, starts}
use Rattle.sql_grammar.proofs.Laws.{Viable, Says, IsRight, entered, empty_says, one_right, one_complete, both_right, both_viable, both_complete, look_says, wider, nest_right, nest_complete, deep_right, marked_says, marked_complete, phrase_says, phrase_complete, other_complete}
use Rattle.sql_grammar.proofs.ManyLaws.{Begins, many_right, many_complete}

-- at a phrase, the rule beside it stops at its third token
abbrev pub IsTame : {A : Type 0} → Readers → Form A → Type 0
IsTame n (both f p q) = IsTame n p × IsTame n q
IsTame n (either p q) = IsTame n p × IsTame n q
IsTame n (many p) = IsTame n p
IsTame n (marked f p) = IsTame n p
IsTame n (phrase classes two three f p) = IsTame n p × ((x y z : Lexeme) (r : List Lexeme) → is_among x.class classes ≡ true → is_among y.class (two ∷ []) ≡ true → is_among z.class (three ∷ []) ≡ true → read n p (x ∷ y ∷ z ∷ r) ≡ Err (Syntax, z ∷ r))
IsTame n _ = Unit {0}

-- what is read one level deeper, beside what is derived there
pub record OpenRight (s : Sort) (P : List Lexeme → Outcome (Value s)) (L : Value s → List Lexeme → Type 0) (last : List ℕ) : Type 0 where
  pub right : IsRight P L
  pub some : Viable L []
  pub complete : (a : Value s) (u r : List Lexeme) → L a u → sees last (first r) ≡ false → P (u ++ r) ≡ Ok (a, r)

abbrev pub SortRight : (s : Sort) → Option (Parser (Value s)) → Language (Value s) → List ℕ → Type 0
SortRight s None L last = (a : Value s) (u : List Lexeme) → L a u → ⊥
SortRight s (Some P) L last = OpenRight s P L last

not_empty : {A : Type 0} (n : Inner) (p : Form A) → nullable p ≡ false → (a : A) (u : List Lexeme) → derives n p a u → Starts (firsts p) u
not_empty n p e a u s = go (starts n p a u s)
  where
    go : StartsOr (nullable p) (firsts p) u → Starts (firsts p) u
    go (inl t) = absurd (let f : false ≡ true = sym e ∙ t.1 in cc)
    go (inr t) = t

pub rule_begins : {A : Type 0} (m : Inner) (p : Form A) → nullable p ≡ false → (a : A) (u : List Lexeme) → derives m p a u → Begins (begins p) u
rule_begins m p h a u s = let g = not_empty m p h a u s in record { token = g.token; rest = g.rest; whole = g.whole; begin = begins_is p (Some g.token) ∙ g.among }

pub viable : {A : Type 0} (m : Inner) (p : Form A) → alive p ≡ true → Viable (derives m p) []
viable m (empty a) e = (a, [], (refl, refl))
viable m (one [] f) e = cc
viable m (one (k ∷ classes) f) e = let x : Lexeme = record { class = k; start = 0; end = 0 } in (f x, x ∷ [], record { token = x; alone = refl; among = own k classes; means = refl })
  where
    own : (k : ℕ) (classes : List ℕ) → is_among k (k ∷ classes) ≡ true
    own k classes = let e : (k == k) ≡ true = grind arith in ap (λ (b : Bool). if b then true else is_among k classes) e
viable m (both f p q) e = both_viable f (λ w. read (λ s. None) p w) (λ w. read (λ s. None) q w) (derives m p) (derives m q) (viable m p (left_of (alive p) (alive q) e)) (viable m q (right_of (alive p) (alive q) e))
viable m (either p q) e = go (alive p) refl e (viable m p) (viable m q)
  where
    go : (b : Bool) → alive p ≡ b → (if b then true else alive q) ≡ true → (alive p ≡ true → Viable (derives m p) []) → (alive q ≡ true → Viable (derives m q) []) → Viable (derives m (either p q)) []
    go true h f vp vq = let v = vp h in (v.0, v.1, inl v.2)
    go false h f vp vq = let v = vq f in (v.0, v.1, inr v.2)
viable m (many p) e = ([], [], none)
viable m (nest openers s f) e = cc
viable m (marked f p) e =
    let v = viable m p (left_of (alive p) (opposite (nullable p)) e) in
    let s = not_empty m p (is_false (nullable p) (right_of (alive p) (opposite (nullable p)) e)) v.0 v.1 v.2 in
    (f s.token v.0, v.1, record { token = s.token; value = v.0; rest = s.rest; whole = s.whole; spelled = v.2; means = refl })
viable m (phrase classes two three f p) e = let v = viable m p e in (v.0, v.1, inr v.2)

module _ (n : Readers) (m : Inner) (last : Sort → List ℕ) (inner : (s : Sort) → SortRight s (n s) (m s) (last s)) where
  nest_says : {A : Type 0} (openers : List ℕ) (s : Sort) (f : Lexeme → Value s → A) (o : Option (Parser (Value s))) → SortRight s o (m s) (last s) → (w : List Lexeme)
      → Says (λ w. if sees openers (first w) then entered f o w else Err (Syntax, w)) (Nest openers f (m s)) w (if sees openers (first w) then entered f o w else Err (Syntax, w))
  nest_says openers s f None h w = deep_right openers f (m s) w
  nest_says openers s f (Some P) h w = nest_right openers f P (m s) h.right h.some w

  -- ---- what is read is derived

  pub right : {A : Type 0} (p : Form A) → is_sound last p ≡ true → IsTame n p → (w : List Lexeme) → Says (read n p) (derives m p) w (read n p w)
  right (empty a) e t w = empty_says a w
  right (one classes f) e t w = one_right classes f w
  right (both f p q) e t w =
      let e1 = right_of (is_sound last p) (is_sound last q and alive q and disjoint (firsts q) (goes_on last p)) e in
      let e2 = right_of (is_sound last q) (alive q and disjoint (firsts q) (goes_on last p)) e1 in
      both_right f (read n p) (read n q) (derives m p) (derives m q)
      (right p (left_of (is_sound last p) (is_sound last q and alive q and disjoint (firsts q) (goes_on last p)) e) t.0)
      (right q (left_of (is_sound last q) (alive q and disjoint (firsts q) (goes_on last p)) e1) t.1)
      (viable m q (left_of (alive q) (disjoint (firsts q) (goes_on last p)) e2)) w
  right (either p q) e t w =
      let e1 = right_of (is_sound last p) (is_sound last q and opposite (nullable p) and disjoint (firsts q) (firsts p)) e in
      let s : Says (read n p) (derives m p) w (read n p w) = right p (left_of (is_sound last p) (is_sound last q and opposite (nullable p) and disjoint (firsts q) (firsts p)) e) t.0 w in
      let u : Says (read n q) (derives m q) w (read n q w) = right q (left_of (is_sound last q) (opposite (nullable p) and disjoint (firsts q) (firsts p)) e1) t.1 w in
      look_says (λ x v. if begins p x then read n p v else read n q v) (derives m (either p q)) w (if begins p (first w) then read n p w else read n q w) (choose (begins p (first w)) s u)
    where
      choose : (b : Bool) → Says (read n p) (derives m p) w (read n p w) → Says (read n q) (derives m q) w (read n q w) → Says (λ v. if b then read n p v else read n q v) (derives m (either p q)) w (if b then read n p w else read n q w)
      choose true s u = wider (read n p) (derives m p) (derives m (either p q)) (λ a v h. inl h) w (read n p w) s
      choose false s u = wider (read n q) (derives m q) (derives m (either p q)) (λ a v h. inr h) w (read n q w) u
  right (many p) e t w =
      let e1 = right_of (is_sound last p) (opposite (nullable p) and disjoint (firsts p) (goes_on last p)) e in
      let h = is_false (nullable p) (left_of (opposite (nullable p)) (disjoint (firsts p) (goes_on last p)) e1) in
      many_right (begins p) (read n p) (derives m p) (begins_is p None) (λ a u s. rule_begins m p h a u s) (right p (left_of (is_sound last p) (opposite (nullable p) and disjoint (firsts p) (goes_on last p)) e) t) w
  right (nest openers s f) e t w = nest_says openers s f (n s) (inner s) w
  right (marked f p) e t w =
      let h = is_false (nullable p) (right_of (is_sound last p) (opposite (nullable p)) e) in
      marked_says f (read n p) (derives m p) (λ a u s. (let g = not_empty m p h a u s in (g.token, g.rest, g.whole))) w (read n p w) (right p (left_of (is_sound last p) (opposite (nullable p)) e) t w)
  right (phrase classes two three f p) e t w = phrase_says classes two three f (read n p) (derives m p) t.1 w (right p e t.0 w)

  -- ---- what is derived is read

  ends_inner : (p_ends q_first : List ℕ) (empty_q : Bool) (back r : List Lexeme) → StartsOr empty_q q_first back → disjoint q_first p_ends ≡ true → (empty_q ≡ true → sees p_ends (first r) ≡ false) → sees p_ends (first (back ++ r)) ≡ false
  ends_inner p_ends q_first empty_q back r (inl s) d e = ap (λ z. sees p_ends (first (z ++ r))) s.0 ∙ e s.1
  ends_inner p_ends q_first empty_q back r (inr s) d e = ap (λ z. sees p_ends (first (z ++ r))) s.whole ∙ apart q_first p_ends s.token.class d s.among

  pub complete : {A : Type 0} (p : Form A) → is_sound last p ≡ true → IsTame n p → (a : A) (u r : List Lexeme) → derives m p a u → sees (goes_on last p) (first r) ≡ false → read n p (u ++ r) ≡ Ok (a, r)
  complete (empty b) e t a u r s h = ap (λ z. Ok (b, z ++ r)) s.1 ∙ ap (λ z. Ok (z, r)) (sym s.0)
  complete (one classes f) e t a u r s h = one_complete classes f a u r s
  complete (both f p q) e t a u r s h =
      let e1 = right_of (is_sound last p) (is_sound last q and alive q and disjoint (firsts q) (goes_on last p)) e in
      let e2 = right_of (is_sound last q) (alive q and disjoint (firsts q) (goes_on last p)) e1 in
      let d = right_of (alive q) (disjoint (firsts q) (goes_on last p)) e2 in
      both_complete f (read n p) (read n q) (derives m p) (derives m q) a u r s
      (complete p (left_of (is_sound last p) (is_sound last q and alive q and disjoint (firsts q) (goes_on last p)) e) t.0 s.value s.front (s.back ++ r) s.fore
      (ends_inner (goes_on last p) (firsts q) (nullable q) s.back r (starts m q s.next s.back s.aft) d (of_p (nullable q) h)))
      (complete q (left_of (is_sound last q) (alive q and disjoint (firsts q) (goes_on last p)) e1) t.1 s.next s.back r s.aft (of_q (nullable q) h))
    where
      of_p : (b : Bool) → sees (if b then (goes_on last q ++ goes_on last p) else goes_on last q) (first r) ≡ false → b ≡ true → sees (goes_on last p) (first r) ≡ false
      of_p true k c = unseen_right (first r) (goes_on last q) (goes_on last p) k
      of_p false k c = absurd cc

      of_q : (b : Bool) → sees (if b then (goes_on last q ++ goes_on last p) else goes_on last q) (first r) ≡ false → sees (goes_on last q) (first r) ≡ false
      of_q true k = unseen_left (first r) (goes_on last q) (goes_on last p) k
      of_q false k = k
  complete (either p q) e t a u r (inl s) h =
      let e1 = right_of (is_sound last p) (is_sound last q and opposite (nullable p) and disjoint (firsts q) (firsts p)) e in
      let e2 = right_of (is_sound last q) (opposite (nullable p) and disjoint (firsts q) (firsts p)) e1 in
      let g = not_empty m p (is_false (nullable p) (left_of (opposite (nullable p)) (disjoint (firsts q) (firsts p)) e2)) a u s in
      ap (λ (b : Bool). if b then read n p (u ++ r) else read n q (u ++ r)) (ap (λ z. begins p (first (z ++ r))) g.whole ∙ begins_is p (Some g.token) ∙ g.among)
      ∙ complete p (left_of (is_sound last p) (is_sound last q and opposite (nullable p) and disjoint (firsts q) (firsts p)) e) t.0 a u r s (of_p (nullable q) h)
    where
      of_p : (b : Bool) → sees (if b then (goes_on last p ++ (goes_on last q ++ firsts p)) else (goes_on last p ++ goes_on last q)) (first r) ≡ false → sees (goes_on last p) (first r) ≡ false
      of_p true k = unseen_left (first r) (goes_on last p) (goes_on last q ++ firsts p) k
      of_p false k = unseen_left (first r) (goes_on last p) (goes_on last q) k
  complete (either p q) e t a u r (inr s) h =
      let e1 = right_of (is_sound last p) (is_sound last q and opposite (nullable p) and disjoint (firsts q) (firsts p)) e in
      let e2 = right_of (is_sound last q) (opposite (nullable p) and disjoint (firsts q) (firsts p)) e1 in
      let d = right_of (opposite (nullable p)) (disjoint (firsts q) (firsts p)) e2 in
      ap (λ (b : Bool). if b then read n p (u ++ r) else read n q (u ++ r)) (begins_is p (first (u ++ r)) ∙ ends_inner (firsts p) (firsts q) (nullable q) u r (starts m q a u s) d (of_first (nullable q) h))
      ∙ complete q (left_of (is_sound last q) (opposite (nullable p) and disjoint (firsts q) (firsts p)) e1) t.1 a u r s (of_q (nullable q) h)
    where
      of_q : (b : Bool) → sees (if b then (goes_on last p ++ (goes_on last q ++ firsts p)) else (goes_on last p ++ goes_on last q)) (first r) ≡ false → sees (goes_on last q) (first r) ≡ false
      of_q true k = unseen_left (first r) (goes_on last q) (firsts p) (unseen_right (first r) (goes_on last p) (goes_on last q ++ firsts p) k)
      of_q false k = unseen_right (first r) (goes_on last p) (goes_on last q) k

      of_first : (b : Bool) → sees (if b then (goes_on last p ++ (goes_on last q ++ firsts p)) else (goes_on last p ++ goes_on last q)) (first r) ≡ false → b ≡ true → sees (firsts p) (first r) ≡ false
      of_first true k c = unseen_right (first r) (goes_on last q) (firsts p) (unseen_right (first r) (goes_on last p) (goes_on last q ++ firsts p) k)
      of_first false k c = absurd cc
  complete (many p) e t a u r s h =
      let e1 = right_of (is_sound last p) (opposite (nullable p) and disjoint (firsts p) (goes_on last p)) e in
      let d = right_of (opposite (nullable p)) (disjoint (firsts p) (goes_on last p)) e1 in
      let k = is_false (nullable p) (left_of (opposite (nullable p)) (disjoint (firsts p) (goes_on last p)) e1) in
      many_complete (begins p) (read n p) (derives m p) (begins_is p None) (λ b v s. rule_begins m p k b v s) (sees (goes_on last p))
      (complete p (left_of (is_sound last p) (opposite (nullable p) and disjoint (firsts p) (goes_on last p)) e) t)
      (λ x g. apart (firsts p) (goes_on last p) x.class d (sym (begins_is p (Some x)) ∙ g)) a u r s
      (unseen_left (first r) (goes_on last p) (firsts p) h) (begins_is p (first r) ∙ unseen_right (first r) (goes_on last p) (firsts p) h)
  complete (nest openers s f) e t a u r d h = go (n s) (inner s)
    where
      go : (o : Option (Parser (Value s))) → SortRight s o (m s) (last s) → (if sees openers (first (u ++ r)) then entered f o (u ++ r) else Err (Syntax, u ++ r)) ≡ Ok (a, r)
      go None k = absurd (k d.value d.rest d.inside)
      go (Some P) k = nest_complete openers f P (m s) a u r d (k.complete d.value d.rest r d.inside h)
  complete (marked f p) e t a u r s h = marked_complete f (read n p) (derives m p) a u r s (complete p (left_of (is_sound last p) (opposite (nullable p)) e) t s.value u r s.spelled h)
  complete (phrase classes two three f p) e t a u r (inl s) h = phrase_complete classes two three f (read n p) (derives m p) t.1 a u r s
  complete (phrase classes two three f p) e t a u r (inr s) h = other_complete classes two three f (read n p) (derives m p) t.1 a (u ++ r) r (complete p e t.0 a u r s h)
