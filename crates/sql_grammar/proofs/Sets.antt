-- Laws of sets of classes.
use Rattle.std.proofs.Common.{◌≡◌, ◌==◌, ℕ, List, [], ◌∷◌, ◌++◌, Option, Some, None, Bool, true, false, refl, sym, ◌∙◌, ap, arith, if◌then◌else◌}
use Rattle.sql_grammar.specs.Lexeme.{Lexeme, is_among, sees}
use Rattle.sql_grammar.specs.Sound.{disjoint, within, ◌and◌, opposite}

pub left_of : (a b : Bool) → (a and b) ≡ true → a ≡ true
left_of true b e = refl
left_of false b e = e

pub right_of : (a b : Bool) → (a and b) ≡ true → b ≡ true
right_of true b e = e
right_of false b e = cc

pub is_false : (a : Bool) → opposite a ≡ true → a ≡ false
is_false true e = cc
is_false false e = refl

among_if : (c : ℕ) (js : List ℕ) (b rest : Bool) → (if (if b then true else rest) then true else is_among c js) ≡ (if b then true else (if rest then true else is_among c js))
among_if c js true rest = refl
among_if c js false rest = refl

pub among_append : (c : ℕ) (ks js : List ℕ) → is_among c (ks ++ js) ≡ (if is_among c ks then true else is_among c js)
among_append c [] js = refl
among_append c (k ∷ ks) js = ap (λ (b : Bool). if c == k then true else b) (among_append c ks js) ∙ sym (among_if c js (c == k) (is_among c ks))

-- what is in the left part, or in the right part, is in the whole
pub not_left : (c : ℕ) (ks js : List ℕ) → is_among c (ks ++ js) ≡ false → is_among c ks ≡ false
not_left c ks js e = go (is_among c ks) (sym (among_append c ks js) ∙ e)
  where
    go : (b : Bool) → (if b then true else is_among c js) ≡ false → b ≡ false
    go true h = h
    go false h = refl

pub not_right : (c : ℕ) (ks js : List ℕ) → is_among c (ks ++ js) ≡ false → is_among c js ≡ false
not_right c ks js e = go (is_among c ks) (sym (among_append c ks js) ∙ e)
  where
    go : (b : Bool) → (if b then true else is_among c js) ≡ false → is_among c js ≡ false
    go true h = cc
    go false h = h

pub in_left : (c : ℕ) (ks js : List ℕ) → is_among c ks ≡ true → is_among c (ks ++ js) ≡ true
in_left c ks js e = among_append c ks js ∙ ap (λ (b : Bool). if b then true else is_among c js) e

pub in_right : (c : ℕ) (ks js : List ℕ) → is_among c js ≡ true → is_among c (ks ++ js) ≡ true
in_right c ks js e = among_append c ks js ∙ ap (λ (b : Bool). if is_among c ks then true else b) e ∙ always (is_among c ks)
  where
    always : (b : Bool) → (if b then true else true) ≡ true
    always true = refl
    always false = refl

same : (c k : ℕ) → (c == k) ≡ true → c ≡ k
same c k e = grind arith

pub apart : (ks js : List ℕ) (c : ℕ) → disjoint ks js ≡ true → is_among c ks ≡ true → is_among c js ≡ false
apart [] js c d e = cc
apart (k ∷ ks) js c d e = at (apart ks js c) (is_among k js) (c == k) refl refl d e
  where
    at : (disjoint ks js ≡ true → is_among c ks ≡ true → is_among c js ≡ false) → (a b : Bool) → is_among k js ≡ a → (c == k) ≡ b → (if a then false else disjoint ks js) ≡ true → (if b then true else is_among c ks) ≡ true → is_among c js ≡ false
    at more true b p q f g = cc
    at more false true p q f g = ap (λ x. is_among x js) (same c k q) ∙ p
    at more false false p q f g = more f g

pub also : (ks js : List ℕ) (c : ℕ) → within ks js ≡ true → is_among c ks ≡ true → is_among c js ≡ true
also [] js c d e = cc
also (k ∷ ks) js c d e = at (also ks js c) (is_among k js) (c == k) refl refl d e
  where
    at : (within ks js ≡ true → is_among c ks ≡ true → is_among c js ≡ true) → (a b : Bool) → is_among k js ≡ a → (c == k) ≡ b → (if a then within ks js else false) ≡ true → (if b then true else is_among c ks) ≡ true → is_among c js ≡ true
    at more true true p q f g = ap (λ x. is_among x js) (same c k q) ∙ p
    at more true false p q f g = more f g
    at more false b p q f g = cc

-- ---- of the next token

pub sees_append : (x : Option Lexeme) (ks js : List ℕ) → sees (ks ++ js) x ≡ (if sees ks x then true else sees js x)
sees_append None ks js = refl
sees_append (Some x) ks js = among_append x.class ks js

pub unseen_left : (x : Option Lexeme) (ks js : List ℕ) → sees (ks ++ js) x ≡ false → sees ks x ≡ false
unseen_left None ks js e = refl
unseen_left (Some x) ks js e = not_left x.class ks js e

pub unseen_right : (x : Option Lexeme) (ks js : List ℕ) → sees (ks ++ js) x ≡ false → sees js x ≡ false
unseen_right None ks js e = refl
unseen_right (Some x) ks js e = not_right x.class ks js e

pub unseen_in : (x : Option Lexeme) (ks js : List ℕ) → within ks js ≡ true → sees js x ≡ false → sees ks x ≡ false
unseen_in None ks js d e = refl
unseen_in (Some x) ks js d e = go (is_among x.class ks) refl
  where
    go : (b : Bool) → is_among x.class ks ≡ b → is_among x.class ks ≡ false
    go false h = h
    go true h = let t = also ks js x.class d h in let f : true ≡ false = sym t ∙ e in cc
