-- With which tokens a rule's tokens begin.
use Rattle.std.proofs.Common.{◌≡◌, ℕ, List, [], ◌∷◌, ◌++◌, Option, Some, None, Bool, true, false, refl, sym, ◌∙◌, ap, if◌then◌else◌, ◌⊎◌, inl, inr}
use Rattle.sql_grammar.specs.Lexeme.{Lexeme, is_among, sees}
use Rattle.sql_grammar.specs.Form.{Form, empty, one, both, either, many, nest, marked, phrase}
use Rattle.sql_grammar.specs.Derives.{Inner, Many, none, more, derives}
use Rattle.sql_grammar.specs.Reading.{nullable, begins}
use Rattle.sql_grammar.specs.Sound.{firsts}
use Rattle.sql_grammar.proofs.Sets.{in_left, in_right, sees_append}

pub or_same : (a b c d : Bool) → a ≡ c → b ≡ d → (if a then true else b) ≡ (if c then true else d)
or_same a b c d e f = ap (λ (x : Bool). if x then true else b) e ∙ ap (λ (x : Bool). if c then true else x) f

pub begins_is : {A : Type 0} (p : Form A) (x : Option Lexeme) → begins p x ≡ sees (firsts p) x
begins_is (empty a) None = refl
begins_is (empty a) (Some x) = refl
begins_is (one classes f) x = refl
begins_is (both f p q) x = go (nullable p)
    (or_same (begins p x) (begins q x) (sees (firsts p) x) (sees (firsts q) x) (begins_is p x) (begins_is q x) ∙ sym (sees_append x (firsts p) (firsts q))) (begins_is p x)
  where
    go : (b : Bool) → (if begins p x then true else begins q x) ≡ sees (firsts p ++ firsts q) x → begins p x ≡ sees (firsts p) x
        → (if b then (if begins p x then true else begins q x) else begins p x) ≡ sees (if b then (firsts p ++ firsts q) else firsts p) x
    go true e h = e
    go false e h = h
begins_is (either p q) x = or_same (begins p x) (begins q x) (sees (firsts p) x) (sees (firsts q) x) (begins_is p x) (begins_is q x) ∙ sym (sees_append x (firsts p) (firsts q))
begins_is (many p) x = begins_is p x
begins_is (nest openers s f) x = refl
begins_is (marked f p) x = begins_is p x
begins_is (phrase classes second third f p) x = or_same (sees classes x) (begins p x) (sees classes x) (sees (firsts p) x) refl (begins_is p x) ∙ sym (sees_append x classes (firsts p))

-- the tokens begin with one of these classes
pub record Starts (classes : List ℕ) (w : List Lexeme) : Type 0 where
  pub token : Lexeme
  pub rest : List Lexeme
  pub whole : w ≡ token ∷ rest
  pub among : is_among token.class classes ≡ true

-- no tokens, which the rule may take, or some that begin so
abbrev pub StartsOr : Bool → List ℕ → List Lexeme → Type 0
StartsOr absent classes w = ((w ≡ []) × (absent ≡ true)) ⊎ Starts classes w

longer : (classes : List ℕ) (w u v : List Lexeme) → w ≡ u ++ v → Starts classes u → Starts classes w
longer classes w u v e s = record { token = s.token; rest = s.rest ++ v; whole = e ∙ ap (λ z. z ++ v) s.whole; among = s.among }

wider_left : (ks js : List ℕ) (w : List Lexeme) → Starts ks w → Starts (ks ++ js) w
wider_left ks js w s = record { token = s.token; rest = s.rest; whole = s.whole; among = in_left s.token.class ks js s.among }

wider_right : (ks js : List ℕ) (w : List Lexeme) → Starts js w → Starts (ks ++ js) w
wider_right ks js w s = record { token = s.token; rest = s.rest; whole = s.whole; among = in_right s.token.class ks js s.among }

both_start : (no_p no_q : Bool) (ks js : List ℕ) (w u v : List Lexeme) → w ≡ u ++ v → StartsOr no_p ks u → StartsOr no_q js v
    → StartsOr (if no_p then no_q else false) (if no_p then (ks ++ js) else ks) w
both_start true no_q ks js w u v e (inl s) (inl t) = inl (e ∙ ap (λ z. z ++ v) s.0 ∙ t.0, t.1)
both_start true no_q ks js w u v e (inl s) (inr t) = inr (wider_right ks js w (record { token = t.token; rest = t.rest; whole = e ∙ ap (λ z. z ++ v) s.0 ∙ t.whole; among = t.among }))
both_start true no_q ks js w u v e (inr s) t = inr (wider_left ks js w (longer ks w u v e s))
both_start false no_q ks js w u v e (inl s) t = absurd (let f : false ≡ true = s.1 in cc)
both_start false no_q ks js w u v e (inr s) t = inr (longer ks w u v e s)

left_start : (no_p no_q : Bool) (ks js : List ℕ) (w : List Lexeme) → StartsOr no_p ks w → StartsOr (if no_p then true else no_q) (ks ++ js) w
left_start no_p no_q ks js w (inl s) = inl (s.0, ap (λ (b : Bool). if b then true else no_q) s.1)
left_start no_p no_q ks js w (inr s) = inr (wider_left ks js w s)

always : (b : Bool) → (if b then true else true) ≡ true
always true = refl
always false = refl

right_start : (no_p no_q : Bool) (ks js : List ℕ) (w : List Lexeme) → StartsOr no_q js w → StartsOr (if no_p then true else no_q) (ks ++ js) w
right_start no_p no_q ks js w (inl s) = inl (s.0, ap (λ (b : Bool). if no_p then true else b) s.1 ∙ always no_p)
right_start no_p no_q ks js w (inr s) = inr (wider_right ks js w s)

many_start : {A : Type 0} (L : A → List Lexeme → Type 0) (absent : Bool) (ks : List ℕ) → ((a : A) (u : List Lexeme) → L a u → StartsOr absent ks u)
    → {list : List A} {w : List Lexeme} → Many L list w → StartsOr true ks w
many_start L absent ks each none = inl (refl, refl)
many_start L absent ks each (more {a} {u} {list} {v} s t) = go (each a u s) (many_start L absent ks each t)
  where
    go : StartsOr absent ks u → StartsOr true ks v → StartsOr true ks (u ++ v)
    go (inl e) (inl f) = inl (ap (λ z. z ++ v) e.0 ∙ f.0, refl)
    go (inl e) (inr f) = inr (record { token = f.token; rest = f.rest; whole = ap (λ z. z ++ v) e.0 ∙ f.whole; among = f.among })
    go (inr e) f = inr (longer ks (u ++ v) u v refl e)

pub starts : {A : Type 0} (n : Inner) (p : Form A) (a : A) (w : List Lexeme) → derives n p a w → StartsOr (nullable p) (firsts p) w
starts n (empty b) a w s = inl (s.1, refl)
starts n (one classes f) a w s = inr (record { token = s.token; rest = []; whole = s.alone; among = s.among })
starts n (both f p q) a w s = both_start (nullable p) (nullable q) (firsts p) (firsts q) w s.front s.back s.whole (starts n p s.value s.front s.fore) (starts n q s.next s.back s.aft)
starts n (either p q) a w (inl s) = left_start (nullable p) (nullable q) (firsts p) (firsts q) w (starts n p a w s)
starts n (either p q) a w (inr s) = right_start (nullable p) (nullable q) (firsts p) (firsts q) w (starts n q a w s)
starts n (many p) a w s = many_start (derives n p) (nullable p) (firsts p) (λ b u t. starts n p b u t) s
starts n (nest openers s f) a w t = inr (record { token = t.token; rest = t.rest; whole = t.whole; among = t.opens })
starts n (marked f p) a w s = go (starts n p s.value w s.spelled)
  where
    go : StartsOr (nullable p) (firsts p) w → StartsOr false (firsts p) w
    go (inl e) = absurd (let f : [] ≡ s.token ∷ s.rest = sym e.0 ∙ s.whole in cc)
    go (inr e) = inr e
starts n (phrase classes second third f p) a w (inl s) = inr (record { token = s.x; rest = s.y ∷ s.z ∷ []; whole = s.whole; among = in_left s.x.class classes (firsts p) s.is_x })
starts n (phrase classes second third f p) a w (inr s) = go (starts n p a w s)
  where
    go : StartsOr (nullable p) (firsts p) w → StartsOr (nullable p) (classes ++ firsts p) w
    go (inl e) = inl e
    go (inr e) = inr (wider_right classes (firsts p) w e)
