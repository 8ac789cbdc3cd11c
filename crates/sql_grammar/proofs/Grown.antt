-- A reading that may nest one level more does the same, except where the first says that it is too deep: there it goes on.
use Rattle.std.proofs.Common.{◌≡◌, ℕ, zero, suc, List, [], ◌∷◌, ◌++◌, length, Option, Some, None, Ok, Err, Bool, true, false, refl, sym, ◌∙◌, ap, subst, append_assoc, if◌then◌else◌}
use Rattle.sql_grammar.specs.Lexeme.{Lexeme, is_among, sees, first, tail, lexeme_at}
use Rattle.sql_grammar.specs.declared.fault.Fault.{Fault}
use Rattle.sql_grammar.specs.declared.fault.Fault.TheVariants.{Syntax, TooDeep, OutOfMemory}
use Rattle.sql_grammar.specs.Form.{Sort, Form, empty, one, both, either, many, nest, marked, phrase}
use Rattle.sql_grammar.specs.Reading.{Outcome, Parser, and_then, begins, taken, many_from, sees_phrase, Readers, read}
use Rattle.sql_grammar.proofs.Laws.{entered, inside}

abbrev pub rest_of : {A : Type 0} → Outcome A → List Lexeme
rest_of (Ok p) = p.1
rest_of (Err q) = q.1

-- at least one token further on
pub record Beyond (w rest : List Lexeme) : Type 0 where
  pub token : Lexeme
  pub more : List Lexeme
  pub whole : w ≡ token ∷ more ++ rest

abbrev pub GrownErr : {A : Type 0} → Fault → List Lexeme → Outcome A → Type 0
GrownErr TooDeep r o = Beyond r (rest_of o)
GrownErr Syntax r o = o ≡ Err (Syntax, r)
GrownErr OutOfMemory r o = o ≡ Err (OutOfMemory, r)

abbrev pub Grown : {A : Type 0} → Outcome A → Outcome A → Type 0
Grown (Ok p) o = o ≡ Ok p
Grown (Err q) o = GrownErr q.0 q.1 o

pub record Falls (w rest : List Lexeme) : Type 0 where
  pub front : List Lexeme
  pub whole : w ≡ front ++ rest

stays : (w : List Lexeme) → Falls w w
stays w = record { front = []; whole = refl }

over : (w r rest : List Lexeme) → Falls w r → Falls r rest → Falls w rest
over w r rest a b = record { front = a.front ++ b.front; whole = a.whole ∙ ap (λ z. a.front ++ z) b.whole ∙ sym (append_assoc a.front b.front rest) }

further : (w r rest : List Lexeme) → Beyond w r → Falls r rest → Beyond w rest
further w r rest b f = record {
  token = b.token;
  more = b.more ++ f.front;
  whole = b.whole ∙ ap (λ z. b.token ∷ b.more ++ z) f.whole ∙ ap (λ z. b.token ∷ z) (sym (append_assoc b.more f.front rest));
}

tail_falls : (w : List Lexeme) → Falls w (tail w)
tail_falls [] = stays []
tail_falls (x ∷ w) = record { front = x ∷ []; whole = refl }

-- ---- what is left is an end of the tokens

then_falls : {A B : Type 0} (g : A → Parser B) → ((a : A) (r : List Lexeme) → Falls r (rest_of (g a r))) → (w : List Lexeme) (o : Outcome A) → Falls w (rest_of o) → Falls w (rest_of (and_then o g))
then_falls g each w (Ok p) h = over w p.1 (rest_of (g p.0 p.1)) h (each p.0 p.1)
then_falls g each w (Err q) h = h

taken_falls : {A : Type 0} (f : Lexeme → A) (o : Option Lexeme) (w : List Lexeme) → Falls w (rest_of (taken f o w))
taken_falls f x w = stays w

many_falls : {A : Type 0} (starts : Option Lexeme → Bool) (p : Parser A) → ((w : List Lexeme) → Falls w (rest_of (p w))) → (k : ℕ) (w : List Lexeme) → Falls w (rest_of (many_from starts p k w))
unfolding many_from
many_falls starts p each zero w = stays w
many_falls starts p each (suc k) w = go (starts (first w))
    (then_falls (λ a r. and_then (many_from starts p k r) (λ list s. Ok (a ∷ list, s))) (λ a r. then_falls (λ list s. Ok (a ∷ list, s)) (λ list s. stays s) r (many_from starts p k r) (many_falls starts p each k r)) w (p w) (each w))
  where
    go : (b : Bool) → Falls w (rest_of (and_then (p w) (λ a r. and_then (many_from starts p k r) (λ list s. Ok (a ∷ list, s)))))
        → Falls w (rest_of (if b then and_then (p w) (λ a r. and_then (many_from starts p k r) (λ list s. Ok (a ∷ list, s))) else Ok ([], w)))
    go true h = h
    go false h = stays w

-- of each reading one level deeper
abbrev pub EachFalls : {A : Type 0} → Option (Parser A) → Type 0
EachFalls None = Unit {0}
EachFalls (Some P) = (w : List Lexeme) → Falls w (rest_of (P w))

opened_falls : {A B : Type 0} (f : Lexeme → A → B) (o : Option (Parser A)) → EachFalls o → (w : List Lexeme) → Falls w (rest_of (entered f o w))
opened_falls f None h w = stays w
opened_falls f (Some P) h w = over w (tail w) (rest_of (inside f P (first w) (tail w))) (tail_falls w) (then_falls (λ a r. Ok (f (lexeme_at (first w)) a, r)) (λ a r. stays r) (tail w) (P (tail w)) (h (tail w)))

if_falls : {A : Type 0} (b : Bool) (w : List Lexeme) (o p : Outcome A) → Falls w (rest_of o) → Falls w (rest_of p) → Falls w (rest_of (if b then o else p))
if_falls true w o p h k = h
if_falls false w o p h k = k

pub falls : {A : Type 0} (n : Readers) → ((s : Sort) → EachFalls (n s)) → (p : Form A) (w : List Lexeme) → Falls w (rest_of (read n p w))
falls n h (empty a) w = stays w
falls n h (one classes f) w = if_falls (sees classes (first w)) w (taken f (first w) (tail w)) (Err (Syntax, w)) (over w (tail w) (rest_of (taken f (first w) (tail w))) (tail_falls w) (taken_falls f (first w) (tail w))) (stays w)
falls n h (both f p q) w = then_falls (λ a r. and_then (read n q r) (λ b s. Ok (f a b, s))) (λ a r. then_falls (λ b s. Ok (f a b, s)) (λ b s. stays s) r (read n q r) (falls n h q r)) w (read n p w) (falls n h p w)
falls n h (either p q) w = if_falls (begins p (first w)) w (read n p w) (read n q w) (falls n h p w) (falls n h q w)
falls n h (many p) w = many_falls (begins p) (read n p) (falls n h p) (length w) w
falls n h (nest openers s f) w = if_falls (sees openers (first w)) w (entered f (n s) w) (Err (Syntax, w)) (opened_falls f (n s) (h s) w) (stays w)
falls n h (marked f p) w = then_falls (λ a r. taken (λ x. f x a) (first w) r) (λ a r. taken_falls (λ x. f x a) (first w) r) w (read n p w) (falls n h p w)
falls n h (phrase classes two three f p) w = if_falls (sees_phrase classes two three w) w (taken f (first w) (tail (tail (tail w)))) (read n p w)
    (over w (tail (tail (tail w))) (rest_of (taken f (first w) (tail (tail (tail w))))) (over w (tail (tail w)) (tail (tail (tail w))) (over w (tail w) (tail (tail w)) (tail_falls w) (tail_falls (tail w))) (tail_falls (tail (tail w)))) (taken_falls f (first w) (tail (tail (tail w)))))
    (falls n h p w)

-- ---- one level more

module _ {A B : Type 0} (f g : A → Parser B) (next : (a : A) (r : List Lexeme) → Grown (f a r) (g a r)) (fall : (a : A) (r : List Lexeme) → Falls r (rest_of (g a r))) where
  grown_deep : (r : List Lexeme) (o : Outcome A) → Beyond r (rest_of o) → Beyond r (rest_of (and_then o g))
  grown_deep r (Ok p) b = further r p.1 (rest_of (g p.0 p.1)) b (fall p.0 p.1)
  grown_deep r (Err q) b = b

  grown_err : (why : Fault) (r : List Lexeme) (o : Outcome A) → GrownErr why r o → GrownErr {A = B} why r (and_then o g)
  grown_err TooDeep r o b = grown_deep r o b
  grown_err Syntax r o b = ap (λ z. and_then z g) b
  grown_err OutOfMemory r o b = ap (λ z. and_then z g) b

  pub grown_then : (o p : Outcome A) → Grown o p → Grown (and_then o f) (and_then p g)
  grown_then (Ok v) p e = subst (λ z. Grown (f v.0 v.1) (and_then z g)) (sym e) (next v.0 v.1)
  grown_then (Err q) p e = grown_err q.0 q.1 p e

same_grown : {A : Type 0} (f : Lexeme → A) (o : Option Lexeme) (w : List Lexeme) → Grown (taken f o w) (taken f o w)
same_grown f x w = refl

if_grown : {A : Type 0} (b : Bool) (o p o2 p2 : Outcome A) → Grown o o2 → Grown p p2 → Grown (if b then o else p) (if b then o2 else p2)
if_grown true o p o2 p2 h k = h
if_grown false o p o2 p2 h k = k

-- one level deeper
abbrev pub EachGrown : {A : Type 0} → Option (Parser A) → Option (Parser A) → Type 0
EachGrown None None = ⊥
EachGrown None (Some Q) = (w : List Lexeme) → Falls w (rest_of (Q w))
EachGrown (Some P) None = ⊥
EachGrown (Some P) (Some Q) = ((w : List Lexeme) → Grown (P w) (Q w))

opened_at : {A B : Type 0} (f : Lexeme → A → B) (o o2 : Option (Parser A)) → EachGrown o o2 → (x : Lexeme) (w : List Lexeme) → Grown (entered f o (x ∷ w)) (entered f o2 (x ∷ w))
opened_at f None None g x w = absurd g
opened_at f None (Some Q) g x w = let t = then_falls (λ a r. Ok (f x a, r)) (λ a r. stays r) w (Q w) (g w) in record { token = x; more = t.front; whole = ap (λ z. x ∷ z) t.whole }
opened_at f (Some P) None g x w = absurd g
opened_at f (Some P) (Some Q) g x w = grown_then (λ a r. Ok (f x a, r)) (λ a r. Ok (f x a, r)) (λ a r. refl) (λ a r. stays r) (P w) (Q w) (g w)

nest_grown : {A B : Type 0} (openers : List ℕ) (f : Lexeme → A → B) (o o2 : Option (Parser A)) → EachGrown o o2 → (w : List Lexeme)
    → Grown (if sees openers (first w) then entered f o w else Err (Syntax, w)) (if sees openers (first w) then entered f o2 w else Err (Syntax, w))
nest_grown openers f o o2 g [] = refl
nest_grown openers f o o2 g (x ∷ w) = if_grown (is_among x.class openers) (entered f o (x ∷ w)) (Err (Syntax, x ∷ w)) (entered f o2 (x ∷ w)) (Err (Syntax, x ∷ w)) (opened_at f o o2 g x w) refl

module _ (n n2 : Readers) (h : (s : Sort) → EachFalls (n2 s)) (each : (s : Sort) → EachGrown (n s) (n2 s)) where
  many_grown : {A : Type 0} (starts : Option Lexeme → Bool) (p q : Parser A) → ((w : List Lexeme) → Grown (p w) (q w)) → ((w : List Lexeme) → Falls w (rest_of (q w))) → (k : ℕ) (w : List Lexeme) → Grown (many_from starts p k w) (many_from starts q k w)
  unfolding many_from
  many_grown starts p q grows fall zero w = refl
  many_grown starts p q grows fall (suc k) w = if_grown (starts (first w))
      (and_then (p w) (λ a r. and_then (many_from starts p k r) (λ list s. Ok (a ∷ list, s)))) (Ok ([], w))
      (and_then (q w) (λ a r. and_then (many_from starts q k r) (λ list s. Ok (a ∷ list, s)))) (Ok ([], w))
      (grown_then (λ a r. and_then (many_from starts p k r) (λ list s. Ok (a ∷ list, s))) (λ a r. and_then (many_from starts q k r) (λ list s. Ok (a ∷ list, s)))
      (λ a r. grown_then (λ list s. Ok (a ∷ list, s)) (λ list s. Ok (a ∷ list, s)) (λ list s. refl) (λ list s. stays s) (many_from starts p k r) (many_from starts q k r) (many_grown starts p q grows fall k r))
      (λ a r. then_falls (λ list s. Ok (a ∷ list, s)) (λ list s. stays s) r (many_from starts q k r) (many_falls starts q fall k r))
      (p w) (q w) (grows w))
      refl

  pub grown : {A : Type 0} (p : Form A) (w : List Lexeme) → Grown (read n p w) (read n2 p w)
  grown (empty a) w = refl
  grown (one classes f) w = if_grown (sees classes (first w)) (taken f (first w) (tail w)) (Err (Syntax, w)) (taken f (first w) (tail w)) (Err (Syntax, w)) (same_grown f (first w) (tail w)) refl
  grown (both f p q) w = grown_then (λ a r. and_then (read n q r) (λ b s. Ok (f a b, s))) (λ a r. and_then (read n2 q r) (λ b s. Ok (f a b, s)))
      (λ a r. grown_then (λ b s. Ok (f a b, s)) (λ b s. Ok (f a b, s)) (λ b s. refl) (λ b s. stays s) (read n q r) (read n2 q r) (grown q r))
      (λ a r. then_falls (λ b s. Ok (f a b, s)) (λ b s. stays s) r (read n2 q r) (falls n2 h q r))
      (read n p w) (read n2 p w) (grown p w)
  grown (either p q) w = if_grown (begins p (first w)) (read n p w) (read n q w) (read n2 p w) (read n2 q w) (grown p w) (grown q w)
  grown (many p) w = many_grown (begins p) (read n p) (read n2 p) (grown p) (falls n2 h p) (length w) w
  grown (nest openers s f) w = nest_grown openers f (n s) (n2 s) (each s) w
  grown (marked f p) w = grown_then (λ a r. taken (λ x. f x a) (first w) r) (λ a r. taken (λ x. f x a) (first w) r) (λ a r. same_grown (λ x. f x a) (first w) r) (λ a r. taken_falls (λ x. f x a) (first w) r) (read n p w) (read n2 p w) (grown p w)
  grown (phrase classes two three f p) w = if_grown (sees_phrase classes two three w) (taken f (first w) (tail (tail (tail w)))) (read n p w) (taken f (first w) (tail (tail (tail w)))) (read n2 p w) (same_grown f (first w) (tail (tail (tail w)))) (grown p w)
