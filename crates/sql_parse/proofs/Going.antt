-- Functions that hand on a part as it was read, or as it wasn't.
use Rattle.std.proofs.Common.{◌≡◌, ℕ, List, Result, Ok, Err, Bool, true, false, refl, sym, ◌∙◌, ap, subst, if◌then◌else◌}
use Rattle.sql_grammar.specs.Lexeme.{Lexeme, first, sees, lexeme_at}
use Rattle.sql_grammar.specs.declared.fault.Fault.{Fault}
use Rattle.sql_grammar.specs.declared.fault.Fault.TheVariants.{Syntax}
use Rattle.sql_grammar.specs.Form.{Sort, Value, Form, both, either, nest, marked}
use Rattle.sql_grammar.specs.Reading.{Outcome, Parser, and_then, begins, opened, taken, Readers, read}
use Rattle.sql_grammar.specs.Combinators.{◌<$>◌, ◌<*>◌}
use Rattle.flat_rules.specs.Gives.{Gives, Makes, GoesOn}

and_then_twice : {A B C : Type 0} (o : Outcome A) (f : A → Parser B) (g : B → Parser C) → and_then (and_then o f) g ≡ and_then o (λ a r. and_then (f a r) g)
and_then_twice (Ok p) f g = refl
and_then_twice (Err e) f g = refl

-- the whole hands on a fault of the part, and else goes on behind it
goes_through : {A B : Type 0} (whole : Outcome A → Outcome B) (next : A → Parser B) → ((e : Fault × List Lexeme) → whole (Err e) ≡ Err e) → ((a : A) (r : List Lexeme) → whole (Ok (a, r)) ≡ next a r)
    → (o : Outcome A) (found : Result A Fault) (u : List Lexeme) (result : Result B Fault) (new : List Lexeme) → Gives o found u → GoesOn next found u result new → Gives (whole o) result new
goes_through whole next f g o (Ok a) u result new p q = subst (λ z. Gives (whole z) result new) (sym p) (subst (λ z. Gives z result new) (sym (g a u)) q)
goes_through whole next f g o (Err e) u result new p q =
    subst (λ z. Gives (whole o) z new) (sym q.0) (subst (λ v. Gives (whole o) (Err e) v) (sym q.1) (λ h. ap whole (p h) ∙ f (e, u)))

-- the same for a whole that makes something of the part
makes_of : {A B : Type 0} (f : A → B) (found : Result A Fault) (result : Result B Fault) (u : List Lexeme) → Makes f found result → GoesOn (λ a r. Ok (f a, r)) found u result u
makes_of f (Err e) result u m = (m, refl)
makes_of f (Ok a) (Err e) u m = λ h. absurd (h m)
makes_of f (Ok a) (Ok b) u m = ap (λ z. Ok (z, u)) (sym m)

module _ (n : Readers) where
  mapped : {A B : Type 0} (f : A → B) (p : Form A) (w : List Lexeme) (a : A) (r : List Lexeme) → read n p w ≡ Ok (a, r) → read n (f <$> p) w ≡ Ok (f a, r)
  mapped f p w a r e = ap (λ o. and_then o (λ a s. Ok (f a, s))) e

  applied : {A B : Type 0} (p : Form (A → B)) (q : Form A) (w : List Lexeme) (f : A → B) (r : List Lexeme) (a : A) (s : List Lexeme) → read n p w ≡ Ok (f, r) → read n q r ≡ Ok (a, s) → read n (p <*> q) w ≡ Ok (f a, s)
  applied p q w f r a s e h = ap (λ o. and_then o (λ f r. and_then (read n q r) (λ b s. Ok (f b, s)))) e ∙ ap (λ o. and_then o (λ b s. Ok (f b, s))) h

  -- a part behind one that was read
  behind : {A B : Type 0} (p : Form (A → B)) (q : Form A) (w : List Lexeme) (f : A → B) (r : List Lexeme) (found : Result A Fault) (u : List Lexeme) (result : Result B Fault)
      → read n p w ≡ Ok (f, r) → Gives (read n q r) found u → Makes f found result → Gives (read n (p <*> q) w) result u
  behind p q w f r found u result e g m =
      subst (λ o. Gives (and_then o (λ f r. and_then (read n q r) (λ b s. Ok (f b, s)))) result u) (sym e)
      (goes_through (λ o. and_then o (λ b s. Ok (f b, s))) (λ b s. Ok (f b, s)) (λ e. refl) (λ a r. refl) (read n q r) found u result u g (makes_of f found result u m))

  -- `f <$> p <*> q`
  pub chained : {A B C : Type 0} (f : A → B → C) (p : Form A) (q : Form B) (w : List Lexeme) (a : A) (r : List Lexeme) (found : Result B Fault) (u : List Lexeme) (result : Result C Fault)
      → read n p w ≡ Ok (a, r) → Gives (read n q r) found u → Makes (f a) found result → Gives (read n (f <$> p <*> q) w) result u
  chained f p q w a r found u result e g m = behind (f <$> p) q w (f a) r found u result (mapped f p w a r e) g m

  -- `f <$> p <*> q <*> k`, with the last part open
  pub chained_twice : {A B C D : Type 0} (f : A → B → C → D) (p : Form A) (q : Form B) (k : Form C) (w : List Lexeme) (a : A) (r : List Lexeme) (b : B) (s : List Lexeme) (found : Result C Fault) (u : List Lexeme) (result : Result D Fault)
      → read n p w ≡ Ok (a, r) → read n q r ≡ Ok (b, s) → Gives (read n k s) found u → Makes (f a b) found result → Gives (read n (f <$> p <*> q <*> k) w) result u
  chained_twice f p q k w a r b s found u result e h g m =
      behind (f <$> p <*> q) k w (f a b) s found u result (applied (f <$> p) q w (f a) r b s (mapped f p w a r e) h) g m

  -- `f <$> p <*> q <*> k`, with the part between open
  pub chained_on : {A B C D : Type 0} (f : A → B → C → D) (p : Form A) (q : Form B) (k : Form C) (w : List Lexeme) (a : A) (r : List Lexeme) (found : Result B Fault) (u : List Lexeme) (result : Result D Fault) (new : List Lexeme)
      → read n p w ≡ Ok (a, r) → Gives (read n q r) found u → GoesOn (λ b s. and_then (read n k s) (λ c t. Ok (f a b c, t))) found u result new → Gives (read n (f <$> p <*> q <*> k) w) result new
  chained_on f p q k w a r found u result new e g m =
      subst (λ o. Gives (and_then (and_then o (λ f r. and_then (read n q r) (λ b s. Ok (f b, s)))) (λ f r. and_then (read n k r) (λ c t. Ok (f c, t)))) result new) (sym (mapped f p w a r e))
      (goes_through (λ o. and_then (and_then o (λ b s. Ok (f a b, s))) (λ f r. and_then (read n k r) (λ c t. Ok (f c, t)))) (λ b s. and_then (read n k s) (λ c t. Ok (f a b c, t)))
      (λ e. refl) (λ b s. refl) (read n q r) found u result new g m)

  -- the second of two rules, behind a part that was read
  pub second_behind : {A B C : Type 0} (f : A → B → C) (d : Form A) (p q : Form B) (v : List Lexeme) (a : A) (w : List Lexeme) (result : Result C Fault) (new : List Lexeme)
      → read n d v ≡ Ok (a, w) → begins p (first w) ≡ false → Gives (and_then (read n q w) (λ b t. Ok (f a b, t))) result new → Gives (read n (f <$> d <*> either p q) v) result new
  second_behind f d p q v a w result new e h g =
      subst (λ o. Gives (and_then o (λ y r. and_then (read n (either p q) r) (λ b t. Ok (y b, t)))) result new) (sym (mapped f d v a w e))
      (subst (λ (b : Bool). Gives (and_then (if b then read n p w else read n q w) (λ b t. Ok (f a b, t))) result new) (sym h) g)

  -- a test `f <$> p <*> q` of what is on its left
  pub tested : {A B L C : Type 0} (f : A → B → L → C) (p : Form A) (q : Form B) (left : L) (w : List Lexeme) (a : A) (r : List Lexeme) (found : Result B Fault) (u : List Lexeme) (result : Result C Fault)
      → read n p w ≡ Ok (a, r) → Gives (read n q r) found u → Makes (λ b. f a b left) found result → Gives (and_then (read n (f <$> p <*> q) w) (λ t s. Ok (t left, s))) result u
  tested f p q left w a r found u result e g m =
      subst (λ o. Gives (and_then (and_then o (λ f r. and_then (read n q r) (λ b s. Ok (f b, s)))) (λ t s. Ok (t left, s))) result u) (sym (mapped f p w a r e))
      (goes_through (λ o. and_then (and_then o (λ b s. Ok (f a b, s))) (λ t s. Ok (t left, s))) (λ b s. Ok (f a b left, s))
      (λ e. refl) (λ b s. refl) (read n q r) found u result u g (makes_of (λ b. f a b left) found result u m))

  -- a test `f <$> p`
  pub tested_whole : {A T C : Type 0} (f : A → T) (k : T → C) (p : Form A) (w : List Lexeme) (found : Result A Fault) (u : List Lexeme) (result : Result C Fault)
      → Gives (read n p w) found u → Makes (λ a. k (f a)) found result → Gives (and_then (read n (f <$> p) w) (λ t s. Ok (k t, s))) result u
  tested_whole f k p w found u result g m =
      goes_through (λ o. and_then (and_then o (λ a s. Ok (f a, s))) (λ t s. Ok (k t, s))) (λ a s. Ok (k (f a), s)) (λ e. refl) (λ a s. refl) (read n p w) found u result u g (makes_of (λ a. k (f a)) found result u m)

  -- what nests is read behind its openers
  seen : {A : Type 0} (openers : List ℕ) (s : Sort) (f : Lexeme → Value s → A) (w : List Lexeme) → sees openers (first w) ≡ true → read n (nest openers s f) w ≡ and_then (opened (n s) w) (λ a r. Ok (f (lexeme_at (first w)) a, r))
  seen openers s f w h = ap (λ (b : Bool). if b then and_then (opened (n s) w) (λ a r. Ok (f (lexeme_at (first w)) a, r)) else Err (Syntax, w)) h

  -- what nests, where it is one of two rules
  pub nest_made : {A : Type 0} (openers : List ℕ) (s : Sort) (f : Lexeme → Value s → A) (other : Form A) (w : List Lexeme) (found : Result (Value s) Fault) (u : List Lexeme) (result : Result A Fault)
      → sees openers (first w) ≡ true → Gives (opened (n s) w) found u → Makes (f (lexeme_at (first w))) found result → Gives (read n (either (nest openers s f) other) w) result u
  nest_made openers s f other w found u result h g m =
      subst (λ (b : Bool). Gives (if b then read n (nest openers s f) w else read n other w) result u) (sym h)
      (subst (λ o. Gives o result u) (sym (seen openers s f w h))
      (goes_through (λ o. and_then o (λ a r. Ok (f (lexeme_at (first w)) a, r))) (λ a r. Ok (f (lexeme_at (first w)) a, r)) (λ e. refl) (λ a r. refl) (opened (n s) w) found u result u g
      (makes_of (f (lexeme_at (first w))) found result u m)))

  -- what nests, and a rule behind it
  pub nest_on : {A B C : Type 0} (openers : List ℕ) (s : Sort) (f : Lexeme → Value s → A) (g : A → B → C) (q : Form B) (w : List Lexeme) (found : Result (Value s) Fault) (u : List Lexeme) (result : Result C Fault) (new : List Lexeme)
      → sees openers (first w) ≡ true → Gives (opened (n s) w) found u → GoesOn (λ v r. and_then (read n q r) (λ b t. Ok (g (f (lexeme_at (first w)) v) b, t))) found u result new
      → Gives (read n (both g (nest openers s f) q) w) result new
  nest_on openers s f g q w found u result new h p m =
      subst (λ o. Gives (and_then o (λ a r. and_then (read n q r) (λ b t. Ok (g a b, t)))) result new) (sym (seen openers s f w h))
      (goes_through (λ o. and_then (and_then o (λ a r. Ok (f (lexeme_at (first w)) a, r))) (λ a r. and_then (read n q r) (λ b t. Ok (g a b, t)))) (λ v r. and_then (read n q r) (λ b t. Ok (g (f (lexeme_at (first w)) v) b, t)))
      (λ e. refl) (λ a r. refl) (opened (n s) w) found u result new p m)

  -- the same as the first of two rules, of which a value makes something
  pub nest_called : {A B C E : Type 0} (h : C → E) (openers : List ℕ) (s : Sort) (f : Lexeme → Value s → A) (g : A → B → C) (q : Form B) (other : Form C) (w : List Lexeme) (found : Result (Value s) Fault) (u : List Lexeme) (result : Result E Fault) (new : List Lexeme)
      → sees openers (first w) ≡ true → Gives (opened (n s) w) found u → GoesOn (λ x r. and_then (read n q r) (λ b t. Ok (h (g (f (lexeme_at (first w)) x) b), t))) found u result new
      → Gives (and_then (read n (either (both g (nest openers s f) q) other) w) (λ c t. Ok (h c, t))) result new
  nest_called h openers s f g q other w found u result new e p m =
      let z : Lexeme = lexeme_at (first w) in
      subst (λ (b : Bool). Gives (and_then (if b then read n (both g (nest openers s f) q) w else read n other w) (λ c t. Ok (h c, t))) result new) (sym e)
      (subst (λ o. Gives (and_then (and_then o (λ a r. and_then (read n q r) (λ b t. Ok (g a b, t)))) (λ c t. Ok (h c, t))) result new) (sym (seen openers s f w e))
      (goes_through (λ o. and_then (and_then (and_then o (λ a r. Ok (f z a, r))) (λ a r. and_then (read n q r) (λ b t. Ok (g a b, t)))) (λ c t. Ok (h c, t))) (λ x r. and_then (read n q r) (λ b t. Ok (h (g (f z x) b), t)))
      (λ e. refl) (λ x r. and_then_twice (read n q r) (λ b t. Ok (g (f z x) b, t)) (λ c t. Ok (h c, t))) (opened (n s) w) found u result new p m))

  -- the same behind a part that was read
  pub nest_tested : {A B C D E F : Type 0} (h : E → F) (k : D → C → E) (d : Form D) (openers : List ℕ) (s : Sort) (f : Lexeme → Value s → A) (g : A → B → C) (q : Form B) (other : Form C) (v : List Lexeme) (a : D) (w : List Lexeme) (found : Result (Value s) Fault) (u : List Lexeme) (result : Result F Fault) (new : List Lexeme)
      → read n d v ≡ Ok (a, w) → sees openers (first w) ≡ true → Gives (opened (n s) w) found u → GoesOn (λ x r. and_then (read n q r) (λ b t. Ok (h (k a (g (f (lexeme_at (first w)) x) b)), t))) found u result new
      → Gives (and_then (read n (k <$> d <*> either (both g (nest openers s f) q) other) v) (λ e t. Ok (h e, t))) result new
  nest_tested h k d openers s f g q other v a w found u result new i e p m =
      subst (λ o. Gives (and_then (and_then o (λ y r. and_then (read n (either (both g (nest openers s f) q) other) r) (λ c t. Ok (y c, t)))) (λ e t. Ok (h e, t))) result new) (sym (mapped k d v a w i))
      (subst (λ o. Gives o result new) (sym (and_then_twice (read n (either (both g (nest openers s f) q) other) w) (λ c t. Ok (k a c, t)) (λ e t. Ok (h e, t))))
      (nest_called (λ c. h (k a c)) openers s f g q other w found u result new e p m))

  -- `f <$> p <*> q`, with the first part open
  pub mapped_on : {A B C : Type 0} (f : A → B → C) (p : Form A) (q : Form B) (w : List Lexeme) (found : Result A Fault) (u : List Lexeme) (result : Result C Fault) (new : List Lexeme)
      → Gives (read n p w) found u → GoesOn (λ a r. and_then (read n q r) (λ b s. Ok (f a b, s))) found u result new → Gives (read n (f <$> p <*> q) w) result new
  mapped_on f p q w found u result new g m =
      goes_through (λ o. and_then (and_then o (λ a s. Ok (f a, s))) (λ h r. and_then (read n q r) (λ b s. Ok (h b, s)))) (λ a r. and_then (read n q r) (λ b s. Ok (f a b, s)))
      (λ e. refl) (λ a r. refl) (read n p w) found u result new g m

  -- a rule and another, with the first open
  pub both_on : {A B C : Type 0} (f : A → B → C) (p : Form A) (q : Form B) (w : List Lexeme) (found : Result A Fault) (u : List Lexeme) (result : Result C Fault) (new : List Lexeme)
      → Gives (read n p w) found u → GoesOn (λ a r. and_then (read n q r) (λ b s. Ok (f a b, s))) found u result new → Gives (read n (both f p q) w) result new
  both_on f p q w found u result new g m =
      goes_through (λ o. and_then o (λ a r. and_then (read n q r) (λ b s. Ok (f a b, s)))) (λ a r. and_then (read n q r) (λ b s. Ok (f a b, s)))
      (λ e. refl) (λ a r. refl) (read n p w) found u result new g m

  -- a rule with its first token
  pub marked_made : {A B : Type 0} (g : Lexeme → A → B) (p : Form A) (w : List Lexeme) (found : Result A Fault) (u : List Lexeme) (result : Result B Fault)
      → Gives (read n p w) found u → Makes (g (lexeme_at (first w))) found result → Gives (read n (marked g p) w) result u
  marked_made g p w found u result h m =
      goes_through (λ o. and_then o (λ a r. taken (λ x. g x a) (first w) r)) (λ a r. Ok (g (lexeme_at (first w)) a, r))
      (λ e. refl) (λ a r. refl) (read n p w) found u result u h (makes_of (g (lexeme_at (first w))) found result u m)

  -- the same with a rule behind it
  pub marked_on : {A B C D : Type 0} (f : B → C → D) (g : Lexeme → A → B) (p : Form A) (q : Form C) (w : List Lexeme) (found : Result A Fault) (u : List Lexeme) (result : Result D Fault) (new : List Lexeme)
      → Gives (read n p w) found u → GoesOn (λ a r. and_then (read n q r) (λ c s. Ok (f (g (lexeme_at (first w)) a) c, s))) found u result new → Gives (read n (f <$> marked g p <*> q) w) result new
  marked_on f g p q w found u result new h m =
      goes_through (λ o. and_then (and_then (and_then o (λ a r. taken (λ x. g x a) (first w) r)) (λ b s. Ok (f b, s))) (λ k r. and_then (read n q r) (λ c s. Ok (k c, s))))
      (λ a r. and_then (read n q r) (λ c s. Ok (f (g (lexeme_at (first w)) a) c, s)))
      (λ e. refl) (λ a r. refl) (read n p w) found u result new h m

  -- the same behind a part that was read
  pub chained_marked : {A B C D : Type 0} (f : A → C → D) (p : Form A) (g : Lexeme → B → C) (q : Form B) (w : List Lexeme) (a : A) (r : List Lexeme) (found : Result B Fault) (u : List Lexeme) (result : Result D Fault)
      → read n p w ≡ Ok (a, r) → Gives (read n q r) found u → Makes (λ b. f a (g (lexeme_at (first r)) b)) found result → Gives (read n (f <$> p <*> marked g q) w) result u
  chained_marked f p g q w a r found u result e h m =
      subst (λ o. Gives (and_then o (λ k r. and_then (and_then (read n q r) (λ b s. taken (λ x. g x b) (first r) s)) (λ c s. Ok (k c, s)))) result u) (sym (mapped f p w a r e))
      (goes_through (λ o. and_then (and_then o (λ b s. taken (λ x. g x b) (first r) s)) (λ c s. Ok (f a c, s))) (λ b s. Ok (f a (g (lexeme_at (first r)) b), s))
      (λ e. refl) (λ b s. refl) (read n q r) found u result u h (makes_of (λ b. f a (g (lexeme_at (first r)) b)) found result u m))
