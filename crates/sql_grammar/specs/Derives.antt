-- Which tokens a rule of the grammar derives.
use Rattle.std.specs.Prelude.{◌≡◌, ℕ, List, [], ◌∷◌, ◌++◌, true, ◌⊎◌}
use Rattle.sql_grammar.specs.Lexeme.{Lexeme, is_among}
use Rattle.sql_grammar.specs.Form.{Sort, Value, Form, empty, one, both, either, many, nest, marked, phrase}

-- which tokens stand for which values
abbrev pub Language : Type 0 → Type 1
Language A = A → List Lexeme → Type 0

-- what each rule that nests derives
abbrev pub Inner : Type 1
Inner = (s : Sort) → Value s → List Lexeme → Type 0

pub record One {A : Type 0} (classes : List ℕ) (f : Lexeme → A) (a : A) (w : List Lexeme) : Type 0 where
  pub token : Lexeme
  pub alone : w ≡ token ∷ []
  pub among : is_among token.class classes ≡ true
  pub means : a ≡ f token

pub record Both {A B C : Type 0} (f : A → B → C) (L : A → List Lexeme → Type 0) (M : B → List Lexeme → Type 0) (c : C) (w : List Lexeme) : Type 0 where
  pub value : A
  pub next : B
  pub front : List Lexeme
  pub back : List Lexeme
  pub whole : w ≡ front ++ back
  pub fore : L value front
  pub aft : M next back
  pub means : c ≡ f value next

pub data Many {A : Type 0} (L : A → List Lexeme → Type 0) : List A → List Lexeme → Type 0 where
  none : Many L [] []
  more : {a : A} {u : List Lexeme} {list : List A} {v : List Lexeme} → L a u → Many L list v → Many L (a ∷ list) (u ++ v)

pub record Nest {A B : Type 0} (openers : List ℕ) (f : Lexeme → A → B) (L : A → List Lexeme → Type 0) (b : B) (w : List Lexeme) : Type 0 where
  pub token : Lexeme
  pub value : A
  pub rest : List Lexeme
  pub whole : w ≡ token ∷ rest
  pub opens : is_among token.class openers ≡ true
  pub inside : L value rest
  pub means : b ≡ f token value

pub record Marked {A B : Type 0} (f : Lexeme → A → B) (L : A → List Lexeme → Type 0) (b : B) (w : List Lexeme) : Type 0 where
  pub token : Lexeme
  pub value : A
  pub rest : List Lexeme
  pub whole : w ≡ token ∷ rest
  pub spelled : L value w
  pub means : b ≡ f token value

pub record Phrase {A : Type 0} (classes : List ℕ) (second third : ℕ) (f : Lexeme → A) (a : A) (w : List Lexeme) : Type 0 where
  pub x : Lexeme
  pub y : Lexeme
  pub z : Lexeme
  pub whole : w ≡ x ∷ y ∷ z ∷ []
  pub is_x : is_among x.class classes ≡ true
  pub is_y : is_among y.class (second ∷ []) ≡ true
  pub is_z : is_among z.class (third ∷ []) ≡ true
  pub means : a ≡ f x

-- the tokens that a rule derives, given what nests in it
abbrev pub derives : {A : Type 0} → Inner → Form A → A → List Lexeme → Type 0
derives n (empty a) b w = (b ≡ a) × (w ≡ [])
derives n (one classes f) a w = One classes f a w
derives n (both f p q) c w = Both f (derives n p) (derives n q) c w
derives n (either p q) a w = derives n p a w ⊎ derives n q a w
derives n (many p) a w = Many (derives n p) a w
derives n (nest openers s f) a w = Nest openers f (n s) a w
derives n (marked f p) a w = Marked f (derives n p) a w
derives n (phrase classes second third f p) a w = Phrase classes second third f a w ⊎ derives n p a w
