-- Which rules one token of look ahead is enough for.
use Rattle.std.specs.Prelude.{ℕ, List, [], ◌∷◌, ◌++◌, Bool, true, false, if◌then◌else◌}
use Rattle.sql_grammar.specs.Lexeme.{is_among}
use Rattle.sql_grammar.specs.Form.{Sort, Form, empty, one, both, either, many, nest, marked, phrase}
use Rattle.sql_grammar.specs.Reading.{nullable}

infixr 5 ◌and◌
abbrev pub ◌and◌ : Bool → Bool → Bool
a and b = if a then b else false

abbrev pub opposite : Bool → Bool
opposite a = if a then false else true

-- the classes that a rule's tokens may begin with
abbrev pub firsts : {A : Type 0} → Form A → List ℕ
firsts (empty a) = []
firsts (one classes f) = classes
firsts (both f p q) = if nullable p then (firsts p ++ firsts q) else firsts p
firsts (either p q) = firsts p ++ firsts q
firsts (many p) = firsts p
firsts (nest openers s f) = openers
firsts (marked f p) = firsts p
firsts (phrase classes second third f p) = classes ++ firsts p

-- the classes with which tokens of the rule may go on
abbrev pub goes_on : {A : Type 0} → (Sort → List ℕ) → Form A → List ℕ
goes_on n (empty a) = []
goes_on n (one classes f) = []
goes_on n (both f p q) = if nullable q then (goes_on n q ++ goes_on n p) else goes_on n q
goes_on n (either p q) = if nullable q then (goes_on n p ++ (goes_on n q ++ firsts p)) else (goes_on n p ++ goes_on n q)
goes_on n (many p) = goes_on n p ++ firsts p
goes_on n (nest openers s f) = n s
goes_on n (marked f p) = goes_on n p
goes_on n (phrase classes second third f p) = goes_on n p

-- some tokens are of the rule, also where nothing may nest
abbrev pub alive : {A : Type 0} → Form A → Bool
alive (empty a) = true
alive (one [] f) = false
alive (one (k ∷ classes) f) = true
alive (both f p q) = if alive p then alive q else false
alive (either p q) = if alive p then true else alive q
alive (many p) = true
alive (nest openers s f) = false
alive (marked f p) = alive p and opposite (nullable p)
alive (phrase classes second third f p) = alive p

abbrev pub disjoint : List ℕ → List ℕ → Bool
disjoint [] js = true
disjoint (k ∷ ks) js = if is_among k js then false else disjoint ks js

abbrev pub within : List ℕ → List ℕ → Bool
within [] js = true
within (k ∷ ks) js = if is_among k js then within ks js else false

-- Whether a part goes on or ends, and which part is next, is told by the next token.
abbrev pub is_sound : {A : Type 0} → (Sort → List ℕ) → Form A → Bool
is_sound n (empty a) = true
is_sound n (one classes f) = true
is_sound n (both f p q) = is_sound n p and is_sound n q and alive q and disjoint (firsts q) (goes_on n p)
is_sound n (either p q) = is_sound n p and is_sound n q and opposite (nullable p) and disjoint (firsts q) (firsts p)
is_sound n (many p) = is_sound n p and opposite (nullable p) and disjoint (firsts p) (goes_on n p)
is_sound n (nest openers s f) = true
is_sound n (marked f p) = is_sound n p and opposite (nullable p)
is_sound n (phrase classes second third f p) = is_sound n p
