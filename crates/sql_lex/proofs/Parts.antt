-- What stands at the front of a text is a part of it, and has a byte at least.
use Rattle.std.proofs.Common.{◌≡◌, ℕ, suc, ◌+◌, ◌<◌, ◌≤◌, List, [], ◌∷◌, length, take, drop, Some, None, true, false, Bool, eqb, arith, refl, sym, subst, inl, inr, codes, ◌&&◌, ◌||◌}
use Rattle.std.specs.Prelude.{Option, if◌then◌else◌, IfSome, not}
use Rattle.std.specs.Option.{option_map}
use Rattle.std.specs.List.{starts_with}
use Rattle.std.specs.Char.{is_ascii_digit}
use Rattle.std.proofs.lemmas.Bool.{cases_Bool, eqb-true, leb-true}
use Rattle.std.proofs.Math.Dec.{leb}
use Rattle.std.proofs.lemmas.Bool.Decides.{nat_tests}
use Rattle.std.proofs.lemmas.List.{length-drop}
use Rattle.std.proofs.lemmas.List.Sums.{prefix_len-le-length}
use Rattle.sql_lex.specs.declared.token.Sign.{Sign}
use Rattle.sql_lex.specs.declared.token.TokenKind.TheVariants as kind
use Rattle.sql_lex.specs.declared.rules.Front.{Front}
use Rattle.sql_lex.specs.declared.rules.Front.TheVariants.{Gap, Lexeme, Bad}
use Rattle.sql_lex.specs.Gaps.{is_blank, before_close, line_comment_length, block_comment_length}
use Rattle.sql_lex.specs.Names.{is_name_start, is_name_byte, name_length}
use Rattle.sql_lex.specs.Quotes.{to_closing}
use Rattle.sql_lex.specs.Numbers.{begins_with_digit, begins_with_point, begins_with_number, digits_length}
use Rattle.sql_lex.specs.Fronts.{front_of, name_front, kind_of_name, text_front, text_of, quoted_front, quoted_of, number_front, sign_front, sign_or, gap_of}
use Rattle.sql_lex.specs.Signs.{sign_of}
use Rattle.sql_lex.specs.Words.{word_of}

-- what stands at the front of a text is a part of it, and has a byte at least
abbrev pub IsPart : List ℕ → Front → Type 0
IsPart text (Gap n) = (0 < n) × (n ≤ length text)
IsPart text (Lexeme kind n) = (0 < n) × (n ≤ length text)
IsPart text Bad = Unit {0}

pub choice : (text : List ℕ) (b : Bool) (x y : Front) → (b ≡ true → IsPart text x) → (b ≡ false → IsPart text y) → IsPart text (if b then x else y)
choice text true x y yes_part no_part = yes_part refl
choice text false x y yes_part no_part = no_part refl

-- a text that begins with two bytes has two
pub begins_long : (a b : ℕ) (text : List ℕ) → starts_with eqb text (a ∷ b ∷ []) ≡ true → 2 ≤ length text
begins_long a b [] begins = cc
begins_long a b (c ∷ []) begins = elim (cases_Bool (eqb a c)) [ inl same ↦ cc (rw same at begins) | inr other ↦ cc (rw other at begins) ]
begins_long a b (c ∷ d ∷ rest) begins = omega arith

pub start_is_byte : (c : ℕ) → is_name_start c ≡ true → is_name_byte c ≡ true
start_is_byte c start = grind (arith, nat_tests)

pub name-part : (c : ℕ) (rest : List ℕ) → is_name_start c ≡ true → IsPart (c ∷ rest) (name_front (c ∷ rest))
unfolding name_front
name-part c rest start =
    let some : 0 < name_length (c ∷ rest) = rw (start_is_byte c start) (omega arith) in
    let within : name_length (c ∷ rest) ≤ length (c ∷ rest) = prefix_len-le-length is_name_byte (c ∷ rest) in
    choice (c ∷ rest) _ (Lexeme (kind_of_name (word_of (take (name_length (c ∷ rest)) (c ∷ rest)))) (name_length (c ∷ rest))) Bad (λ _. (some, within)) (λ _. tt)

pub point_some : (text : List ℕ) → begins_with_point text ≡ true → 0 < length text
point_some [] begins = cc
point_some (c ∷ rest) begins = omega arith

-- digits without a point are some, where a number begins
pub digits_some : (c : ℕ) (rest : List ℕ) → begins_with_number (c ∷ rest) ≡ true → begins_with_point (drop (digits_length (c ∷ rest)) (c ∷ rest)) ≡ false → 0 < digits_length (c ∷ rest)
digits_some c rest begins no_point = elim (cases_Bool (is_ascii_digit c)) [
  | inl digit ↦ rw digit (omega arith)
  | inr other ↦ absurd (digits_none c rest other begins no_point)
]
  where
    digits_none : (c : ℕ) (rest : List ℕ) → is_ascii_digit c ≡ false → begins_with_number (c ∷ rest) ≡ true → begins_with_point (drop (digits_length (c ∷ rest)) (c ∷ rest)) ≡ false → ⊥
    digits_none c rest other begins no_point =
        let here : eqb c 46 ≡ false = rw other at no_point in
        let there : (false || (eqb c 46 && begins_with_digit rest)) ≡ true = rw other at begins in
        cc (rw here at there)

pub number-part : (c : ℕ) (rest : List ℕ) → begins_with_number (c ∷ rest) ≡ true → IsPart (c ∷ rest) (number_front (c ∷ rest))
unfolding number_front
number-part c rest begins =
    let text : List ℕ = c ∷ rest in
    let n : ℕ = digits_length (c ∷ rest) in
    choice (c ∷ rest) _ _ _
    (λ point. choice (c ∷ rest) _ (Lexeme kind.Decimal (n + 1 + digits_length (drop (n + 1) (c ∷ rest)))) Bad
    (λ _.
    let more : 0 < length (drop n (c ∷ rest)) = point_some (drop n (c ∷ rest)) point in
    (omega arith, omega (arith, length-drop n (c ∷ rest), length-drop (n + 1) (c ∷ rest), prefix_len-le-length is_ascii_digit (drop (n + 1) (c ∷ rest)))))
    (λ _. tt))
    (λ none. choice (c ∷ rest) _ (Lexeme kind.Integer n) Bad (λ _. (digits_some c rest begins none, prefix_len-le-length is_ascii_digit (c ∷ rest))) (λ _. tt))

-- a count within a text, moved on
pub within_on : (found : Option ℕ) (k m : ℕ) → IfSome found (λ n. n ≤ m) → IfSome (option_map (λ n. n + k) found) (λ n. n ≤ m + k)
within_on None k m within = tt
within_on (Some n) k m within = omega arith

pub to_closing-within : (quote : ℕ) (text : List ℕ) → IfSome (to_closing quote text) (λ n. n ≤ length text)
to_closing-within quote [] = tt
to_closing-within quote (c ∷ []) = elim (cases_Bool (eqb c quote)) [ inl closes ↦ rw closes (omega arith) | inr other ↦ rw other tt ]
to_closing-within quote (c ∷ d ∷ rest) = elim (cases_Bool (eqb c quote)) [
  | inl first ↦ elim (cases_Bool (eqb d quote)) [
    | inl second ↦ rw (first, second) (longer (option_map (λ n. n + 2) (to_closing quote rest)) (length rest + 2) (length (c ∷ d ∷ rest)) (omega arith) (within_on (to_closing quote rest) 2 (length rest) (to_closing-within quote rest)))
    | inr other ↦ rw (first, other) (omega arith)
  ]
  | inr plain ↦ rw plain (longer (option_map (λ n. n + 1) (to_closing quote (d ∷ rest))) (length (d ∷ rest) + 1) (length (c ∷ d ∷ rest)) (omega arith) (within_on (to_closing quote (d ∷ rest)) 1 (length (d ∷ rest)) (to_closing-within quote (d ∷ rest))))
]
  where
    longer : (found : Option ℕ) (m more : ℕ) → m ≤ more → IfSome found (λ n. n ≤ m) → IfSome found (λ n. n ≤ more)
    longer None m more above within = tt
    longer (Some n) m more above within = omega arith

pub text-part : (c : ℕ) (rest : List ℕ) → IsPart (c ∷ rest) (text_front (c ∷ rest))
unfolding text_front
text-part c rest = go (to_closing 39 rest) (to_closing-within 39 rest)
  where
    go : (found : Option ℕ) → IfSome found (λ n. n ≤ length rest) → IsPart (c ∷ rest) (text_of found)
    go None within = tt
    go (Some n) within = (omega arith, omega arith)

pub quoted-part : (c : ℕ) (rest : List ℕ) → IsPart (c ∷ rest) (quoted_front (c ∷ rest))
unfolding quoted_front
quoted-part c rest = go (to_closing 34 rest) (to_closing-within 34 rest)
  where
    go : (found : Option ℕ) → IfSome found (λ n. n ≤ length rest) → IsPart (c ∷ rest) (quoted_of rest found)
    go None within = tt
    go (Some n) within = choice (c ∷ rest) _ (Lexeme kind.QuotedName (n + 1)) Bad (λ _. (omega arith, omega arith)) (λ _. tt)

pub line-part : (c : ℕ) (rest : List ℕ) → starts_with eqb (c ∷ rest) (codes "--") ≡ true → IsPart (c ∷ rest) (Gap (line_comment_length (c ∷ rest)))
line-part c rest dashes = elim (cases_Bool (eqb c 10)) [
  | inl line_end ↦ cc (rw (eqb-true c 10 line_end) at dashes)
  | inr other ↦ (rw other (omega arith), prefix_len-le-length (λ b. not (eqb b 10)) (c ∷ rest))
]

pub before_close-within : (text : List ℕ) → IfSome (before_close text) (λ n. n + 2 ≤ length text)
before_close-within [] = tt
before_close-within (c ∷ rest) = elim (cases_Bool (starts_with eqb (c ∷ rest) (codes "*/"))) [
  | inl closes ↦ rw closes (begins_long 42 47 (c ∷ rest) closes)
  | inr other ↦ rw other (go (before_close rest) (before_close-within rest))
]
  where
    go : (found : Option ℕ) → IfSome found (λ n. n + 2 ≤ length rest) → IfSome (option_map suc found) (λ n. n + 2 ≤ suc (length rest))
    go None within = tt
    go (Some n) within = omega arith

pub block-part : (text : List ℕ) → starts_with eqb text (codes "/*") ≡ true → IsPart text (gap_of (block_comment_length text))
block-part text begins = go (before_close (drop 2 text)) (before_close-within (drop 2 text))
  where
    go : (found : Option ℕ) → IfSome found (λ n. n + 2 ≤ length (drop 2 text)) → IsPart text (gap_of (option_map (λ inside. inside + 4) found))
    go None within = tt
    go (Some n) within = (omega arith, omega (arith, length-drop 2 text, begins_long 47 42 text begins))

pub sign-part : (c : ℕ) (rest : List ℕ) → IsPart (c ∷ rest) (sign_front (c ∷ rest))
unfolding sign_front
sign-part c rest = elim (cases_Bool (leb 2 (length (c ∷ rest)))) [
  | inl two ↦ rw two (pair (sign_of (take 2 (c ∷ rest))) (leb-true 2 (length (c ∷ rest)) two))
  | inr short ↦ rw short (one (sign_of (c ∷ [])))
]
  where
    one : (found : Option Sign) → IsPart (c ∷ rest) (sign_or found 1 Bad)
    one None = tt
    one (Some sign) = (omega arith, omega arith)

    pair : (found : Option Sign) → 2 ≤ length (c ∷ rest) → IsPart (c ∷ rest) (sign_or found 2 (sign_or (sign_of (c ∷ [])) 1 Bad))
    pair None long = one (sign_of (c ∷ []))
    pair (Some sign) long = (omega arith, long)

pub front-part : (text : List ℕ) → IsPart text (front_of text)
unfolding front_of
front-part [] = tt
front-part (c ∷ rest) =
    choice (c ∷ rest) (is_name_start c) _ _ (name-part c rest)
    (λ _. choice (c ∷ rest) (is_blank c) (Gap 1) _ (λ _. (omega arith, omega arith))
    (λ _. choice (c ∷ rest) (begins_with_number (c ∷ rest)) _ _ (number-part c rest)
    (λ _. choice (c ∷ rest) (eqb c 39) _ _ (λ _. text-part c rest)
    (λ _. choice (c ∷ rest) (eqb c 34) _ _ (λ _. quoted-part c rest)
    (λ _. choice (c ∷ rest) (starts_with eqb (c ∷ rest) (codes "--")) _ _ (line-part c rest)
    (λ _. choice (c ∷ rest) (starts_with eqb (c ∷ rest) (codes "/*")) _ _ (block-part (c ∷ rest))
    (λ _. sign-part c rest)))))))

-- the same of what is known to stand there
pub part-at : (text : List ℕ) (front : Front) → front ≡ front_of text → IsPart text front
part-at text front same = subst (IsPart text) (sym same) (front-part text)
