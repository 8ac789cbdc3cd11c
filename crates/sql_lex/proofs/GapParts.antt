-- A gap that stands at the front of a text is a blank or a comment.
use Rattle.std.proofs.Common.{◌≡◌, ℕ, suc, ◌+◌, ◌-◌, List, [], ◌∷◌, ◌++◌, take, drop, Some, None, true, false, Bool, eqb, arith, refl, ap, sym, ◌∙◌, subst, inl, inr, codes, one-add, ◌^◌}
use Rattle.std.specs.Prelude.{Option, if◌then◌else◌, not}
use Rattle.std.specs.Option.{option_map}
use Rattle.std.specs.List.{prefix_len, starts_with, list_all}
use Rattle.std.proofs.lemmas.Bool.{cases_Bool, eqb-true}
use Rattle.sql_lex.specs.declared.token.Sign.{Sign}
use Rattle.sql_lex.specs.declared.token.TokenKind.{TokenKind}
use Rattle.sql_lex.specs.declared.token.TokenKind.TheVariants as kind
use Rattle.sql_lex.specs.declared.rules.Front.{Front}
use Rattle.sql_lex.specs.declared.rules.Front.TheVariants.{Gap, Lexeme, Bad}
use Rattle.std.proofs.Math.Dec.{leb, ltb}
use Rattle.std.specs.Str.Parse.{digits_value}
use Rattle.sql_lex.specs.Gaps.{is_blank, before_close, line_comment_length, block_comment_length}
use Rattle.sql_lex.specs.Names.{is_name_start, name_length}
use Rattle.sql_lex.specs.Quotes.{to_closing, undoubled}
use Rattle.sql_lex.specs.Numbers.{begins_with_number, begins_with_point, digits_length, decimal_width}
use Rattle.sql_lex.specs.Signs.{sign_of}
use Rattle.sql_lex.specs.Words.{word_of}
use Rattle.sql_lex.specs.Fronts.{front_of, name_front, kind_of_name, decimal_front, integer_front, text_front, text_of, quoted_front, quoted_of, is_quoted_name, number_front, sign_front, sign_or, pair_at, gap_of}
use Rattle.sql_lex.specs.Cover.{IsGap, blank, line_comment, block_comment}

-- if a gap stands there, its bytes are a gap
abbrev pub IsGapPart : List ℕ → Front → Type 0
IsGapPart text (Gap n) = IsGap (take n text)
IsGapPart text (Lexeme kind n) = Unit {0}
IsGapPart text Bad = Unit {0}

pub gap_choice : (text : List ℕ) (b : Bool) (x y : Front) → (b ≡ true → IsGapPart text x) → (b ≡ false → IsGapPart text y) → IsGapPart text (if b then x else y)
gap_choice text true x y yes_part no_part = yes_part refl
gap_choice text false x y yes_part no_part = no_part refl

-- the bytes of a text that begins with a byte, and of one that begins with two
pub begins_one : (a b : ℕ) (c : ℕ) (rest : List ℕ) → starts_with eqb (c ∷ rest) (a ∷ b ∷ []) ≡ true → a ≡ c
begins_one a b c rest begins = elim (cases_Bool (eqb a c)) [ inl same ↦ eqb-true a c same | inr other ↦ cc (rw other at begins) ]

pub begins_two : (a b : ℕ) (text : List ℕ) → starts_with eqb text (a ∷ b ∷ []) ≡ true → text ≡ a ∷ b ∷ drop 2 text
begins_two a b [] begins = cc
begins_two a b (c ∷ []) begins = elim (cases_Bool (eqb a c)) [ inl same ↦ cc (rw same at begins) | inr other ↦ cc (rw other at begins) ]
begins_two a b (c ∷ d ∷ rest) begins = elim (cases_Bool (eqb a c)) [
  | inl same ↦ elim (cases_Bool (eqb b d)) [
    | inl also ↦ ap (λ (x : ℕ). x ∷ d ∷ rest) (sym (eqb-true a c same)) ∙ ap (λ (x : ℕ). a ∷ x ∷ rest) (sym (eqb-true b d also))
    | inr other ↦ cc (rw (same, other) at begins)
  ]
  | inr other ↦ cc (rw other at begins)
]

-- the bytes that pass from the front on pass
pub front-passes : (p : ℕ → Bool) (text : List ℕ) → list_all p (take (prefix_len p text) text) ≡ true
front-passes p [] = refl
front-passes p (c ∷ rest) = elim (cases_Bool (p c)) [
  | inl passes ↦ rw (passes, one-add, passes) (front-passes p rest)
  | inr fails ↦ rw fails refl
]

pub line-gap : (text : List ℕ) → starts_with eqb text (codes "--") ≡ true → IsGap (take (line_comment_length text) text)
line-gap text dashes =
    let two : text ≡ 45 ∷ 45 ∷ drop 2 text = begins_two 45 45 text dashes in
    let P : List ℕ → Type 0 = λ t. IsGap (take (line_comment_length t) t) in
    subst P (sym two) (go (drop 2 text))
  where
    go : (rest : List ℕ) → IsGap (take (line_comment_length (45 ∷ 45 ∷ rest)) (45 ∷ 45 ∷ rest))
    go rest =
        let size : line_comment_length (45 ∷ 45 ∷ rest) ≡ suc (suc (line_comment_length rest)) = omega arith in
        rw size (line_comment (take (line_comment_length rest) rest) (front-passes (λ c. not (eqb c 10)) rest))

-- a text up to its first close
pub closed : (text : List ℕ) (n : ℕ) → before_close text ≡ Some n → take (n + 2) text ≡ take n text ++ codes "*/"
closed [] n found = cc
closed (c ∷ rest) n found = elim (cases_Bool (starts_with eqb (c ∷ rest) (codes "*/"))) [
  | inl closes ↦
      let here : Some 0 ≡ Some n = rw closes at found in
      let none : 0 ≡ n = cc in
      let P : ℕ → Type 0 = λ k. take (k + 2) (c ∷ rest) ≡ take k (c ∷ rest) ++ codes "*/" in
      subst P none (ap (take 2) (begins_two 42 47 (c ∷ rest) closes))
  | inr other ↦ go (before_close rest) (closed rest) refl (rw other at found)
]
  where
    go : (later : Option ℕ) → ((m : ℕ) → before_close rest ≡ Some m → take (m + 2) rest ≡ take m rest ++ codes "*/") → before_close rest ≡ later → option_map suc later ≡ Some n → take (n + 2) (c ∷ rest) ≡ take n (c ∷ rest) ++ codes "*/"
    go None on is found = cc
    go (Some m) on is found =
        let more : suc m ≡ n = cc in
        let P : ℕ → Type 0 = λ k. take (k + 2) (c ∷ rest) ≡ take k (c ∷ rest) ++ codes "*/" in
        let size : suc m + 2 ≡ suc (m + 2) = omega arith in
        subst P more (rw size (ap (λ (s : List ℕ). c ∷ s) (on m is)))

pub block-gap : (text : List ℕ) → starts_with eqb text (codes "/*") ≡ true → IsGapPart text (gap_of (block_comment_length text))
block-gap text begins = go (before_close (drop 2 text)) refl
  where
    two : text ≡ 47 ∷ 42 ∷ drop 2 text
    two = begins_two 47 42 text begins

    go : (found : Option ℕ) → before_close (drop 2 text) ≡ found → IsGapPart text (gap_of (option_map (λ inside. inside + 4) found))
    go None is = tt
    go (Some n) is =
        let size : n + 4 ≡ suc (suc (n + 2)) = omega arith in
        let bytes : take (n + 4) text ≡ 47 ∷ 42 ∷ (take n (drop 2 text) ++ codes "*/") =
        ap (take (n + 4)) two ∙ ap (λ (k : ℕ). take k (47 ∷ 42 ∷ drop 2 text)) size ∙ ap (λ (s : List ℕ). 47 ∷ 42 ∷ s) (closed (drop 2 text) n is) in
        subst IsGap (sym bytes) (block_comment (take n (drop 2 text)))

pub lexeme-no_gap : (text : List ℕ) (b : Bool) (kind : TokenKind) (n : ℕ) → IsGapPart text (if b then Lexeme kind n else Bad)
lexeme-no_gap text true kind n = tt
lexeme-no_gap text false kind n = tt

pub text-no_gap : (text : List ℕ) (found : Option ℕ) → IsGapPart text (text_of found)
text-no_gap text None = tt
text-no_gap text (Some n) = tt

pub quoted-no_gap : (text inside : List ℕ) (found : Option ℕ) → IsGapPart text (quoted_of inside found)
quoted-no_gap text inside None = tt
quoted-no_gap text inside (Some n) = lexeme-no_gap text (is_quoted_name (undoubled 34 (take (n - 1) inside))) kind.QuotedName (n + 1)

pub name-no_gap : (text : List ℕ) → IsGapPart text (name_front text)
unfolding name_front
name-no_gap text = lexeme-no_gap text (leb (name_length text) 63) (kind_of_name (word_of (take (name_length text) text))) (name_length text)

pub number-no_gap : (text : List ℕ) → IsGapPart text (number_front text)
unfolding number_front
number-no_gap text =
    let n : ℕ = digits_length text in
    gap_choice text (begins_with_point (drop n text)) (decimal_front text n (drop (n + 1) text)) (integer_front text n)
    (λ _. lexeme-no_gap text (leb (decimal_width text (drop (n + 1) text)) 38) kind.Decimal (n + 1 + digits_length (drop (n + 1) text)))
    (λ _. lexeme-no_gap text (ltb (digits_value 10 (take n text)) (2 ^ 127)) kind.Integer n)

pub sign-no_gap : (text : List ℕ) (found : Option Sign) (n : ℕ) (otherwise : Front) → IsGapPart text otherwise → IsGapPart text (sign_or found n otherwise)
sign-no_gap text None n otherwise part = part
sign-no_gap text (Some sign) n otherwise part = tt

pub gap-part : (text : List ℕ) → IsGapPart text (front_of text)
unfolding front_of text_front quoted_front sign_front
gap-part [] = tt
gap-part (c ∷ rest) =
    gap_choice (c ∷ rest) (is_name_start c) _ _ (λ _. name-no_gap (c ∷ rest))
    (λ _. gap_choice (c ∷ rest) (is_blank c) (Gap 1) _ (λ is. blank c is)
    (λ _. gap_choice (c ∷ rest) (begins_with_number (c ∷ rest)) _ _ (λ _. number-no_gap (c ∷ rest))
    (λ _. gap_choice (c ∷ rest) (eqb c 39) _ _ (λ _. text-no_gap (c ∷ rest) (to_closing 39 rest))
    (λ _. gap_choice (c ∷ rest) (eqb c 34) _ _ (λ _. quoted-no_gap (c ∷ rest) rest (to_closing 34 rest))
    (λ _. gap_choice (c ∷ rest) (starts_with eqb (c ∷ rest) (codes "--")) _ _ (line-gap (c ∷ rest))
    (λ _. gap_choice (c ∷ rest) (starts_with eqb (c ∷ rest) (codes "/*")) _ _ (block-gap (c ∷ rest))
    (λ _. sign-no_gap (c ∷ rest) (pair_at (c ∷ rest)) 2 (sign_or (sign_of (c ∷ [])) 1 Bad) (sign-no_gap (c ∷ rest) (sign_of (c ∷ [])) 1 Bad tt))))))))

-- the same of what is known to stand there
pub gap-at : (text : List ℕ) (n : ℕ) → Gap n ≡ front_of text → IsGap (take n text)
gap-at text n same = let P : Front → Type 0 = λ f. IsGapPart text f in subst P (sym same) (gap-part text)
