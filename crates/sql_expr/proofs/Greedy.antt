-- Of the places where a pattern fits up to its next `%`, the first serves.
use Rattle.std.proofs.Common.{◌≡◌, ℕ, zero, suc, Bool, true, false, cond, ◌&&◌, ◌||◌, List, [], ◌∷◌, refl, sym, ap, ◌∙◌, subst, drop, inl, inr}
use Rattle.std.specs.Prelude.{Option, Some, None, MatchOption, ⊤, ◌⊎◌}
use Rattle.sql_expr.specs.Like.{is_percent, is_like, holds_behind_some, holds_behind_one, is_empty_text}
use Rattle.sql_expr.specs.Segments.{Characters, left_over, stands_for}

bool_ext : (a b : Bool) → (a ≡ true → b ≡ true) → (b ≡ true → a ≡ true) → a ≡ b
bool_ext true b f g = sym (f refl)
bool_ext false true f g = g refl
bool_ext false false f g = refl

or_cases : (a b : Bool) → (a || b) ≡ true → (a ≡ true) ⊎ (b ≡ true)
or_cases true b h = inl refl
or_cases false b h = inr h

or_right : (a b : Bool) → b ≡ true → (a || b) ≡ true
or_right true b h = refl
or_right false b h = h

or_left : (a b : Bool) → a ≡ true → (a || b) ≡ true
or_left true b h = refl
or_left false b h = cc

and_right : (a b : Bool) → (a && b) ≡ true → b ≡ true
and_right true b h = h
and_right false b h = cc

-- what is left over says whether the whole is like
abbrev rest_like : Option (Characters × Characters) → Bool
rest_like None = false
rest_like (Some left) = is_like left.1 left.0

pub like_left : (pattern text : Characters) → is_like pattern text ≡ rest_like (left_over pattern text)
like_left [] text = refl
like_left (sign ∷ pattern) [] =
    elim (is_percent sign) as (λ b. is_percent sign ≡ b
    → cond b (holds_behind_some (is_like pattern) []) false ≡ rest_like (cond b (Some ([], sign ∷ pattern)) None)) [
      | true ↦ λ h. rw h refl
      | false ↦ λ h. refl
    ] refl
like_left (sign ∷ pattern) (character ∷ text) =
    elim (is_percent sign) as (λ b. is_percent sign ≡ b
    → cond b (holds_behind_some (is_like pattern) (character ∷ text)) (stands_for sign character && is_like pattern text)
    ≡ rest_like (cond b (Some (character ∷ text, sign ∷ pattern)) (cond (stands_for sign character) (left_over pattern text) None))) [
      | true ↦ λ h. rw h refl
      | false ↦ λ h. elim (stands_for sign character) as (λ b. (b && is_like pattern text) ≡ rest_like (cond b (left_over pattern text) None)) [
        | true ↦ like_left pattern text
        | false ↦ refl
      ]
    ] refl

-- how many characters stand before the first `%`
abbrev before : Characters → ℕ
before [] = 0
before (sign ∷ pattern) = cond (is_percent sign) 0 (suc (before pattern))

abbrev Left : Type 0
Left = Characters × Characters

dropped : (pattern text : Characters) → MatchOption {T = Left} (left_over pattern text) ⊤ (λ left. left ≡ (drop (before pattern) text, drop (before pattern) pattern))
dropped [] text = refl
dropped (sign ∷ pattern) [] =
    elim (is_percent sign) as (λ b. MatchOption {T = Left} (cond b (Some ([], sign ∷ pattern)) None) ⊤
    (λ left. left ≡ (drop (cond b 0 (suc (before pattern))) [], drop (cond b 0 (suc (before pattern))) (sign ∷ pattern)))) [
      | true ↦ refl
      | false ↦ tt
    ]
dropped (sign ∷ pattern) (character ∷ text) =
    elim (is_percent sign) as (λ b. MatchOption {T = Left} (cond b (Some (character ∷ text, sign ∷ pattern)) (cond (stands_for sign character) (left_over pattern text) None)) ⊤
    (λ left. left ≡ (drop (cond b 0 (suc (before pattern))) (character ∷ text), drop (cond b 0 (suc (before pattern))) (sign ∷ pattern)))) [
      | true ↦ refl
      | false ↦ elim (stands_for sign character) as (λ b. MatchOption {T = Left} (cond b (left_over pattern text) None) ⊤
          (λ left. left ≡ (drop (before pattern) text, drop (before pattern) pattern))) [
            | true ↦ dropped pattern text
            | false ↦ tt
          ]
    ]

at_percent : (pattern : Characters) (sign : List ℕ) (rest : Characters) → drop (before pattern) pattern ≡ sign ∷ rest → is_percent sign ≡ true
at_percent [] sign rest = λ e. cc
at_percent (first ∷ pattern) sign rest =
    elim (is_percent first) as (λ b. is_percent first ≡ b → drop (cond b 0 (suc (before pattern))) (first ∷ pattern) ≡ sign ∷ rest → is_percent sign ≡ true) [
      | true ↦ λ h e. let x : first ≡ sign = cc in ap is_percent (sym x) ∙ h
      | false ↦ λ h e. at_percent pattern sign rest e
    ] refl

some_here : (test : Characters → Bool) (text : Characters) → test text ≡ true → holds_behind_some test text ≡ true
some_here test [] h = h
some_here test (character ∷ text) h = or_left (test (character ∷ text)) (holds_behind_some test text) h

some_earlier : (test : Characters → Bool) (n : ℕ) (character : List ℕ) (text : Characters)
    → holds_behind_some test (drop n text) ≡ true → holds_behind_some test (drop n (character ∷ text)) ≡ true
some_earlier test zero character text h = or_right (test (character ∷ text)) (holds_behind_some test text) h
some_earlier test (suc zero) character [] h = h
some_earlier test (suc (suc n)) character [] h = h
some_earlier test (suc n) character (next ∷ text) h = some_earlier test n next text h

-- what is like the pattern is like its rest behind the characters before the first `%`
like_behind_first : (pattern text : Characters) (sign : List ℕ) (rest : Characters) → drop (before pattern) pattern ≡ sign ∷ rest
    → is_like pattern text ≡ true → holds_behind_some (is_like rest) (drop (before pattern) text) ≡ true
like_behind_first [] text sign rest = λ e m. cc
like_behind_first (first ∷ pattern) [] sign rest =
    elim (is_percent first) as (λ b. drop (cond b 0 (suc (before pattern))) (first ∷ pattern) ≡ sign ∷ rest
    → cond b (holds_behind_some (is_like pattern) []) false ≡ true → holds_behind_some (is_like rest) (drop (cond b 0 (suc (before pattern))) []) ≡ true) [
      | true ↦ λ e m. let x : pattern ≡ rest = cc in subst (λ (r : Characters). holds_behind_some (is_like r) [] ≡ true) x m
      | false ↦ λ e m. cc
    ]
like_behind_first (first ∷ pattern) (character ∷ text) sign rest =
    elim (is_percent first) as (λ b. drop (cond b 0 (suc (before pattern))) (first ∷ pattern) ≡ sign ∷ rest
    → cond b (holds_behind_some (is_like pattern) (character ∷ text)) (stands_for first character && is_like pattern text) ≡ true
    → holds_behind_some (is_like rest) (drop (cond b 0 (suc (before pattern))) (character ∷ text)) ≡ true) [
      | true ↦ λ e m. let x : pattern ≡ rest = cc in subst (λ (r : Characters). holds_behind_some (is_like r) (character ∷ text) ≡ true) x m
      | false ↦ λ e m. like_behind_first pattern text sign rest e (and_right (stands_for first character) (is_like pattern text) m)
    ]

some_behind_first : (pattern text : Characters) (sign : List ℕ) (rest : Characters) → drop (before pattern) pattern ≡ sign ∷ rest
    → holds_behind_some (is_like pattern) text ≡ true → holds_behind_some (is_like rest) (drop (before pattern) text) ≡ true
some_behind_first pattern [] sign rest e m = like_behind_first pattern [] sign rest e m
some_behind_first pattern (character ∷ text) sign rest e m =
    elim (or_cases (is_like pattern (character ∷ text)) (holds_behind_some (is_like pattern) text) m) [
      | inl h ↦ like_behind_first pattern (character ∷ text) sign rest e h
      | inr h ↦ some_earlier (is_like rest) (before pattern) character text (some_behind_first pattern text sign rest e h)
    ]

like_percent : (sign : List ℕ) (rest text : Characters) → is_percent sign ≡ true → is_like (sign ∷ rest) text ≡ holds_behind_some (is_like rest) text
like_percent sign rest text h = ap (λ b. cond b (holds_behind_some (is_like rest) text) (holds_behind_one sign (is_like rest) text)) h

pub record Found (pattern text left : Characters) (sign : List ℕ) (rest : Characters) : Type 0 where
  pub whole : is_like pattern text ≡ holds_behind_some (is_like rest) left
  pub some : holds_behind_some (is_like pattern) text ≡ holds_behind_some (is_like rest) left

pub found_first : (pattern text left : Characters) (sign : List ℕ) (rest : Characters) → left_over pattern text ≡ Some (left, sign ∷ rest)
    → Found pattern text left sign rest
found_first pattern text left sign rest e =
    let is : (left, sign ∷ rest) ≡ (drop (before pattern) text, drop (before pattern) pattern) =
    subst (λ (o : Option Left). MatchOption {T = Left} o ⊤ (λ left. left ≡ (drop (before pattern) text, drop (before pattern) pattern))) e (dropped pattern text) in
    let at : left ≡ drop (before pattern) text = ap (λ (x : Characters × Characters). x.0) is in
    let rests : sign ∷ rest ≡ drop (before pattern) pattern = ap (λ (x : Characters × Characters). x.1) is in
    let percent = at_percent pattern sign rest (sym rests) in
    let whole : is_like pattern text ≡ holds_behind_some (is_like rest) left = like_left pattern text ∙ ap rest_like e ∙ like_percent sign rest left percent in
    record {
      whole = whole;
      some = bool_ext (holds_behind_some (is_like pattern) text) (holds_behind_some (is_like rest) left)
          (λ h. subst (λ (t : Characters). holds_behind_some (is_like rest) t ≡ true) (sym at) (some_behind_first pattern text sign rest (sym rests) h))
          (λ h. some_here (is_like pattern) text (whole ∙ h));
    }

pub found_none : (pattern text : Characters) → left_over pattern text ≡ None → is_like pattern text ≡ false
found_none pattern text e = like_left pattern text ∙ ap rest_like e

pub found_end : (pattern text left : Characters) → left_over pattern text ≡ Some (left, []) → is_like pattern text ≡ is_empty_text left
found_end pattern text left e = like_left pattern text ∙ ap rest_like e

pub some_at_end : (text : Characters) → holds_behind_some (is_like []) text ≡ true
some_at_end [] = refl
some_at_end (character ∷ text) = or_right false (holds_behind_some (is_like []) text) (some_at_end text)

pub some_now : (pattern text : Characters) → is_like pattern text ≡ true → holds_behind_some (is_like pattern) text ≡ true
some_now pattern text h = some_here (is_like pattern) text h

pub some_later : (pattern : Characters) (character : List ℕ) (text : Characters) → is_like pattern (character ∷ text) ≡ false
    → holds_behind_some (is_like pattern) text ≡ holds_behind_some (is_like pattern) (character ∷ text)
some_later pattern character text h = ap (λ b. b || holds_behind_some (is_like pattern) text) (sym h)
