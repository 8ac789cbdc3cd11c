-- What the search for a pattern in a text finds.
use Rattle.std.proofs.Common.{◌≡◌, ℕ, true, false, cond, nat_eq, List, [], ◌∷◌, refl, sym, ap, ◌∙◌, subst, arith, length}
use Rattle.std.specs.Prelude.{Some, None}
use Rattle.std.proofs.lemmas.Bool.Decides.{Decides-eqb, nat_tests}
use Rattle.sql_expr.specs.Characters.{characters}
use Rattle.sql_expr.specs.Like.{is_percent, is_like, holds_behind_some, is_empty_text}
use Rattle.sql_expr.specs.Segments.{Characters, left_over, like_behind}
use Rattle.sql_expr.proofs.Taken.{characters_empty}
use Rattle.sql_expr.proofs.Greedy.{found_first, found_end, some_at_end, some_later}

pub none_left : (bytes : List ℕ) → true ≡ nat_eq (length bytes) 0 → characters bytes ≡ []
none_left bytes h = characters_empty bytes ((Decides-eqb (length bytes) 0).0 (sym h))

pub is_empty_is : (bytes : List ℕ) → is_empty_text (characters bytes) ≡ nat_eq (length bytes) 0
unfolding characters
is_empty_is [] = refl
is_empty_is (byte ∷ bytes) = grind (arith, nat_tests)

pub front_none : (pattern text next : Characters) (sign : List ℕ) → pattern ≡ sign ∷ next → is_percent sign ≡ false → text ≡ [] → left_over pattern text ≡ None
front_none pattern text next sign parts other empty =
    rw (parts, empty) (ap (λ b. cond b (Some ([], sign ∷ next)) None) other)

pub front_all : (pattern text : Characters) → pattern ≡ [] → left_over pattern text ≡ Some (text, pattern)
front_all pattern text h = subst (λ (p : Characters). left_over p text ≡ Some (text, p)) (sym h) refl

pub nowhere : (pattern text : Characters) → text ≡ [] → is_like pattern text ≡ false → false ≡ holds_behind_some (is_like pattern) text
nowhere pattern text e h = sym (subst (λ (t : Characters). holds_behind_some (is_like pattern) t ≡ false) (sym e) (subst (λ (t : Characters). is_like pattern t ≡ false) e h))

pub everywhere : (pattern text : Characters) → pattern ≡ [] → true ≡ holds_behind_some (is_like pattern) text
everywhere pattern text e = sym (subst (λ (p : Characters). holds_behind_some (is_like p) text ≡ true) (sym e) (some_at_end text))

-- the pattern fits up to its next `%`
pub goes_on : (pattern text rest behind next : List ℕ) (sign : List ℕ)
    → left_over (characters pattern) (characters text) ≡ Some (characters rest, characters behind) → characters behind ≡ sign ∷ characters next
    → like_behind next rest ≡ like_behind pattern text
goes_on pattern text rest behind next sign e parts =
    sym (found_first (characters pattern) (characters text) (characters rest) sign (characters next)
    (subst (λ (b : Characters). left_over (characters pattern) (characters text) ≡ Some (characters rest, b)) parts e)).some

pub goes_on_now : (pattern text rest behind next : List ℕ) (sign : List ℕ)
    → left_over (characters pattern) (characters text) ≡ Some (characters rest, characters behind) → characters behind ≡ sign ∷ characters next
    → like_behind next rest ≡ is_like (characters pattern) (characters text)
goes_on_now pattern text rest behind next sign e parts =
    sym (found_first (characters pattern) (characters text) (characters rest) sign (characters next)
    (subst (λ (b : Characters). left_over (characters pattern) (characters text) ≡ Some (characters rest, b)) parts e)).whole

-- the pattern fits up to its end
pub ends : (pattern text rest behind : List ℕ) → left_over (characters pattern) (characters text) ≡ Some (characters rest, characters behind)
    → true ≡ nat_eq (length behind) 0 → is_like (characters pattern) (characters text) ≡ nat_eq (length rest) 0
ends pattern text rest behind e h =
    found_end (characters pattern) (characters text) (characters rest)
    (subst (λ (b : Characters). left_over (characters pattern) (characters text) ≡ Some (characters rest, b)) (none_left behind h) e)
    ∙ is_empty_is rest

pub later : (pattern text next : List ℕ) (character : List ℕ) → is_like (characters pattern) (characters text) ≡ false → characters text ≡ character ∷ characters next
    → like_behind pattern next ≡ like_behind pattern text
later pattern text next character h parts =
    some_later (characters pattern) character (characters next) (subst (λ (t : Characters). is_like (characters pattern) t ≡ false) parts h)
    ∙ ap (holds_behind_some (is_like (characters pattern))) (sym parts)
