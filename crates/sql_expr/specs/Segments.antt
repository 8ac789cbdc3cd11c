-- A pattern up to its first `%`.
use Rattle.std.specs.Prelude.{◌≡◌, ◌+◌, ◌<◌, ℕ, Bool, ◌||◌, List, [], ◌∷◌, length, Option, Some, None, if◌then◌else◌}
use Rattle.std.specs.Str.{bytes_eq}
use Rattle.sql_expr.specs.declared.wildcards.Search.{Search}
use Rattle.sql_expr.specs.declared.wildcards.Search.TheVariants.{Decided, Further}
use Rattle.sql_expr.specs.Characters.{characters}
use Rattle.sql_expr.specs.Like.{is_percent, is_underscore, is_like, holds_behind_some}

abbrev pub Characters : Type 0
Characters = List (List ℕ)

-- whether one of the pattern's characters other than `%` stands for this one of the text
abbrev pub stands_for : List ℕ → List ℕ → Bool
stands_for sign character = is_underscore sign || bytes_eq sign character

-- What is left of a text and of a pattern behind the pattern's characters before its first `%`, and none where a
-- text doesn't begin with what they stand for.
abbrev pub left_over : Characters → Characters → Option (Characters × Characters)
left_over [] text = Some (text, [])
left_over (sign ∷ pattern) [] = if is_percent sign then Some ([], sign ∷ pattern) else None
left_over (sign ∷ pattern) (character ∷ text) =
    if is_percent sign then Some (character ∷ text, sign ∷ pattern)
    else (if stands_for sign character then left_over pattern text else None)

-- whether `%` and the pattern are like the text
abbrev pub like_behind : List ℕ → List ℕ → Bool
like_behind pattern text = holds_behind_some (is_like (characters pattern)) (characters text)

-- a search that is decided, or goes on with less
abbrev pub IsStep : List ℕ → List ℕ → Search → Type 0
IsStep pattern text (Decided found) = found ≡ like_behind pattern text
IsStep pattern text (Further rest signs) =
    (like_behind signs.now rest.now ≡ like_behind pattern text) × (length rest.now + length signs.now < length text + length pattern)
