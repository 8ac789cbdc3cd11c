-- Texts between quotes, in which a doubled quote stands for one.
use Rattle.std.specs.Prelude.{◌≡◌, ◌≢◌, ℕ, ◌+◌, List, [], ◌∷◌, ◌++◌, length, ◌==◌, Option, None, Some, if◌then◌else◌}
use Rattle.std.specs.Option.{option_map}

-- how many bytes there are up to and with the quote that ends a text, behind the quote that begins it:
-- from left to right, a quote and a quote after it end nothing
abbrev pub to_closing : ℕ → List ℕ → Option ℕ
to_closing quote [] = None
to_closing quote (c ∷ []) = if c == quote then Some 1 else None
to_closing quote (c ∷ d ∷ rest) = if c == quote
    then (if d == quote then option_map (λ n. n + 2) (to_closing quote rest) else Some 1)
    else option_map (λ n. n + 1) (to_closing quote (d ∷ rest))

-- what stands between quotes, with each doubled quote as one
abbrev pub undoubled : ℕ → List ℕ → List ℕ
undoubled quote [] = []
undoubled quote (c ∷ []) = c ∷ []
undoubled quote (c ∷ d ∷ rest) = if c == quote then c ∷ undoubled quote rest else c ∷ undoubled quote (d ∷ rest)

-- a text with each quote in it doubled
abbrev pub doubled : ℕ → List ℕ → List ℕ
doubled quote [] = []
doubled quote (c ∷ rest) = if c == quote then c ∷ c ∷ doubled quote rest else c ∷ doubled quote rest

-- no quote stands at the front
abbrev pub BeginsOther : ℕ → List ℕ → Type 0
BeginsOther quote [] = Unit {0}
BeginsOther quote (c ∷ rest) = c ≢ quote

-- the first n bytes are some content with each quote in it doubled, and then a quote, behind which no quote stands
pub record IsClosedAt (quote : ℕ) (text : List ℕ) (n : ℕ) : Type 0 where
  pub content : List ℕ
  pub rest : List ℕ
  pub whole : text ≡ doubled quote content ++ quote ∷ rest
  pub size : n ≡ length (doubled quote content) + 1
  pub other : BeginsOther quote rest
