-- No two tokens of a script begin at one place.
use Rattle.std.proofs.Common.{◌≡◌, ◌==◌, ◌≤◌, ◌<◌, ℕ, ◌+◌, Bool, true, false, List, length, Ok, Err, refl, ap, arith, if◌then◌else◌}
use Rattle.std.specs.Str.{is_utf8}
use Rattle.std.specs.Str.Lossy.{utf8_valid_len}
use Rattle.sql_lex.specs.declared.token.Token.{Token}
use Rattle.sql_lex.specs.Cover.{Covers, nothing, gap, token}
use Rattle.sql_lex.specs.Lexed.{lexed, tokens_from}
use Rattle.sql_lex.proofs.CoverLemmas.{covers-tokens}
use Rattle.sql_grammar.specs.Lexemes.{lexemes}
use Rattle.formed_binding.specs.Parts.{one_if}
use Rattle.apart_calls.proofs.Fits.{AtMostOnce, Places, starts}

-- the tokens begin at or behind a place, each at its own
record Later (n : ℕ → ℕ) (from : ℕ) : Type 0 where
  before : (place : ℕ) → place < from → n place ≡ 0
  once : (place : ℕ) → n place ≤ 1

further : (n : Places) (from to : ℕ) → from ≤ to → Later n to → Later n from
further n from to more later = record { before = λ place under. later.before place (omega (arith, under, more)); once = later.once }

-- a token that begins here, before those behind it
first-token : (n : Places) (from to : ℕ) → from < to → Later n to → Later (λ place. one_if (from == place) + n place) from
first-token n from to more later = record { before = λ place under. omega (arith, other place under, later.before place (omega (arith, under, more))); once = λ place. go place (from == place) refl }
  where
    other : (place : ℕ) → place < from → one_if (from == place) ≡ 0
    other place under = let e : (from == place) ≡ false = grind (arith, under) in ap one_if e

    go : (place : ℕ) (b : Bool) → (from == place) ≡ b → one_if (from == place) + n place ≤ 1
    go place true e =
        let same : from ≡ place = grind (arith, e) in
        let one : one_if (from == place) ≡ 1 = ap one_if e in
        omega (arith, one, later.before place (omega (arith, same, more)))
    go place false e = let zero : one_if (from == place) ≡ 0 = ap one_if e in omega (arith, zero, later.once place)

later-tokens : (bytes : List ℕ) (place : ℕ) (text : List ℕ) (tokens : List Token) → Covers place text tokens → Later (starts (lexemes bytes tokens)) place
later-tokens bytes place _ _ (nothing _) = record { before = λ place under. refl; once = λ place. omega arith }
later-tokens bytes place _ tokens (gap _ between rest _ is behind) =
    further (starts (lexemes bytes tokens)) place (place + length between) (omega arith) (later-tokens bytes (place + length between) rest tokens behind)
later-tokens bytes place _ _ (token _ text rest kind tokens some behind) =
    first-token (starts (lexemes bytes tokens)) place (place + length text) (omega (arith, some)) (later-tokens bytes (place + length text) rest tokens behind)

from-start : (bytes : List ℕ) (tokens : List Token) → lexed bytes ≡ Ok tokens → tokens_from 0 0 bytes ≡ Ok tokens
unfolding lexed
from-start bytes tokens is = go (is_utf8 bytes) is
  where
    go : (b : Bool) → (if b then tokens_from 0 0 bytes else Err (utf8_valid_len bytes)) ≡ Ok tokens → tokens_from 0 0 bytes ≡ Ok tokens
    go true e = e
    go false e = cc

pub tokens-apart : (bytes : List ℕ) (tokens : List Token) → lexed bytes ≡ Ok tokens → AtMostOnce (starts (lexemes bytes tokens))
tokens-apart bytes tokens is = (later-tokens bytes 0 bytes tokens (covers-tokens bytes tokens (from-start bytes tokens is))).once
