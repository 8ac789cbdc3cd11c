-- How often tokens begin at a place, and calls that stand where tokens begin.
use Rattle.std.proofs.Common.{◌≡◌, ◌==◌, ◌≤◌, ℕ, ◌+◌, Bool, true, false, List, [], ◌∷◌, ◌++◌, refl, ap, arith}
use Rattle.std.specs.Prelude.{◌&&◌, ◌||◌, not}
use Rattle.sql_grammar.specs.Lexeme.{Lexeme}
use Rattle.formed_binding.specs.Parts.{one_if}
use Rattle.formed_binding.specs.Placed.{Placed, are_different, both, core_apart, count, inside, is_among, nowhere}

-- how often something may stand at each place
abbrev pub Places : Type 0
Places = ℕ → ℕ

-- nowhere at all
abbrev pub none : Places
none place = 0

-- once, where this token begins
abbrev pub at : Lexeme → Places
at x place = one_if (x.start == place)

-- how many of the tokens begin at a place
abbrev pub starts : List Lexeme → Places
starts [] place = 0
starts (x ∷ w) place = at x place + starts w place

-- nowhere more often than there
abbrev pub Within : Places → Places → Type 0
Within n m = (place : ℕ) → n place ≤ m place

-- there is room for both
abbrev pub Room : Places → Places → Places → Type 0
Room n m k = (place : ℕ) → n place + m place ≤ k place

-- nowhere twice
abbrev pub AtMostOnce : Places → Type 0
AtMostOnce n = (place : ℕ) → n place ≤ 1

pub starts-append : (u v : List Lexeme) (place : ℕ) → starts u place + starts v place ≡ starts (u ++ v) place
starts-append [] v place = omega arith
starts-append (x ∷ u) v place = omega (arith, starts-append u v place)

-- The calls stand at these places, and where each place is there once at most, those of each core stand apart.
pub record Fits (c : Placed) (n : ℕ → ℕ) : Type 0 where
  pub stand : Within (count c.calls) n
  pub separate : AtMostOnce n → c.apart ≡ true

count-append : (a b : List ℕ) (place : ℕ) → count a place + count b place ≡ count (a ++ b) place
count-append [] b place = omega arith
count-append (first ∷ a) b place = omega (arith, count-append a b place)

both-true : (a b : Bool) → a ≡ true → b ≡ true → (a && b) ≡ true
both-true a b is also = rw (is, also) refl

-- ---- calls that are counted once at most are different

itself : (place : ℕ) → one_if (place == place) ≡ 1
itself place = let e : (place == place) ≡ true = grind arith in ap one_if e

absent : (place : ℕ) (places : List ℕ) → count places place ≡ 0 → is_among place places ≡ false
absent place [] zero = refl
absent place (first ∷ places) zero = go (first == place) refl (λ rest. absent place places rest)
  where
    go : (b : Bool) → (first == place) ≡ b → (count places place ≡ 0 → is_among place places ≡ false) → ((first == place) || is_among place places) ≡ false
    go true e others = let one : one_if (first == place) ≡ 1 = ap one_if e in absurd (omega (arith, one, zero))
    go false e others = rw (e, others (omega (arith, zero))) refl

pub different : (places : List ℕ) → AtMostOnce (count places) → are_different places ≡ true
different [] few = refl
different (first ∷ places) few =
    both-true (not (is_among first places)) (are_different places)
    (ap not (absent first places (omega (arith, few first, itself first))))
    (different places (λ place. omega (arith, few place)))

-- ---- parts

pub nowhere-fits : (n : Places) → Fits nowhere n
nowhere-fits n = record { stand = λ place. omega arith; separate = λ few. refl }

pub wider : (c : Placed) (n m : Places) → Within n m → Fits c n → Fits c m
wider c n m in_m fits = record {
  stand = λ place. omega (arith, fits.stand place, in_m place);
  separate = λ few. fits.separate (λ place. omega (arith, few place, in_m place));
}

pub both-fit : (a b : Placed) (n m k : Places) → Fits a n → Fits b m → Room n m k → Fits (both a b) k
both-fit a b n m k of also room = record {
  stand = λ place. omega (arith, of.stand place, also.stand place, room place, count-append a.calls b.calls place);
  separate = λ few. both-true a.apart b.apart (of.separate (λ place. omega (arith, few place, room place))) (also.separate (λ place. omega (arith, few place, room place)));
}

pub inside-fits : (c : Placed) (n : Places) → Fits c n → Fits (inside c) n
inside-fits c n fits = record { stand = λ place. omega arith; separate = fits.separate }

-- a call at a place of its own
pub call-fits : (start : ℕ) (argument : Placed) (n m k : Places) → ((place : ℕ) → one_if (start == place) ≤ n place) → Fits argument m → Room n m k
    → Fits (record { calls = start ∷ []; apart = argument.apart }) k
call-fits start argument n m k named of room = record {
  stand = λ place. omega (arith, named place, room place);
  separate = λ few. of.separate (λ place. omega (arith, few place, room place));
}

-- the calls of a core
pub core-fits : (own others : Placed) (n m k : Places) → Fits own n → Fits others m → Room n m k → Fits (record { calls = []; apart = core_apart own others }) k
core-fits own others n m k of also room = record {
  stand = λ place. omega arith;
  separate = λ few. both-true (are_different own.calls) (own.apart && others.apart)
      (different own.calls (λ place. omega (arith, few place, room place, of.stand place)))
      (both-true own.apart others.apart (of.separate (λ place. omega (arith, few place, room place))) (also.separate (λ place. omega (arith, few place, room place))));
}
