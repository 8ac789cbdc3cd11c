-- Looks of frames, one after the other.
use Rattle.std.proofs.Common.{◌≡◌, ◌≢◌, ℕ, zero, suc, ◌+◌, ◌<◌, ◌≤◌, List, [], ◌∷◌, ◌++◌, length, set, Option, Some, None, arith, subst, sym, refl, ap, ◌∙◌}
use Rattle.std.specs.Prelude.{slice_get, IsSomeAnd}
use mathlib.Core.Logic.{dite}
use native.Mathlib.Decide.{ℕ_discrete}
use Rattle.std.proofs.Math.Decide.{dec_le}
use Rattle.std.proofs.Math.Nat.{lt_of_not-le}
use Rattle.number_bags.specs.Bags.{times}
use Rattle.number_bags.proofs.Bags.{times_both, one_same}
use Rattle.page_pool.specs.declared.pool.Seen.{Seen}
use Rattle.page_pool.specs.declared.pool.Seen.TheVariants.{TurnOut, Claimed}
use Rattle.page_pool.specs.Tried.{IsLook, AllSeen}

look_from : (a b now : List ℕ) (i : ℕ) (s : Seen) → times a i ≤ times b i → IsLook b now i s → IsLook a now i s
look_from a b now i TurnOut le look = omega (arith, le, look)
look_from a b now i (Claimed word) le look = look

look_to : (before a b : List ℕ) (i : ℕ) (s : Seen) → times a i ≤ times b i → IsLook before a i s → IsLook before b i s
look_to before a b i TurnOut le look = omega (arith, le, look)
look_to before a b i (Claimed word) le look = look

some_from : (a b now : List ℕ) (i : ℕ) (o : Option Seen) → times a i ≤ times b i → IsSomeAnd o (IsLook b now i) → IsSomeAnd o (IsLook a now i)
some_from a b now i None le look = absurd look
some_from a b now i (Some s) le look = look_from a b now i s le look

some_to : (before a b : List ℕ) (i : ℕ) (o : Option Seen) → times a i ≤ times b i → IsSomeAnd o (IsLook before a i) → IsSomeAnd o (IsLook before b i)
some_to before a b i None le look = absurd look
some_to before a b i (Some s) le look = look_to before a b i s le look

-- one look more
pub seen_more : (before mid now : List ℕ) (looks looks' : List Seen) (from i : ℕ) → ((x : ℕ) → times before x ≤ times mid x) → ((x : ℕ) → times mid x ≤ times now x) → AllSeen before mid looks from i
    → IsSomeAnd (slice_get looks' i) (IsLook mid now i) → ((j : ℕ) → j ≢ i → slice_get looks' j ≡ slice_get looks j) → AllSeen before now looks' from (i + 1)
seen_more before mid now looks looks' from i early late seen look others j low high = dite (ℕ_discrete j i)
    (λ e. subst (λ (k : ℕ). IsSomeAnd (slice_get looks' k) (IsLook before now k)) (sym e) (some_from before mid now i (slice_get looks' i) (early i) look))
    (λ ne. let h = seen j low (omega (arith, high, ne)) in subst (λ (o : Option Seen). IsSomeAnd o (IsLook before now j)) (sym (others j ne)) (some_to before mid now j (slice_get looks j) (late j) h))

-- the looks behind the hand, and then those before it
pub seen_all : (before mid now : List ℕ) (looks looks' : List Seen) (start frames : ℕ) → ((x : ℕ) → times before x ≤ times mid x) → ((x : ℕ) → times mid x ≤ times now x) → AllSeen before mid looks start frames
    → AllSeen mid now looks' 0 start → ((j : ℕ) → (j < 0 → slice_get looks' j ≡ slice_get looks j) × (start ≤ j → slice_get looks' j ≡ slice_get looks j)) → AllSeen before now looks' 0 frames
seen_all before mid now looks looks' start frames early late first second others j low high = dite (dec_le start j)
    (λ le. subst (λ (o : Option Seen). IsSomeAnd o (IsLook before now j)) (sym ((others j).1 le)) (some_to before mid now j (slice_get looks j) (late j) (first j le high)))
    (λ n. some_from before mid now j (slice_get looks' j) (early j) (second j low (lt_of_not-le n)))

set_there : (xs : List Seen) (i : ℕ) (s : Seen) → i < length xs → slice_get (set xs i s) i ≡ Some s
set_there [] i s lt = absurd (omega (arith, lt))
set_there (x ∷ xs) zero s lt = refl
set_there (x ∷ xs) (suc i) s lt = set_there xs i s (omega (arith, lt))

pub set_elsewhere : (xs : List Seen) (i : ℕ) (s : Seen) (j : ℕ) → j ≢ i → slice_get (set xs i s) j ≡ slice_get xs j
set_elsewhere [] i s j ne = refl
set_elsewhere (x ∷ xs) zero s zero ne = absurd (ne refl)
set_elsewhere (x ∷ xs) zero s (suc j) ne = refl
set_elsewhere (x ∷ xs) (suc i) s zero ne = refl
set_elsewhere (x ∷ xs) (suc i) s (suc j) ne = set_elsewhere xs i s j (λ e. ne (ap suc e))

pub looked : (before now : List ℕ) (xs : List Seen) (i : ℕ) (s : Seen) → i < length xs → IsLook before now i s → IsSomeAnd (slice_get (set xs i s) i) (IsLook before now i)
looked before now xs i s lt look = subst (λ (o : Option Seen). IsSomeAnd o (IsLook before now i)) (sym (set_there xs i s lt)) look

noted : (before now : List ℕ) (i : ℕ) → now ≡ before ++ i ∷ [] → (x : ℕ) → times now x ≡ times before x + times (i ∷ []) x
noted before now i e x = ap (λ (l : List ℕ). times l x) e ∙ times_both before (i ∷ []) x

pub noted_here : (before now : List ℕ) (i : ℕ) → now ≡ before ++ i ∷ [] → times before i < times now i
noted_here before now i e = let a = noted before now i e i in let o = one_same i in omega (arith, a, o)

pub noted_more : (before now : List ℕ) (i : ℕ) → now ≡ before ++ i ∷ [] → (x : ℕ) → times before x ≤ times now x
noted_more before now i e x = let a = noted before now i e x in omega (arith, a)
