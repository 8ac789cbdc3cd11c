-- The rule holds where all turns are at home.
use Rattle.std.proofs.Common.{◌≡◌, ℕ, zero, suc, ◌+◌, ◌<◌, List, [], ◌∷◌, length, map, get_or, refl, ap, ◌∙◌, arith, Option, Some}
use Rattle.std.specs.Prelude.{replicate, slice_get, IsSomeAnd}
use Rattle.std.proofs.lemmas.List.{length-replicate}
use mathlib.Core.Option.{some}
use lib.ListN.{get_elem?}
use Rattle.atomic_table.specs.Table.{opening}
use Rattle.evict_ring.specs.Rule.{nobody, HasTurns}
use Rattle.evict_ring.specs.Home.{IsHome}
use Rattle.evict_ring.specs.declared.turn.Turn.{Turn}

abbrev zeros : ℕ → List ℕ
zeros n = replicate n 0

zero_at : (n i : ℕ) → get_or (zeros n) i 0 ≡ 0
zero_at zero i = refl
zero_at (suc n) zero = refl
zero_at (suc n) (suc i) = zero_at n i

module _ {H : Type 0} where
  at_home : (ok : Turn H → Type 0) (i : ℕ) (xs : List (Turn H)) (j : ℕ) → IsSomeAnd (slice_get xs j) (IsHome ok i) → (t : Turn H) × (get_elem? (map some (map Some xs)) j ≡ some (some (Some t))) × IsHome ok i t
  at_home ok i [] j h = absurd h
  at_home ok i (t ∷ xs) zero h = (t, refl, h)
  at_home ok i (x ∷ xs) (suc j) h = at_home ok i xs j h

  pub opens : (ok : Turn H → Type 0) (turns : ℕ) (words about : List ℕ) (xs : List (Turn H)) (places : List (Option (Turn H))) → words ≡ replicate (turns + 1) 0 → places ≡ map Some xs → length xs ≡ turns
      → ((i : ℕ) → i < length xs → IsSomeAnd (slice_get xs i) (IsHome ok i)) → HasTurns ok turns (opening words places (nobody about))
  opens ok turns words about xs places w p long home = record {
    long = ap length w ∙ length-replicate (turns + 1) 0;
    hand = ap (λ (ws : List ℕ). get_or ws 0 0) w ∙ zero_at (turns + 1) 0;
    bits = λ i lt. ap (λ (ws : List ℕ). get_or ws (i + 1) 0) w ∙ zero_at (turns + 1) (i + 1);
    once = λ i lt. omega arith;
    full = λ i lt none. let h = at_home ok i xs i (home i (omega (arith, lt, long))) in (h.0, ap (λ (ps : List (Option (Turn H))). get_elem? (map some ps) i) p ∙ h.1, h.2);
  }
