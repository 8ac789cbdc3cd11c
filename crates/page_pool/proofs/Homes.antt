-- Turns in their places, with one more.
use Rattle.std.proofs.Common.{◌≡◌, ℕ, ◌+◌, ◌<◌, List, [], ◌∷◌, ◌++◌, length, sym, subst, ◌∙◌, arith}
use Rattle.std.specs.Prelude.{IsSomeAnd, slice_get}
use Rattle.evict_ring.specs.declared.turn.Turn.{Turn}
use Rattle.evict_ring.specs.Home.{IsHome}
use Rattle.page_body.proofs.Places.{by_push}

pub home_more : {H : Type 0} (ok : Turn H → Type 0) (xs xs' : List (Turn H)) (n : ℕ) (t : Turn H) → xs' ≡ xs ++ t ∷ [] → length xs ≡ n → t.frame ≡ n → ok t
    → ((i : ℕ) → i < n → IsSomeAnd (slice_get xs i) (IsHome ok i)) → (i : ℕ) → i < n + 1 → IsSomeAnd (slice_get xs' i) (IsHome ok i)
home_more {H} ok xs xs' n t e long frame fits home i lt =
    subst (λ (ys : List (Turn H)). IsSomeAnd (slice_get ys i) (IsHome ok i)) (sym e)
    (by_push xs t (λ y o. y < n + 1 → IsSomeAnd o (IsHome ok y)) (λ l. (frame ∙ sym long, fits)) (λ y ne l. home y (omega (arith, l, ne, long))) i lt)
