-- Heap pages that may not be there, and the pins on them.
use Rattle.std.proofs.Common.{◌≡◌, ◌≢◌, ℕ, zero, suc, ◌+◌, ◌%◌, ◌^◌, ◌<◌, ◌≤◌, List, [], ◌∷◌, length, Option, Some, None, refl, arith}
use Rattle.std.specs.Prelude.{IfSome, slice_index}
use Rattle.row_image.specs.declared.image.ImageKind.TheVariants.{Heap}
use Rattle.page_body.specs.View.{PoolTerms, PoolView}
use Rattle.page_body.specs.Keeps.{PinnedOn}
use Rattle.page_body.specs.Shows.{AreBases}
use Rattle.number_bags.proofs.Bags.{one_same, one_other}
use Rattle.number_bags.specs.Bags.{times}
use Rattle.rebase_pins.specs.RowPages.{ids_in, changed}

module _ {Page Pin : Type 0} (t : PoolTerms Page Pin) where
  -- how often the number of a heap page that may not be there is y
  abbrev pub counts : Option Page → ℕ → ℕ
  counts heap y = times (ids_in t (heap ∷ [])) y

  pub more : (heap : Option Page) (heaps : List (Option Page)) (y : ℕ) → times (ids_in t (heap ∷ heaps)) y ≡ counts heap y + times (ids_in t heaps) y
  more None heaps y = omega arith
  more (Some heap) heaps y = omega arith

  pub two : (a b : Option Page) (y : ℕ) → times (ids_in t (a ∷ b ∷ [])) y ≡ counts a y + counts b y
  two a b y = more a (b ∷ []) y

  pub four : (a b c d : Option Page) (y : ℕ) → times (ids_in t (a ∷ b ∷ c ∷ d ∷ [])) y ≡ counts a y + counts b y + counts c y + counts d y
  four a b c d y = omega (arith, more a (b ∷ c ∷ d ∷ []) y, more b (c ∷ d ∷ []) y, more c (d ∷ []) y)

  long_more : (heap : Option Page) (heaps : List (Option Page)) → length (ids_in t (heap ∷ heaps)) ≡ length (ids_in t (heap ∷ [])) + length (ids_in t heaps)
  long_more None heaps = omega arith
  long_more (Some heap) heaps = omega arith

  pub four_long : (a b c d : Option Page) → length (ids_in t (a ∷ b ∷ c ∷ d ∷ [])) ≡ length (ids_in t (a ∷ b ∷ [])) + length (ids_in t (c ∷ d ∷ []))
  four_long a b c d = omega (arith, long_more a (b ∷ c ∷ d ∷ []), long_more b (c ∷ d ∷ []), long_more a (b ∷ []))

  -- a pin that may not be there stays this worker's, while its page stays pinned
  pub still : (pin : Option Pin) (a b : PoolView Page Pin) → PinnedOn t a b → ((y : ℕ) → counts (changed t.under pin) y ≤ b.pins y) → IfSome pin a.valid → IfSome pin b.valid
  still None a b on counted valid = valid
  still (Some pin) a b on counted valid =
      let y = t.id (t.under pin) in
      let c = counted y in
      on pin valid (omega (arith, c, one_same y))

  pub still_valid : (pin : Option Pin) (a b : PoolView Page Pin) → ((q : Pin) → a.valid q → b.valid q) → IfSome pin a.valid → IfSome pin b.valid
  still_valid None a b on valid = valid
  still_valid (Some pin) a b on valid = on pin valid

  pub still_live : (heap : Option Page) (a b : PoolView Page Pin) → ((p : Page) → a.live p → b.live p) → IfSome heap a.live → IfSome heap b.live
  still_live None a b on live = live
  still_live (Some heap) a b on live = on heap live

  -- a heap page isn't the row page
  pub not_rows : (heap : Option Page) (a : PoolView Page Pin) (rows : Page) → ((q : Page) → a.live q → t.kind q ≡ Heap → t.id q ≢ t.id rows) → IfSome heap a.live → IfSome heap (λ p. t.kind p ≡ Heap) → counts heap (t.id rows) ≡ 0
  not_rows None a rows apart live kind = refl
  not_rows (Some heap) a rows apart live kind = omega (arith, one_other (t.id heap) (t.id rows) (λ e. apart heap live kind (cc e)))

each : (P : ℕ → Type 0) (a b c d : ℕ) → P a → P b → P c → P d → (part : ℕ) → part < 4 → P (slice_index (a ∷ b ∷ c ∷ d ∷ []) part)
each P a b c d pa pb pc pd zero h = pa
each P a b c d pa pb pc pd (suc zero) h = pb
each P a b c d pa pb pc pd (suc (suc zero)) h = pc
each P a b c d pa pb pc pd (suc (suc (suc zero))) h = pd
each P a b c d pa pb pc pd (suc (suc (suc (suc n)))) h = absurd (omega arith)

pub four_bases : (page_bytes a b c d : ℕ) → a % page_bytes ≡ 0 → b % page_bytes ≡ 0 → c % page_bytes ≡ 0 → d % page_bytes ≡ 0 → a < 2 ^ 48 → b < 2 ^ 48 → c < 2 ^ 48 → d < 2 ^ 48 → AreBases page_bytes (a ∷ b ∷ c ∷ d ∷ [])
four_bases page_bytes a b c d ha hb hc hd la lb lc ld = record {
  four = refl;
  aligned = each (λ n. n % page_bytes ≡ 0) a b c d ha hb hc hd;
  low = each (λ n. n < 2 ^ 48) a b c d la lb lc ld;
}
