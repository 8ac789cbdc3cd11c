-- The laws of a pool in memory.
use Rattle.std.proofs.Common.{◌≡◌, ◌≢◌, ◌∙◌, ℕ, ◌+◌, ◌<◌, ◌≤◌, List, [], ◌∷◌, suc, zero, refl, sym, ap, subst, arith, Option, Some, None}
use Rattle.std.specs.Prelude.{slice_get, length, true, false, IsTrue}
use Rattle.std.specs.List.{sum_by}
use Rattle.std.proofs.lemmas.List.Sums.{sum_by-cons}
use Rattle.row_image.specs.declared.layout.CellKind.{CellKind}
use Rattle.row_image.specs.declared.image.ImageKind.TheVariants.{Rows, Heap}
use Rattle.page_body.specs.declared.open.OpenPage.{OpenPage}
use Rattle.page_body.specs.declared.mem_page.MemPage.{MemPage}
use Rattle.page_body.specs.declared.mem_page.MemPin.{MemPin}
use Rattle.page_body.specs.declared.slot.Slot.{Slot}
use Rattle.page_body.specs.declared.slot.Slot.TheVariants.{Open, Sealed, Gone}
use Rattle.evict_ring.specs.declared.frame.Frame.{Frame}
use Rattle.page_body.specs.View.{PoolTerms}
use Rattle.page_body.specs.Shows.{most_frames, Shows}
use Rattle.page_body.specs.Stands.{ImageStands}
use Rattle.page_body.specs.ContentLength.{stands_long}
use Rattle.page_body.specs.Slots.{pins_of, opens_of, uses_of, in_slot, pins_at, opens_at, kind_of, content_of, IsFrameOf, LiveIn, LiveAt, ValidIn, IsPin}

used_step : (s : Slot) (ss : List Slot) → sum_by uses_of (s ∷ ss) ≡ uses_of s + sum_by uses_of ss
used_step s ss = sum_by-cons uses_of s ss

pub both_used : (s : Slot) → pins_of s + opens_of s ≡ uses_of s
both_used Open = omega arith
both_used (Sealed frame pins seal) = omega arith
both_used Gone = omega arith

pins_among : (slots : List Slot) (x : ℕ) → pins_at slots x ≤ sum_by uses_of slots
pins_among [] x = omega arith
pins_among (s ∷ ss) zero = omega (arith, both_used s, used_step s ss)
pins_among (s ∷ ss) (suc x) = omega (arith, pins_among ss x, used_step s ss)

opens_among : (slots : List Slot) (x : ℕ) → opens_at slots x ≤ sum_by uses_of slots
opens_among [] x = omega arith
opens_among (s ∷ ss) zero = omega (arith, both_used s, used_step s ss)
opens_among (s ∷ ss) (suc x) = omega (arith, opens_among ss x, used_step s ss)

-- the pins on a page and the open pages in a frame are among what is used
pub all_among : (slots : List Slot) (x y : ℕ) → pins_at slots x + opens_at slots y ≤ sum_by uses_of slots
all_among [] x y = omega arith
all_among (s ∷ ss) zero zero = omega (arith, both_used s, used_step s ss)
all_among (s ∷ ss) zero (suc y) = omega (arith, both_used s, used_step s ss, opens_among ss y)
all_among (s ∷ ss) (suc x) zero = omega (arith, both_used s, used_step s ss, pins_among ss x)
all_among (s ∷ ss) (suc x) (suc y) = omega (arith, used_step s ss, all_among ss x y)

pub pinned_in : (page_bytes : ℕ) (q : MemPin) (o : Option Slot) → ValidIn page_bytes q o → 0 < in_slot pins_of o
pinned_in page_bytes q None v = absurd v
pinned_in page_bytes q (Some Open) v = absurd v
pinned_in page_bytes q (Some (Sealed frame pins seal)) v = v.used
pinned_in page_bytes q (Some Gone) v = absurd v

-- the page under a pin is pinned
pub pin_counts : (page_bytes : ℕ) (slots : List Slot) (q : MemPin) → IsPin page_bytes slots q → 0 < pins_at slots q.page.value.at
pin_counts page_bytes slots q v = pinned_in page_bytes q (slice_get slots q.page.value.at) v

live_in : (page_bytes : ℕ) (q : MemPin) (o : Option Slot) → ValidIn page_bytes q o → LiveIn page_bytes q.page.value o
live_in page_bytes q None v = absurd v
live_in page_bytes q (Some Open) v = absurd v
live_in page_bytes q (Some (Sealed frame pins seal)) v = v.live
live_in page_bytes q (Some Gone) v = absurd v

-- the page under a pin is live
pub pin_lives : (page_bytes : ℕ) (slots : List Slot) (q : MemPin) → IsPin page_bytes slots q → LiveAt page_bytes slots q.page.value
pin_lives page_bytes slots q v = live_in page_bytes q (slice_get slots q.page.value.at) v

two_kinds : (page_bytes : ℕ) (p q : MemPage) (kinds : List CellKind) (o : Option Slot) → LiveIn page_bytes p o → LiveIn page_bytes q o → kind_of p ≡ Rows kinds → kind_of q ≡ Heap → ⊥
two_kinds page_bytes p q kinds None v w rows heap = absurd v
two_kinds page_bytes p q kinds (Some Open) v w rows heap = absurd v
two_kinds page_bytes p q kinds (Some (Sealed frame pins seal)) v w rows heap =
    let same : kind_of p ≡ kind_of q = ap (λ (o : OpenPage). o.kind) (sym v.seal ∙ w.seal) in
    let one : Rows kinds ≡ Heap = sym rows ∙ same ∙ heap in absurd (cc one)
two_kinds page_bytes p q kinds (Some Gone) v w rows heap = absurd v

-- a row page and a heap page differ
pub pages_apart : (page_bytes : ℕ) (slots : List Slot) (p q : MemPage) (kinds : List CellKind) → LiveAt page_bytes slots p → LiveAt page_bytes slots q → kind_of p ≡ Rows kinds → kind_of q ≡ Heap → q.at ≢ p.at
pages_apart page_bytes slots p q kinds v w rows heap same =
    two_kinds page_bytes p q kinds (slice_get slots p.at) v (subst (λ z. LiveIn page_bytes q (slice_get slots z)) same w) rows heap

long_in : (page_bytes : ℕ) → 4096 ≤ page_bytes → (p : MemPage) (o : Option Slot) → LiveIn page_bytes p o → length (content_of p) ≡ page_bytes
long_in page_bytes page p None v = absurd v
long_in page_bytes page p (Some Open) v = absurd v
long_in page_bytes page p (Some (Sealed frame pins seal)) v =
    let least : 4096 ≤ length frame.bytes.items = subst (λ z. 4096 ≤ z) (sym v.long) page in
    sym (stands_long true (kind_of p) (content_of p) frame.bytes.items v.stands refl least) ∙ v.long
long_in page_bytes page p (Some Gone) v = absurd v

-- a live page's content is as long as a page
pub pages_long : (page_bytes : ℕ) → 4096 ≤ page_bytes → (slots : List Slot) (p : MemPage) → LiveAt page_bytes slots p → length (content_of p) ≡ page_bytes
pages_long page_bytes page slots p v = long_in page_bytes page p (slice_get slots p.at) v

abbrev pub mem_terms : PoolTerms MemPage MemPin
mem_terms = record { told = true; ends_lives = true; spills = false; id = λ p. p.at; kind = kind_of; content = content_of; under = λ q. q.page.value; image = λ q. q.frame.value.bytes.items; frame = λ q. q.frame.value.number }

abbrev pub Shown : ℕ → MemPin → Type 0
Shown page_bytes q = Shows mem_terms page_bytes q.page.value q

-- what is known of the frame of a live page, as a pin shows it
pub frame_shows : (page_bytes : ℕ) (p : MemPage) (q : MemPin) (frame : Frame) (seal : OpenPage) → q.page.value ≡ p → frame ≡ q.frame.value → IsFrameOf page_bytes p frame seal → Shows mem_terms page_bytes p q
frame_shows page_bytes p q frame seal under shown live = record {
  under = under;
  stands = subst (λ (f : Frame). ImageStands true (kind_of p) (content_of p) f.bytes.items) shown live.stands;
  long = subst (λ (f : Frame). length f.bytes.items ≡ page_bytes) shown live.long;
  number = subst (λ (f : Frame). f.number < most_frames) shown live.number;
}

shows_in : (page_bytes : ℕ) (q : MemPin) (o : Option Slot) → ValidIn page_bytes q o → Shown page_bytes q
shows_in page_bytes q None v = absurd v
shows_in page_bytes q (Some Open) v = absurd v
shows_in page_bytes q (Some (Sealed frame pins seal)) v = frame_shows page_bytes q.page.value q frame seal.value refl v.shown v.live
shows_in page_bytes q (Some Gone) v = absurd v

-- a pin shows its page
pub pin_shows : (page_bytes : ℕ) (slots : List Slot) (q : MemPin) → IsPin page_bytes slots q → Shown page_bytes q
pin_shows page_bytes slots q v = shows_in page_bytes q (slice_get slots q.page.value.at) v

-- it spills nothing
pub never : {A : Type 0} → IsTrue false → A
never k = absurd (cc k)
