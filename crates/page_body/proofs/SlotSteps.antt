-- The changes that calls make of the slots of a pool in memory.
use Rattle.std.proofs.Common.{◌≡◌, ◌≢◌, ℕ, ◌+◌, ◌-◌, ◌<◌, ◌≤◌, List, [], ◌∷◌, ◌++◌, length, get_or, refl, sym, ap, ◌∙◌, subst, arith, Option, Some, None}
use Rattle.std.specs.Prelude.{slice_get, slice_set, IsSome, true}
use Rattle.std.specs.List.{sum_by}
use Rattle.std.proofs.lemmas.List.Sums.{sum_by-set}
use Rattle.std.proofs.lemmas.Option.{slice_get_within, slice_get_past, slice_get_read, get_or_from_slice_get}
use Rattle.std.proofs.Math.Decide.{dec_le}
use Rattle.std.proofs.Math.Nat.{lt_of_not-le}
use mathlib.Core.Logic.{dite}
use Rattle.evict_ring.specs.declared.frame.Frame.{Frame}
use Rattle.row_image.specs.declared.layout.CellKind.{CellKind}
use Rattle.row_image.specs.declared.image.ImageKind.{ImageKind}
use Rattle.row_image.specs.declared.image.ImageKind.TheVariants.{Rows}
use Rattle.row_image.specs.Flat.{flat}
use Rattle.row_image.specs.Rules.{IsAccepted}
use Rattle.page_body.specs.declared.open.OpenPage.{OpenPage}
use Rattle.page_body.specs.declared.mem_page.MemPage.{MemPage}
use Rattle.page_body.specs.declared.mem_page.MemPin.{MemPin}
use Rattle.page_body.specs.declared.slot.Slot.{Slot}
use Rattle.page_body.specs.declared.slot.Slot.TheVariants.{Open, Sealed, Gone}
use Rattle.number_bags.specs.Bags.{one_of}
use Rattle.page_body.specs.Keeps.{SameHeld, OnePin, OneOpen}
use Rattle.page_body.specs.Shows.{most_frames, Shows, IsBased}
use Rattle.page_body.specs.Stands.{ImageStands}
use Rattle.page_body.specs.Slots.{HasPage, pins_of, opens_of, uses_of, bytes_of, frame_of, with_pins, IsMoved, in_slot, pins_at, opens_at, frame_in, frame_at, kind_of, content_of, IsFrameOf, LiveIn, LiveAt, ValidIn, IsPin, slots_view}
use Rattle.page_body.specs.SlotLaws.{both_used, all_among, pinned_in, mem_terms, pin_shows}
use Rattle.number_bags.proofs.Bags.{one_same, one_other}
use Rattle.page_body.proofs.Places.{at_place, by_place, goes_on, by_push}

-- what was read of a live page's slot
live_there : (page_bytes : ℕ) (p : MemPage) (o : Option Slot) → LiveIn page_bytes p o → o ≡ None → ⊥
live_there page_bytes p None live e = absurd live
live_there page_bytes p (Some s) live e = cc e

pub live_within : (page_bytes : ℕ) (slots : List Slot) (p : MemPage) → LiveAt page_bytes slots p → p.at < length slots
live_within page_bytes slots p live = dite (dec_le (length slots) p.at)
    (λ past. absurd (live_there page_bytes p (slice_get slots p.at) live (slice_get_past slots p.at past)))
    (λ n. lt_of_not-le n)

pub live_read : (page_bytes : ℕ) (slots : List Slot) (p : MemPage) (s : Slot) → LiveAt page_bytes slots p → s ≡ get_or slots p.at s → slice_get slots p.at ≡ Some s
live_read page_bytes slots p s live is = slice_get_read slots (length slots) p.at s refl (live_within page_bytes slots p live) is

pub live_slot : (page_bytes : ℕ) (slots : List Slot) (p : MemPage) (s : Slot) → LiveAt page_bytes slots p → slice_get slots p.at ≡ Some s → LiveIn page_bytes p (Some s)
live_slot page_bytes slots p s live was = subst (LiveIn page_bytes p) was live

pub live_has : (page_bytes : ℕ) (p : MemPage) (s : Slot) → LiveIn page_bytes p (Some s) → HasPage s
live_has page_bytes p Open live = absurd live
live_has page_bytes p (Sealed frame pins seal) live = tt
live_has page_bytes p Gone live = absurd live

-- an open page's slot
open_in : (o : Option Slot) → 0 < in_slot opens_of o → o ≡ Some Open
open_in None h = absurd (omega (arith, h))
open_in (Some Open) h = refl
open_in (Some (Sealed frame pins seal)) h = absurd (omega (arith, h))
open_in (Some Gone) h = absurd (omega (arith, h))

pub open_there : (slots : List Slot) (x : ℕ) → 0 < opens_at slots x → slice_get slots x ≡ Some Open
open_there slots x h = open_in (slice_get slots x) h

pub has_frame : (s : Slot) → HasPage s → IsSome (frame_of s)
has_frame Open has = absurd has
has_frame (Sealed frame pins seal) has = refl
has_frame Gone has = absurd has

pub pins_with : (s : Slot) (n : ℕ) → HasPage s → pins_of (with_pins s n) ≡ n
pins_with Open n has = absurd has
pins_with (Sealed frame pins seal) n has = refl
pins_with Gone n has = absurd has

pub opens_with : (s : Slot) (n : ℕ) → opens_of (with_pins s n) ≡ opens_of s
opens_with Open n = refl
opens_with (Sealed frame pins seal) n = refl
opens_with Gone n = refl

pub has_with : (s : Slot) (n : ℕ) → HasPage s → HasPage (with_pins s n)
has_with Open n has = absurd has
has_with (Sealed frame pins seal) n has = tt
has_with Gone n has = absurd has

pub live_with : (page_bytes : ℕ) (p : MemPage) (s : Slot) (n : ℕ) → LiveIn page_bytes p (Some s) → LiveIn page_bytes p (Some (with_pins s n))
live_with page_bytes p Open n live = absurd live
live_with page_bytes p (Sealed frame pins seal) n live = live
live_with page_bytes p Gone n live = absurd live

pub valid_with : (page_bytes : ℕ) (q : MemPin) (s : Slot) (n : ℕ) → 0 < n → ValidIn page_bytes q (Some s) → ValidIn page_bytes q (Some (with_pins s n))
valid_with page_bytes q Open n some v = absurd v
valid_with page_bytes q (Sealed frame pins seal) n some v = record { shown = v.shown; used = some; live = v.live }
valid_with page_bytes q Gone n some v = absurd v

-- a new pin is one of the pool
valid_in : (page_bytes : ℕ) (q : MemPin) (o : Option Slot) → frame_in o ≡ Some q.frame.value → 0 < in_slot pins_of o → LiveIn page_bytes q.page.value o → ValidIn page_bytes q o
valid_in page_bytes q None frame some live = absurd live
valid_in page_bytes q (Some Open) frame some live = absurd live
valid_in page_bytes q (Some (Sealed frame' pins seal)) frame some live = record { shown = cc frame; used = some; live = live }
valid_in page_bytes q (Some Gone) frame some live = absurd live

pub new_valid : (page_bytes : ℕ) (slots : List Slot) (p : MemPage) (q : MemPin) → q.page.value ≡ p → frame_at slots p.at ≡ Some q.frame.value → 0 < pins_at slots p.at → LiveAt page_bytes slots p → IsPin page_bytes slots q
new_valid page_bytes slots p q page frame some live =
    valid_in page_bytes q (slice_get slots q.page.value.at)
    (subst (λ (z : MemPage). frame_at slots z.at ≡ Some q.frame.value) (sym page) frame)
    (subst (λ (z : MemPage). 0 < pins_at slots z.at) (sym page) some)
    (subst (λ z. LiveAt page_bytes slots z) (sym page) live)

pub new_shows : (page_bytes : ℕ) (slots : List Slot) (p : MemPage) (q : MemPin) → q.page.value ≡ p → IsPin page_bytes slots q → Shows mem_terms page_bytes p q
new_shows page_bytes slots p q page v = subst (λ z. Shows mem_terms page_bytes z q) page (pin_shows page_bytes slots q v)

-- pages in one slot have one seal
same_kind : (page_bytes : ℕ) (p p' : MemPage) (s : Slot) → LiveIn page_bytes p (Some s) → LiveIn page_bytes p' (Some s) → kind_of p ≡ kind_of p'
same_kind page_bytes p p' Open live live' = absurd live
same_kind page_bytes p p' (Sealed frame pins seal) live live' = ap (λ (o : OpenPage). o.kind) (sym live.seal ∙ live'.seal)
same_kind page_bytes p p' Gone live live' = absurd live

moved_stands : (kind : ImageKind) (kinds : List CellKind) (content old new : List ℕ) → kind ≡ Rows kinds → ImageStands true kind content old → IsAccepted (Rows kinds) new → flat (Rows kinds) new ≡ flat (Rows kinds) old → ImageStands true kind content new
moved_stands kind kinds content old new is stands accepted same = record {
  accepted = subst (λ k. IsAccepted k new) (sym is) accepted;
  same = λ t. subst (λ k. flat k new ≡ flat k old) (sym is) same ∙ stands.same t;
}

-- a row page whose texts were moved
pub live_moved : (page_bytes : ℕ) (p : MemPage) (kinds : List CellKind) (bases : List ℕ) (s s' : Slot) → kind_of p ≡ Rows kinds → IsMoved kinds bases s s' → LiveIn page_bytes p (Some s) → LiveIn page_bytes p (Some s')
live_moved page_bytes p kinds bases Open s' is moved live = absurd live
live_moved page_bytes p kinds bases Gone s' is moved live = absurd live
live_moved page_bytes p kinds bases (Sealed old pins seal) Open is moved live = absurd moved
live_moved page_bytes p kinds bases (Sealed old pins seal) Gone is moved live = absurd moved
live_moved page_bytes p kinds bases (Sealed old pins seal) (Sealed new pins' seal') is moved live = record {
  seal = ap (λ z. z.value) moved.1 ∙ live.seal;
  stands = moved_stands (kind_of p) kinds (content_of p) old.bytes.items new.bytes.items is live.stands moved.4 moved.5;
  long = moved.3 ∙ live.long;
  number = let n = moved.2 in let h = live.number in omega (arith, n, h);
}

pub moved_others : (page_bytes : ℕ) (p p' : MemPage) (kinds : List CellKind) (bases : List ℕ) (s s' : Slot) → kind_of p ≡ Rows kinds → LiveIn page_bytes p (Some s) → IsMoved kinds bases s s' → LiveIn page_bytes p' (Some s) → LiveIn page_bytes p' (Some s')
moved_others page_bytes p p' kinds bases s s' is live moved live' =
    live_moved page_bytes p' kinds bases s s' (same_kind page_bytes p' p s live' live ∙ is) moved live'

pub moved_pins : (kinds : List CellKind) (bases : List ℕ) (s s' : Slot) → IsMoved kinds bases s s' → pins_of s' ≡ pins_of s + 1
moved_pins kinds bases Open s' moved = absurd moved
moved_pins kinds bases Gone s' moved = absurd moved
moved_pins kinds bases (Sealed old pins seal) Open moved = absurd moved
moved_pins kinds bases (Sealed old pins seal) Gone moved = absurd moved
moved_pins kinds bases (Sealed old pins seal) (Sealed new pins' seal') moved = moved.0

pub moved_opens : (kinds : List CellKind) (bases : List ℕ) (s s' : Slot) → IsMoved kinds bases s s' → opens_of s' ≡ opens_of s
moved_opens kinds bases Open s' moved = absurd moved
moved_opens kinds bases Gone s' moved = absurd moved
moved_opens kinds bases (Sealed old pins seal) Open moved = absurd moved
moved_opens kinds bases (Sealed old pins seal) Gone moved = absurd moved
moved_opens kinds bases (Sealed old pins seal) (Sealed new pins' seal') moved = refl

pub moved_has : (kinds : List CellKind) (bases : List ℕ) (s s' : Slot) → IsMoved kinds bases s s' → HasPage s'
moved_has kinds bases Open s' moved = absurd moved
moved_has kinds bases Gone s' moved = absurd moved
moved_has kinds bases (Sealed old pins seal) Open moved = absurd moved
moved_has kinds bases (Sealed old pins seal) Gone moved = absurd moved
moved_has kinds bases (Sealed old pins seal) (Sealed new pins' seal') moved = tt

pub moved_based : (kinds : List CellKind) (bases : List ℕ) (s s' : Slot) (f : Frame) → IsMoved kinds bases s s' → frame_of s' ≡ Some f → IsBased f.bytes.items bases
moved_based kinds bases Open s' f moved is = absurd moved
moved_based kinds bases Gone s' f moved is = absurd moved
moved_based kinds bases (Sealed old pins seal) Open f moved is = absurd moved
moved_based kinds bases (Sealed old pins seal) Gone f moved is = absurd moved
moved_based kinds bases (Sealed old pins seal) (Sealed new pins' seal') f moved is = let e : new ≡ f = cc is in subst (λ (z : Frame). IsBased z.bytes.items bases) e moved.6

-- the image of a live row page
pub live_accepted : (page_bytes : ℕ) (p : MemPage) (s : Slot) → LiveIn page_bytes p (Some s) → IsAccepted (kind_of p) (bytes_of s)
live_accepted page_bytes p Open live = absurd live
live_accepted page_bytes p (Sealed frame pins seal) live = live.stands.accepted
live_accepted page_bytes p Gone live = absurd live

pub live_long : (page_bytes : ℕ) (p : MemPage) (s : Slot) → LiveIn page_bytes p (Some s) → length (bytes_of s) ≡ page_bytes
live_long page_bytes p Open live = absurd live
live_long page_bytes p (Sealed frame pins seal) live = live.long
live_long page_bytes p Gone live = absurd live

-- one slot changes
module _ (slots : List Slot) (i : ℕ) (s s' : Slot) (was : slice_get slots i ≡ Some s) where
  counts_more : (m : Slot → ℕ) → m s' ≡ m s + 1 → (y : ℕ) → in_slot m (slice_get (slice_set slots i s') y) ≡ in_slot m (slice_get slots y) + one_of i y
  counts_more m h = by_place slots i s s' was (λ y o. in_slot m o ≡ in_slot m (slice_get slots y) + one_of i y)
      (let e : in_slot m (slice_get slots i) ≡ m s = ap (in_slot m) was in omega (arith, e, h, one_same i))
      (λ y n. omega (arith, one_other i y n))

  counts_less : (m : Slot → ℕ) → m s ≡ m s' + 1 → (y : ℕ) → in_slot m (slice_get slots y) ≡ in_slot m (slice_get (slice_set slots i s') y) + one_of i y
  counts_less m h = by_place slots i s s' was (λ y o. in_slot m (slice_get slots y) ≡ in_slot m o + one_of i y)
      (let e : in_slot m (slice_get slots i) ≡ m s = ap (in_slot m) was in omega (arith, e, h, one_same i))
      (λ y n. omega (arith, one_other i y n))

  counts_same : (m : Slot → ℕ) → m s' ≡ m s → (y : ℕ) → in_slot m (slice_get (slice_set slots i s') y) ≡ in_slot m (slice_get slots y)
  counts_same m h = by_place slots i s s' was (λ y o. in_slot m o ≡ in_slot m (slice_get slots y)) (h ∙ sym (ap (in_slot m) was)) (λ y n. refl)

  all_used : sum_by uses_of (slice_set slots i s') + uses_of s ≡ sum_by uses_of slots + uses_of s'
  all_used =
      let e : get_or slots i s ≡ s = get_or_from_slice_get slots i s s was in
      let k = sum_by-set uses_of slots i s' s (slice_get_within slots i s was) in
      subst (λ z. sum_by uses_of (slice_set slots i s') + uses_of z ≡ sum_by uses_of slots + uses_of s') e k

  pub total_more : (held : ℕ) → pins_of s' + opens_of s' ≡ pins_of s + opens_of s + 1 → held ≡ sum_by uses_of slots → held + 1 ≡ sum_by uses_of (slice_set slots i s')
  total_more held h total = omega (arith, h, total, all_used, both_used s, both_used s')

  pub total_less : (held : ℕ) → pins_of s + opens_of s ≡ pins_of s' + opens_of s' + 1 → held ≡ sum_by uses_of slots → held - 1 ≡ sum_by uses_of (slice_set slots i s')
  total_less held h total = omega (arith, h, total, all_used, both_used s, both_used s')

  pub total_same : (held : ℕ) → pins_of s' + opens_of s' ≡ pins_of s + opens_of s → held ≡ sum_by uses_of slots → held ≡ sum_by uses_of (slice_set slots i s')
  total_same held h total = omega (arith, h, total, all_used, both_used s, both_used s')

  pub some_held : (held : ℕ) → 0 < pins_of s + opens_of s → held ≡ sum_by uses_of slots → 1 ≤ held
  some_held held h total =
      let p : pins_at slots i ≡ pins_of s = ap (in_slot pins_of) was in
      let o : opens_at slots i ≡ opens_of s = ap (in_slot opens_of) was in
      omega (arith, h, total, all_among slots i i, p, o)

  pub pins_small : (held : ℕ) → held ≡ sum_by uses_of slots → pins_of s ≤ held
  pins_small held total =
      let p : pins_at slots i ≡ pins_of s = ap (in_slot pins_of) was in
      omega (arith, total, all_among slots i i, p)

  module _ (page_bytes grant held held' : ℕ) where
    pub pin_more : pins_of s' ≡ pins_of s + 1 → opens_of s' ≡ opens_of s → held' ≡ held + 1 → OnePin i (slots_view page_bytes grant held slots) (slots_view page_bytes grant held' (slice_set slots i s'))
    pin_more pins opens h = record { pins = counts_more pins_of pins; opens = counts_same opens_of opens; held = h }

    pub pin_less : pins_of s ≡ pins_of s' + 1 → opens_of s' ≡ opens_of s → held ≡ held' + 1 → OnePin i (slots_view page_bytes grant held' (slice_set slots i s')) (slots_view page_bytes grant held slots)
    pin_less pins opens h = record { pins = counts_less pins_of pins; opens = λ y. sym (counts_same opens_of opens y); held = h }

    pub open_less : opens_of s ≡ opens_of s' + 1 → pins_of s' ≡ pins_of s → held ≡ held' + 1 → OneOpen i (slots_view page_bytes grant held' (slice_set slots i s')) (slots_view page_bytes grant held slots)
    open_less opens pins h = record { pins = λ y. sym (counts_same pins_of pins y); opens = counts_less opens_of opens; held = h }

    pub held_same : opens_of s' ≡ opens_of s → pins_of s' ≡ pins_of s → held' ≡ held → SameHeld (slots_view page_bytes grant held slots) (slots_view page_bytes grant held' (slice_set slots i s'))
    held_same opens pins h = record { pins = counts_same pins_of pins; opens = counts_same opens_of opens; held = h }

  pub frame_there : IsSome (frame_of s') → IsSome (frame_at (slice_set slots i s') i)
  frame_there some = subst (λ o. IsSome (frame_in o)) (sym (at_place slots i s s' was)) some

  pub frame_is : (f : Frame) → frame_at (slice_set slots i s') i ≡ Some f → frame_of s' ≡ Some f
  frame_is f is = sym (ap frame_in (at_place slots i s s' was)) ∙ is

  pub pins_there : pins_at (slice_set slots i s') i ≡ pins_of s'
  pins_there = ap (in_slot pins_of) (at_place slots i s s' was)

  pub lives_on : (page_bytes : ℕ) → ((p : MemPage) → LiveIn page_bytes p (Some s) → LiveIn page_bytes p (Some s')) → (p : MemPage) → LiveAt page_bytes slots p → LiveAt page_bytes (slice_set slots i s') p
  lives_on page_bytes step p live = goes_on slots i s s' was (LiveIn page_bytes p) (step p) p.at live

  pub others_live_on : (page_bytes : ℕ) (p : MemPage) → LiveAt page_bytes slots p → p.at ≢ i → LiveAt page_bytes (slice_set slots i s') p
  others_live_on page_bytes p live other = by_place slots i s s' was (λ y o. y ≢ i → LiveIn page_bytes p (slice_get slots y) → LiveIn page_bytes p o) (λ n. absurd (n refl)) (λ y n _ l. l) p.at other live

  pub valid_on : (page_bytes : ℕ) → ((q : MemPin) → ValidIn page_bytes q (Some s) → ValidIn page_bytes q (Some s')) → (q : MemPin) → IsPin page_bytes slots q → IsPin page_bytes (slice_set slots i s') q
  valid_on page_bytes step q v = goes_on slots i s s' was (ValidIn page_bytes q) (step q) q.page.value.at v

  -- and where a page is still pinned
  pub pinned_on : (page_bytes : ℕ) → ((q : MemPin) → 0 < pins_of s' → ValidIn page_bytes q (Some s) → ValidIn page_bytes q (Some s')) → (q : MemPin) → IsPin page_bytes slots q → 0 < pins_at (slice_set slots i s') q.page.value.at → IsPin page_bytes (slice_set slots i s') q
  pinned_on page_bytes step q v some = by_place slots i s s' was (λ y o. ValidIn page_bytes q (slice_get slots y) → 0 < in_slot pins_of o → ValidIn page_bytes q o) (λ w h. step q h (subst (ValidIn page_bytes q) was w)) (λ y n w h. w) q.page.value.at v some

  -- a slot that has no pins has no pin of the pool
  pub unpinned_none : (page_bytes : ℕ) → pins_of s ≡ 0 → (q : MemPin) → ValidIn page_bytes q (Some s) → ⊥
  unpinned_none page_bytes none q v = let k = pinned_in page_bytes q (Some s) v in omega (arith, k, none)

-- one slot more
module _ (slots : List Slot) where
  pub push_open : (page_bytes grant held : ℕ) → OneOpen (length slots) (slots_view page_bytes grant held slots) (slots_view page_bytes grant (held + 1) (slots ++ Open ∷ []))
  push_open page_bytes grant held =
      let none : slice_get slots (length slots) ≡ None = slice_get_past slots (length slots) (omega arith) in
      record {
        pins = by_push slots Open (λ y o. in_slot pins_of o ≡ in_slot pins_of (slice_get slots y)) (sym (ap (in_slot pins_of) none)) (λ y n. refl);
        opens = by_push slots Open (λ y o. in_slot opens_of o ≡ in_slot opens_of (slice_get slots y) + one_of (length slots) y)
            (let e : opens_at slots (length slots) ≡ 0 = ap (in_slot opens_of) none in omega (arith, e, one_same (length slots)))
            (λ y n. omega (arith, one_other (length slots) y n));
        held = refl;
      }

  pub push_lives : (page_bytes : ℕ) (p : MemPage) → LiveAt page_bytes slots p → LiveAt page_bytes (slots ++ Open ∷ []) p
  push_lives page_bytes p live = by_push slots Open (λ y o. LiveIn page_bytes p (slice_get slots y) → LiveIn page_bytes p o)
      (λ l. absurd (live_there page_bytes p (slice_get slots (length slots)) l (slice_get_past slots (length slots) (omega arith)))) (λ y n l. l) p.at live

  valid_there : (page_bytes : ℕ) (q : MemPin) (o : Option Slot) → ValidIn page_bytes q o → o ≡ None → ⊥
  valid_there page_bytes q None v e = absurd v
  valid_there page_bytes q (Some s) v e = cc e

  pub push_valid : (page_bytes : ℕ) (q : MemPin) → IsPin page_bytes slots q → IsPin page_bytes (slots ++ Open ∷ []) q
  push_valid page_bytes q v = by_push slots Open (λ y o. ValidIn page_bytes q (slice_get slots y) → ValidIn page_bytes q o)
      (λ w. absurd (valid_there page_bytes q (slice_get slots (length slots)) w (slice_get_past slots (length slots) (omega arith)))) (λ y n w. w) q.page.value.at v

pub valid_read : (page_bytes : ℕ) (slots : List Slot) (x : ℕ) (q : MemPin) (s : Slot) → ValidIn page_bytes q (slice_get slots x) → s ≡ get_or slots x s → slice_get slots x ≡ Some s
valid_read page_bytes slots x q s v is = slice_get_read slots (length slots) x s refl
    (dite (dec_le (length slots) x) (λ past. absurd (valid_there slots page_bytes q (slice_get slots x) v (slice_get_past slots x past))) (λ n. lt_of_not-le n)) is

pub pinned_has : (s : Slot) → 0 < pins_of s → HasPage s
pinned_has Open h = absurd (omega (arith, h))
pinned_has (Sealed frame pins seal) h = tt
pinned_has Gone h = absurd (omega (arith, h))

pub opens_none : (page_bytes : ℕ) (p : MemPage) (s : Slot) → LiveIn page_bytes p (Some s) → opens_of s ≡ 0
opens_none page_bytes p Open live = absurd live
opens_none page_bytes p (Sealed frame pins seal) live = refl
opens_none page_bytes p Gone live = absurd live

-- a retired page isn't live
pub gone_ends : (slots : List Slot) (x : ℕ) (s : Slot) → slice_get slots x ≡ Some s → (page_bytes : ℕ) (p : MemPage) → p.at ≡ x → LiveAt page_bytes (slice_set slots x Gone) p → ⊥
gone_ends slots x s was page_bytes p e live =
    let l : LiveIn page_bytes p (slice_get (slice_set slots x Gone) x) = subst (λ z. LiveIn page_bytes p (slice_get (slice_set slots x Gone) z)) e live in
    subst (LiveIn page_bytes p) (at_place slots x s Gone was) l

-- a page that was just sealed
pub new_live : (slots : List Slot) (x : ℕ) (s s' : Slot) → slice_get slots x ≡ Some s → (page_bytes : ℕ) (p : MemPage) → p.at ≡ x → LiveIn page_bytes p (Some s') → LiveAt page_bytes (slice_set slots x s') p
new_live slots x s s' was page_bytes p e live =
    subst (λ z. LiveIn page_bytes p (slice_get (slice_set slots x s') z)) (sym e) (subst (LiveIn page_bytes p) (sym (at_place slots x s s' was)) live)

-- the frame of a page that was just sealed
pub sealed_frame : (page_bytes : ℕ) (p : MemPage) (o v : OpenPage) → p.seal.value ≡ o → v ≡ o → IsAccepted o.kind o.frame.bytes.items → length o.frame.bytes.items ≡ page_bytes → o.frame.number < most_frames → IsFrameOf page_bytes p o.frame v
sealed_frame page_bytes p o v seal seal' accepted long number = record {
  seal = seal' ∙ sym seal;
  stands = subst (λ (z : OpenPage). ImageStands true z.kind (flat z.kind z.frame.bytes.items) o.frame.bytes.items) (sym seal) (record { accepted = accepted; same = λ t. refl });
  long = long;
  number = number;
}
