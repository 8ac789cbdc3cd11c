-- What stays true, part by part.
use Rattle.std.proofs.Common.{◌≡◌, ℕ, ◌<◌, List, [], get_or, Option, Some, None, ap, subst}
use Rattle.std.specs.Prelude.{slice_get, slice_set, IsSome, is_some}
use Rattle.std.specs.List.{Contains}
use Rattle.page_body.specs.declared.body.PageBody.{PageBody}
use Rattle.pool_core.specs.declared.state.CorePage.{CorePage}
use Rattle.pool_core.specs.declared.state.Mark.{Mark}
use Rattle.pool_core.specs.State.{State, OnPage, IsHeap, content_of}
use Rattle.pool_core.specs.Effects.{put}
use Rattle.pool_core.specs.Sound.{PageStands, AllStand, HeapsAre, MarksHold, Sound}
use Rattle.pool_core.proofs.Lists.{Puts, puts_set, each_put, on_put, same_at}
use Rattle.pool_core.proofs.Frames.{KeepsFrame, turns_kept, pages_kept}
use Rattle.pool_core.proofs.Bodies.{BodyStands}
use Rattle.pool_core.proofs.Contained.{nothing_in}

-- a page with another body, other claims and another writer
abbrev pub changed : CorePage → PageBody → List ℕ → Option ℕ → CorePage
changed p body readers writer = record p { body = body; readers = readers; writer = writer }

heap_stays : (old new : List CorePage) (place : ℕ) (p : CorePage) (body : PageBody) (readers : List ℕ) (writer : Option ℕ) → slice_get old place ≡ Some p → Puts old new place (changed p body readers writer)
    → (heap : ℕ) → OnPage old heap (λ h. IsHeap h.kind) → OnPage new heap (λ h. IsHeap h.kind)
heap_stays old new place p body readers writer e put heap h =
    let P : CorePage → Type 0 = λ x. IsHeap x.kind in
    on_put old new place (changed p body readers writer) heap P P put h (λ x same is hx. subst P (same_at (slice_get old place) x p is e) hx) (λ x ne hx. hx)

pub heaps_kept : (old new : List CorePage) (place : ℕ) (p : CorePage) (body : PageBody) (readers : List ℕ) (writer : Option ℕ) → slice_get old place ≡ Some p → Puts old new place (changed p body readers writer)
    → HeapsAre old → HeapsAre new
heaps_kept old new place p body readers writer e put are =
    each_put old new place (changed p body readers writer) (λ q x. (part : ℕ) → part < 4 → (heap : ℕ) → get_or x.heaps part None ≡ Some heap → OnPage new heap (λ h. IsHeap h.kind)) put
    (λ part few heap named. heap_stays old new place p body readers writer e put heap (are place p e part few heap named))
    (λ q x ne there part few heap named. heap_stays old new place p body readers writer e put heap (are q x there part few heap named))

pub stand_kept : (bytes : ℕ) (old new : List CorePage) (place : ℕ) (p' : CorePage) → Puts old new place p' → AllStand bytes old → PageStands bytes p' → AllStand bytes new
stand_kept bytes old new place p' put stand mine = each_put old new place p' (λ q x. PageStands bytes x) put mine (λ q x ne there. stand q x there)

-- a page changes, and keeps its frame
pub page_changed : (s : State) → Sound s → (page : ℕ) (p : CorePage) (body : PageBody) (readers : List ℕ) (writer : Option ℕ) (marks : List Mark) → slice_get s.pages page ≡ Some p
    → KeepsFrame p.body body → PageStands s.page (changed p body readers writer) → MarksHold s.page (slice_set s.pages page (changed p body readers writer)) marks
    → Sound (record s { pages = slice_set s.pages page (changed p body readers writer); marks = marks })
page_changed s sound page p body readers writer marks e keeps stands marked =
    let p' = changed p body readers writer in
    let new = slice_set s.pages page p' in
    let put = puts_set s.pages page p p' e in
    record {
      page = sound.page;
      turns = turns_kept s.page s.turns s.pages new page p p' sound.turns e put keeps;
      pages = pages_kept s.page s.turns s.pages new page p p' sound.pages e put keeps;
      stand = stand_kept s.page s.pages new page p' put sound.stand stands;
      heaps = heaps_kept s.pages new page p body readers writer e put sound.heaps;
      marks = marked;
    }

-- what a page says by itself, with other claims
pub stands_claimed : (bytes : ℕ) (p : CorePage) (readers : List ℕ) (writer : Option ℕ) → PageStands bytes p → (IsSome writer → readers ≡ []) → PageStands bytes (changed p p.body readers writer)
stands_claimed bytes p readers writer h claimed = record { claimed = claimed; sealed = h.sealed; whole = h.whole; stands = h.stands; kept = h.kept }

-- and with the body that its writer put
pub stands_put : (bytes : ℕ) (p : CorePage) (body : PageBody) → PageStands bytes p → BodyStands bytes p.kind (content_of p) body → PageStands bytes (put p body)
stands_put bytes p body h b = record { claimed = λ some. absurd (let e : ⊥ = cc in e); sealed = h.sealed; whole = h.whole; stands = b.stands; kept = b.kept }

-- a page with a writer has no reader
pub unread_of : (bytes actor : ℕ) (pages : List CorePage) (page : ℕ) (p : CorePage) → AllStand bytes pages → slice_get pages page ≡ Some p → p.writer ≡ Some actor
    → (x : CorePage) (other : ℕ) → slice_get pages page ≡ Some x → Contains x.readers other → ⊥
unread_of bytes actor pages page p stand e writer x other there reads =
    let is : x ≡ p = same_at (slice_get pages page) x p there e in
    let P : CorePage → Type 0 = λ y. Contains y.readers other in
    let R : List ℕ → Type 0 = λ readers. Contains readers other in
    nothing_in other (subst R ((stand page p e).claimed (ap is_some writer)) (subst P is reads))
