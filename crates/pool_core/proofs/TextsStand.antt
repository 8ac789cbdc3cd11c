-- Where an actor has looked at a row page, each long cell leads to its text.
use Rattle.std.proofs.Common.{◌≡◌, ℕ, ◌+◌, ◌*◌, ◌/◌, ◌%◌, ◌<◌, List, length, get_or, true, Some, None, refl, sym, ap, subst, ◌∙◌, arith}
use Rattle.std.specs.Prelude.{slice_get, slice_range, IsSomeAnd}
use Rattle.std.specs.List.{Contains}
use Rattle.evict_ring.specs.declared.frame.Frame.{Frame}
use Rattle.row_image.specs.declared.layout.CellKind.{CellKind}
use Rattle.row_image.specs.declared.image.ImageKind.{ImageKind}
use Rattle.row_image.specs.declared.image.ImageKind.TheVariants.{Rows, Heap, Plain}
use Rattle.row_image.specs.Bytes.{IsPage}
use Rattle.row_image.specs.Image.{part_at, stored_cell}
use Rattle.row_image.specs.Rules.{IsAccepted}
use Rattle.row_image.specs.Flat.{flat}
use Rattle.row_image.specs.Texts.{TextValue, value_of, CellValue}
use Rattle.row_image.specs.Followed.{LiesIn, IsFollowed}
use Rattle.row_image.proofs.Laws.{accepted_parts}
use Rattle.row_image.proofs.Followed.{long_lies, text_followed}
use Rattle.page_body.specs.declared.body.PageBody.{PageBody}
use Rattle.page_body.specs.declared.body.PageBody.TheVariants.{Resident, Resting, Dead}
use Rattle.page_body.specs.Bodies.{IsResident, frame_of, image_of}
use Rattle.page_body.specs.Stands.{StandsFor, ImageStands}
use Rattle.pool_core.specs.declared.state.CorePage.{CorePage}
use Rattle.pool_core.specs.State.{State, IsHeap, LiesAt, content_of}
use Rattle.pool_core.specs.Enabled.{HasHeap, HoldsHeap, LooksThrough}
use Rattle.pool_core.specs.Sound.{Sound}
use Rattle.pool_core.specs.Laws.{IsTextAt, TextsStand}
use Rattle.pool_core.proofs.Lists.{at_some, of_some, some_of}
use Rattle.pool_core.proofs.Ready.{whole}

-- a resident image stands for the content
image_stands : (kind : ImageKind) (content : List ℕ) (body : PageBody) → StandsFor true kind content body → IsResident body → ImageStands true kind content (image_of body)
image_stands kind content (Resident frame ticket) h resident = h.0
image_stands kind content (Resting ticket) h resident = absurd resident
image_stands kind content (Dead frame) h resident = absurd resident

-- a heap page that lies at a base: its frame, whose bytes are its content
heap_frame : (bytes base : ℕ) (kind : ImageKind) (sealed : List ℕ) (body : PageBody) → IsHeap kind → StandsFor true kind (flat kind sealed) body → LiesAt bytes base body
    → (f : Frame) × (frame_of body ≡ Some f) × (base ≡ f.number * bytes) × (f.bytes.items ≡ flat kind sealed) × IsResident body
unfolding flat
heap_frame bytes base (Rows kinds) sealed body heap h lies = absurd heap
heap_frame bytes base Heap sealed (Resident frame ticket) heap h lies = (frame, refl, lies, h.0.same refl, tt)
heap_frame bytes base Heap sealed (Resting ticket) heap h lies = absurd lies
heap_frame bytes base Heap sealed (Dead frame) heap h lies = absurd lies
heap_frame bytes base Plain sealed body heap h lies = absurd heap

text_at : (bytes : ℕ) (rows heap : CorePage) (kinds : List CellKind) (image : List ℕ) (row column size address : ℕ) (f : Frame) → length image ≡ bytes → flat (Rows kinds) image ≡ content_of rows
    → f.bytes.items ≡ content_of heap → IsFollowed kinds image f.bytes.items row column size address f.number → IsTextAt bytes rows heap kinds row column size address f
text_at bytes rows heap kinds image row column size address f long same heap_same h =
    let N : ℕ → Type 0 = λ n. address / n ≡ f.number in
    let T : ℕ → CellValue = λ n. TextValue (slice_range f.bytes.items (address % n) (address % n + size)) in
    record {
      number = subst N long h.frame_is;
      text = ap T (sym long) ∙ h.text ∙ ap (λ heap. value_of heap (stored_cell kinds (flat (Rows kinds) image) row column)) heap_same ∙ ap (λ content. value_of (content_of heap) (stored_cell kinds content row column)) same;
    }

pub texts_stand : (s : State) → Sound s → TextsStand s
texts_stand s sound mark p kinds row column prefix size address has there kind below inside cell =
    let look = of_some (slice_get s.pages mark.page) (λ p. LooksThrough s.page s.pages mark.actor p) p there (sound.marks mark has) in
    let image = image_of p.body in
    let both = whole s sound mark.page p there look.resident in
    let A : ImageKind → Type 0 = λ k. IsAccepted k image in
    let accepted : IsAccepted (Rows kinds) image = subst A kind both.1 in
    let stands = image_stands p.kind (content_of p) p.body (sound.stand mark.page p there).stands look.resident in
    let same : flat (Rows kinds) image ≡ content_of p = ap (λ k. flat k image) (sym kind) ∙ stands.same refl in
    let sized : IsPage (length image) = subst IsPage (sym both.0) sound.page in
    let on = long_lies kinds image row column prefix size address accepted sized.least sized.most below inside cell in
    let part = on.1 in
    let H : ImageKind → Type 0 = λ k. HasHeap k image part in
    let base = (part_at image part).base in
    let named = some_of (get_or p.heaps part None) (λ heap. HoldsHeap s.page s.pages mark.actor base heap) (look.bases part (subst H (sym kind) (on.2.lies.counted, on.2.heap))) in
    let heap = named.0 in
    let few : part < 4 = (let most = accepted_parts kinds image accepted in let counted = on.2.lies.counted in omega arith) in
    let found = some_of (slice_get s.pages heap) (λ h. Contains h.readers mark.actor × LiesAt s.page base h.body) named.2 in
    let h = found.0 in
    let is_heap = of_some (slice_get s.pages heap) (λ h. IsHeap h.kind) h found.1 (sound.heaps mark.page p there part few heap named.1) in
    let frame = heap_frame s.page base h.kind h.sealed h.body is_heap (sound.stand heap h found.1).stands found.2.1 in
    let f = frame.0 in
    let followed = text_followed kinds image f.bytes.items row column prefix size address part f.number on.0 on.2 (frame.2 ∙ ap (λ n. f.number * n) (sym both.0)) in
    let L : List ℕ → Type 0 = λ content. LiesIn content row part in
    record {
      part = part;
      heap = heap;
      lies = subst L same on.2.lies_flat;
      named = named.1;
      found = at_some (slice_get s.pages heap) (λ h. IsHeap h.kind × IsResident h.body × IsSomeAnd (frame_of h.body) (λ f. IsTextAt s.page p h kinds row column size address f)) h found.1 (
        is_heap,
        frame.4,
        at_some (frame_of h.body) (λ f. IsTextAt s.page p h kinds row column size address f) f frame.1
            (text_at s.page p h kinds image row column size address f both.0 same frame.3 followed),
      );
    }
