-- A frame moves between a turn and a page: what stays true.
use Rattle.std.proofs.Common.{◌≡◌, ℕ, ◌<◌, List, [], ◌∷◌, ◌++◌, length, get_or, true, Option, Some, None, refl, sym, ap, subst, ◌∙◌, arith}
use Rattle.std.specs.Prelude.{slice_get, slice_set}
use Rattle.std.proofs.lemmas.Option.{slice_get_within}
use Rattle.evict_ring.specs.declared.frame.Frame.{Frame}
use Rattle.evict_ring.specs.Lending.{frame_with}
use Rattle.row_image.specs.declared.image.ImageKind.{ImageKind}
use Rattle.row_image.specs.Rules.{IsAccepted}
use Rattle.row_image.specs.Flat.{flat}
use Rattle.page_body.specs.Stands.{ImageStands}
use Rattle.page_body.specs.Bodies.{frame_of, installed, rested}
use Rattle.pool_core.specs.declared.state.CoreTurn.{CoreTurn}
use Rattle.pool_core.specs.declared.state.CorePage.{CorePage}
use Rattle.pool_core.specs.State.{State, OnPage, IsHeap, IsLive, content_of}
use Rattle.pool_core.specs.Enabled.{NamesHeap, CanSeal}
use Rattle.pool_core.specs.Effects.{with_turn, with_page, put, owned, spared, given_ticket, kept_of, new_page}
use Rattle.pool_core.specs.Sound.{FrameLies, PageStands, HeapsAre, HasFrame, Sound}
use Rattle.pool_core.proofs.Lists.{puts_set, puts_push, each_put, at_some, some_of, on_put, same_at}
use Rattle.pool_core.proofs.Frames.{HasNone, turns_given, pages_given, turns_taken, pages_taken}
use Rattle.pool_core.proofs.Ready.{whole}
use Rattle.pool_core.proofs.Bodies.{BodyStands, framed, installed_stands, installed_frame, resting_frame, rested_stands, rested_frame}
use Rattle.pool_core.proofs.Marks.{unread_stays, marks_kept}
use Rattle.pool_core.proofs.SoundParts.{heaps_kept, stand_kept, stands_put, unread_of}

-- a spare is its turn's frame, with the bytes of a page, and the turn has no owner
spare_lies : (bytes : ℕ) (pages : List CorePage) (frame : ℕ) (spare : Option Frame) (owner : Option ℕ) (f : Frame) → FrameLies bytes pages frame spare owner → spare ≡ Some f
    → (f.number ≡ frame) × (length f.bytes.items ≡ bytes) × (owner ≡ None)
spare_lies bytes pages frame (Some g) owner f h e = let P : Frame → Type 0 = λ x. (x.number ≡ frame) × (length x.bytes.items ≡ bytes) × (owner ≡ None) in let is : g ≡ f = cc in subst P is h
spare_lies bytes pages frame None owner f h e = absurd (let h : ⊥ = cc in h)

-- an image goes into a spare frame, and the page of it gets the frame
pub install_sound : (s : State) → Sound s → (page frame actor : ℕ) (p : CorePage) (t : CoreTurn) (f : Frame) (image : List ℕ) → slice_get s.pages page ≡ Some p → p.writer ≡ Some actor
    → slice_get s.turns frame ≡ Some t → t.turn.spare ≡ Some f → kept_of p.body ≡ Some image → length image ≡ s.page
    → Sound (with_turn (with_page s page (put p (installed p.body (frame_with f image)))) frame (owned t page))
install_sound s sound page frame actor p t f image e writer there spare kept long =
    let g = frame_with f image in
    let body = installed p.body g in
    let p' = put p body in
    let pages = slice_set s.pages page p' in
    let turns = slice_set s.turns frame (owned t page) in
    let page_put = puts_set s.pages page p p' e in
    let turn_put = puts_set s.turns frame t (owned t page) there in
    let lies = spare_lies s.page s.pages frame t.turn.spare t.turn.owner f (sound.turns frame t there).1 spare in
    let same : length image ≡ length f.bytes.items = long ∙ sym lies.1 in
    let has : frame_of body ≡ Some g = installed_frame p.body g image kept in
    let size : length g.bytes.items ≡ s.page = ap length (framed f image same) ∙ long in
    let none : HasNone s.pages page = λ x is n. let P : CorePage → Type 0 = λ y. HasFrame n y.body → ⊥ in subst P (same_at (slice_get s.pages page) p x e is) (resting_frame p.body image kept n) in
    let h = sound.stand page p e in
    let old : BodyStands s.page p.kind (content_of p) p.body = record { stands = h.stands; kept = h.kept } in
    record {
      page = sound.page;
      turns = turns_given s.page s.turns turns s.pages pages frame page t p' sound.turns there turn_put none page_put (at_some (frame_of body) (λ x. x.number ≡ frame) g has lies.0);
      pages = pages_given s.page s.turns turns s.pages pages frame page t p' g sound.pages there lies.2 turn_put page_put has lies.0 size;
      stand = stand_kept s.page s.pages pages page p' page_put sound.stand (stands_put s.page p body h (installed_stands s.page p.kind (content_of p) p.body f image old kept same));
      heaps = heaps_kept s.pages pages page p body p.readers None e page_put sound.heaps;
      marks = marks_kept s.page s.pages pages s.marks sound.marks (unread_stays s.pages pages page p' page_put (unread_of s.page actor s.pages page p sound.stand e writer));
    }

-- a page gives its frame back
pub rest_sound : (s : State) → Sound s → (page actor : ℕ) (p : CorePage) (t : CoreTurn) (f : Frame) → slice_get s.pages page ≡ Some p → p.writer ≡ Some actor
    → frame_of p.body ≡ Some f → slice_get s.turns f.number ≡ Some t → Sound (with_turn (with_page s page (put p (rested p.body (given_ticket page p.body)))) f.number (spared t f))
rest_sound s sound page actor p t f e writer has there =
    let body = rested p.body (given_ticket page p.body) in
    let p' = put p body in
    let pages = slice_set s.pages page p' in
    let turns = slice_set s.turns f.number (spared t f) in
    let page_put = puts_set s.pages page p p' e in
    let turn_put = puts_set s.turns f.number t (spared t f) there in
    let h = sound.stand page p e in
    let old : BodyStands s.page p.kind (content_of p) p.body = record { stands = h.stands; kept = h.kept } in
    record {
      page = sound.page;
      turns = turns_taken s.page s.turns turns s.pages pages page t p p' f sound.turns sound.pages there turn_put e has page_put;
      pages = pages_taken s.page s.turns turns s.pages pages page t p p' f sound.pages there turn_put e has page_put (rested_frame page p.body);
      stand = stand_kept s.page s.pages pages page p' page_put sound.stand
          (stands_put s.page p body h (rested_stands s.page page p.kind (content_of p) p.body sound.page.least old (λ resident. (whole s sound page p e resident).0)));
      heaps = heaps_kept s.pages pages page p body p.readers None e page_put sound.heaps;
      marks = marks_kept s.page s.pages pages s.marks sound.marks (unread_stays s.pages pages page p' page_put (unread_of s.page actor s.pages page p sound.stand e writer));
    }

named_is : (pages : List CorePage) (kind : ImageKind) (image : List ℕ) (part : ℕ) (named : Option ℕ) (heap : ℕ) → NamesHeap pages kind image part named → named ≡ Some heap → OnPage pages heap (λ h. IsHeap h.kind × IsLive h.body)
named_is pages kind image part None heap h e = absurd (let h : ⊥ = cc in h)
named_is pages kind image part (Some x) heap h e = let P : ℕ → Type 0 = λ y. OnPage pages y (λ h. IsHeap h.kind × IsLive h.body) in let is : x ≡ heap = cc in subst P is h.1

-- a new page
heap_there : (pages : List CorePage) (p' : CorePage) (heap : ℕ) (P : CorePage → Type 0) → OnPage pages heap P → OnPage (pages ++ p' ∷ []) heap P
heap_there pages p' heap P h =
    on_put pages (pages ++ p' ∷ []) (length pages) p' heap P P (puts_push pages p') h
    (λ x same there hx. absurd (let low = slice_get_within pages (length pages) x there in omega arith)) (λ x ne hx. hx)

new_heaps : (s : State) → Sound s → (actor frame : ℕ) (kind : ImageKind) (image : List ℕ) (heaps : List (Option ℕ)) (f : Frame) → CanSeal s actor frame kind image heaps → HeapsAre (s.pages ++ new_page kind image heaps f ∷ [])
new_heaps s sound actor frame kind image heaps f can =
    let p' = new_page kind image heaps f in
    let pages = s.pages ++ p' ∷ [] in
    let P : CorePage → Type 0 = λ h. IsHeap h.kind in
    let B : CorePage → Type 0 = λ h. IsHeap h.kind × IsLive h.body in
    each_put s.pages pages (length s.pages) p' (λ q x. (part : ℕ) → part < 4 → (heap : ℕ) → get_or x.heaps part None ≡ Some heap → OnPage pages heap P) (puts_push s.pages p')
    (λ part few heap named. heap_there s.pages p' heap P
    (let some = some_of (slice_get s.pages heap) B (named_is s.pages kind image part (get_or heaps part None) heap (can.heaps part few) named) in at_some (slice_get s.pages heap) P some.0 some.1 some.2.0))
    (λ q x ne there part few heap named. heap_there s.pages p' heap P (sound.heaps q x there part few heap named))

new_stands : (bytes : ℕ) (kind : ImageKind) (image : List ℕ) (heaps : List (Option ℕ)) (f : Frame) → length image ≡ bytes → length image ≡ length f.bytes.items → IsAccepted kind image
    → PageStands bytes (new_page kind image heaps f)
new_stands bytes kind image heaps f whole same accepted =
    let I : List ℕ → Type 0 = λ i. ImageStands true kind (flat kind image) i in
    let mine : ImageStands true kind (flat kind image) image = record { accepted = accepted; same = λ told. refl } in
    record {
      claimed = λ some. refl;
      sealed = accepted;
      whole = whole;
      stands = (subst I (sym (framed f image same)) mine, tt);
      kept = λ t e. absurd (let h : ⊥ = cc in h);
    }

pub seal_sound : (s : State) → Sound s → (actor frame : ℕ) (kind : ImageKind) (image : List ℕ) (heaps : List (Option ℕ)) (t : CoreTurn) (f : Frame) → CanSeal s actor frame kind image heaps
    → slice_get s.turns frame ≡ Some t → t.turn.spare ≡ Some f
    → Sound (with_turn (record s { pages = s.pages ++ new_page kind image heaps f ∷ [] }) frame (owned t (length s.pages)))
seal_sound s sound actor frame kind image heaps t f can there spare =
    let p' = new_page kind image heaps f in
    let page = length s.pages in
    let pages = s.pages ++ p' ∷ [] in
    let g = frame_with f image in
    let turns = slice_set s.turns frame (owned t page) in
    let page_put = puts_push s.pages p' in
    let turn_put = puts_set s.turns frame t (owned t page) there in
    let lies = spare_lies s.page s.pages frame t.turn.spare t.turn.owner f (sound.turns frame t there).1 spare in
    let same : length image ≡ length f.bytes.items = can.whole ∙ sym lies.1 in
    let size : length g.bytes.items ≡ s.page = ap length (framed f image same) ∙ can.whole in
    let past : (x : CorePage) → slice_get s.pages page ≡ Some x → ⊥ = λ x is. let low = slice_get_within s.pages page x is in omega arith in
    record {
      page = sound.page;
      turns = turns_given s.page s.turns turns s.pages pages frame page t p' sound.turns there turn_put (λ x is n h. past x is) page_put lies.0;
      pages = pages_given s.page s.turns turns s.pages pages frame page t p' g sound.pages there lies.2 turn_put page_put refl lies.0 size;
      stand = stand_kept s.page s.pages pages page p' page_put sound.stand (new_stands s.page kind image heaps f can.whole same can.accepted);
      heaps = new_heaps s sound actor frame kind image heaps f can;
      marks = marks_kept s.page s.pages pages s.marks sound.marks (unread_stays s.pages pages page p' page_put (λ x other is reads. past x is));
    }
