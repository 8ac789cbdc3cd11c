-- What an enabled event finds in a sound state.
use Rattle.std.proofs.Common.{◌≡◌, ℕ, ◌<◌, ◌%◌, ◌^◌, List, length, true, Option, Some, None, refl, sym, ap, subst, ◌∙◌}
use Rattle.std.specs.Prelude.{slice_get, IsSome, IsSomeAnd}
use Rattle.std.proofs.lemmas.Option.{slice_get_within}
use Rattle.evict_ring.specs.declared.frame.Frame.{Frame}
use Rattle.row_image.specs.declared.image.ImageKind.{ImageKind}
use Rattle.row_image.specs.Bytes.{IsPage}
use Rattle.row_image.specs.Rules.{IsAccepted}
use Rattle.page_body.specs.declared.body.PageBody.{PageBody}
use Rattle.page_body.specs.declared.body.PageBody.TheVariants.{Resident, Resting, Dead}
use Rattle.page_body.specs.Bodies.{IsResident, IsResting, frame_of, image_of, ticket_of}
use Rattle.page_body.specs.Stands.{StandsFor, KeptStands}
use Rattle.pool_core.specs.declared.state.CoreTurn.{CoreTurn}
use Rattle.pool_core.specs.declared.state.CorePage.{CorePage}
use Rattle.pool_core.specs.declared.event.Change.TheVariants.{Install, Rest, Rebase}
use Rattle.pool_core.specs.State.{State, OnPage, OnTurn, IsOut, content_of}
use Rattle.pool_core.specs.Enabled.{HasSpare, HasHeap, CanSeal, CanChange}
use Rattle.pool_core.specs.Effects.{kept_of}
use Rattle.pool_core.specs.Sound.{FrameLies, BodyLies, PageStands, IsWhole, Sound}
use Rattle.pool_core.proofs.Lists.{at_some, some_of}

pub on_some : {A : Type 0} (o : Option A) (P Q : A → Type 0) → IsSomeAnd o P → ((x : A) → o ≡ Some x → P x → Q x) → IsSomeAnd o Q
on_some o P Q h go = let some = some_of o P h in at_some o Q some.0 some.1 (go some.0 some.1 some.2)

-- a resident image has as many bytes as a page, and is accepted
body_whole : (bytes : ℕ) (turns : List CoreTurn) (page : ℕ) (kind : ImageKind) (content : List ℕ) (body : PageBody) → BodyLies bytes turns page body → StandsFor true kind content body
    → IsResident body → (length (image_of body) ≡ bytes) × IsAccepted kind (image_of body)
body_whole bytes turns page kind content (Resident frame ticket) lies stands resident = ((lies frame refl).0, stands.0.accepted)
body_whole bytes turns page kind content (Resting ticket) lies stands resident = absurd resident
body_whole bytes turns page kind content (Dead frame) lies stands resident = absurd resident

pub whole : (s : State) → Sound s → (page : ℕ) (p : CorePage) → slice_get s.pages page ≡ Some p → IsWhole s.page p
whole s sound page p there = body_whole s.page s.turns page p.kind (content_of p) p.body (sound.pages page p there) (sound.stand page p there).stands

-- a turn's spare has as many bytes as a page
spare_long : (bytes : ℕ) (pages : List CorePage) (frame : ℕ) (spare : Option Frame) (owner : Option ℕ) (f : Frame) → FrameLies bytes pages frame spare owner → spare ≡ Some f → length f.bytes.items ≡ bytes
spare_long bytes pages frame (Some g) owner f h e = let P : Frame → Type 0 = λ x. length x.bytes.items ≡ bytes in let is : g ≡ f = cc in subst P is h.1
spare_long bytes pages frame None owner f h e = absurd (let h : ⊥ = cc in h)

the_value : {A : Type 0} (o : Option A) → IsSome o → (x : A) × (o ≡ Some x)
the_value (Some x) h = (x, refl)
the_value None h = absurd (let e : ⊥ = cc in e)

-- the spare of a turn that is out
pub spare_of : (s : State) → Sound s → (actor frame : ℕ) → HasSpare s.turns actor frame → OnTurn s.turns frame (λ t. IsSomeAnd t.turn.spare (λ f. length f.bytes.items ≡ s.page))
spare_of s sound actor frame h =
    on_some (slice_get s.turns frame) (λ t. (t.out ≡ Some actor) × IsSome t.turn.spare) (λ t. IsSomeAnd t.turn.spare (λ f. length f.bytes.items ≡ s.page)) h
    (λ t there has.
    let some = the_value t.turn.spare has.1 in
    at_some t.turn.spare (λ f. length f.bytes.items ≡ s.page) some.0 some.1 (spare_long s.page s.pages frame t.turn.spare t.turn.owner some.0 (sound.turns frame t there).1 some.1))

kept_there : (kind : ImageKind) (content : List ℕ) (kept : Option (List ℕ)) → KeptStands true kind content kept → (image : List ℕ) × (kept ≡ Some image)
kept_there kind content None h = absurd h
kept_there kind content (Some image) h = (image, refl)

-- a resting page's ticket keeps an image of as many bytes
pub kept_long : (bytes : ℕ) (p : CorePage) (body : PageBody) → PageStands bytes p → p.body ≡ body → IsResting body → IsResting body × IsSomeAnd (kept_of body) (λ image. length image ≡ bytes)
kept_long bytes p (Resident frame ticket) h e resting = absurd resting
kept_long bytes p (Resting ticket) h e resting =
    let P : PageBody → Type 0 = λ b. StandsFor true p.kind (content_of p) b in
    let some = kept_there p.kind (content_of p) ticket.kept (subst P e h.stands refl) in
    (tt, at_some ticket.kept (λ image. length image ≡ bytes) some.0 some.1 (h.kept ticket (ap ticket_of e) some.0 some.1))
kept_long bytes p (Dead frame) h e resting = absurd resting

-- what an install asks for
pub can_install : (s : State) → Sound s → (actor page frame : ℕ) → OnPage s.pages page (λ p. (p.writer ≡ Some actor) × CanChange s.page s.turns actor p (Install frame))
    → OnTurn s.turns frame (λ t. IsSomeAnd t.turn.spare (λ f. OnPage s.pages page (λ p. IsResting p.body × IsSomeAnd (kept_of p.body) (λ image. length image ≡ length f.bytes.items))))
can_install s sound actor page frame h =
    let some = some_of (slice_get s.pages page) (λ p. (p.writer ≡ Some actor) × CanChange s.page s.turns actor p (Install frame)) h in
    let p = some.0 in
    let kept = kept_long s.page p p.body (sound.stand page p some.1) refl some.2.1.0 in
    on_some (slice_get s.turns frame) (λ t. IsSomeAnd t.turn.spare (λ f. length f.bytes.items ≡ s.page)) (λ t. IsSomeAnd t.turn.spare (λ f. OnPage s.pages page (λ p. IsResting p.body × IsSomeAnd (kept_of p.body) (λ image. length image ≡ length f.bytes.items))))
    (spare_of s sound actor frame some.2.1.1)
    (λ t there spare. on_some t.turn.spare (λ f. length f.bytes.items ≡ s.page) (λ f. OnPage s.pages page (λ p. IsResting p.body × IsSomeAnd (kept_of p.body) (λ image. length image ≡ length f.bytes.items))) spare
    (λ f is long. at_some (slice_get s.pages page) (λ p. IsResting p.body × IsSomeAnd (kept_of p.body) (λ image. length image ≡ length f.bytes.items)) p some.1
    (kept.0, on_some (kept_of p.body) (λ image. length image ≡ s.page) (λ image. length image ≡ length f.bytes.items) kept.1 (λ image same size. size ∙ sym long))))

-- what a rest asks for
pub can_rest : (s : State) (actor page : ℕ) → OnPage s.pages page (λ p. (p.writer ≡ Some actor) × CanChange s.page s.turns actor p Rest)
    → OnPage s.pages page (λ p. IsSomeAnd (frame_of p.body) (λ f. f.number < length s.turns))
can_rest s actor page h =
    on_some (slice_get s.pages page) (λ p. (p.writer ≡ Some actor) × CanChange s.page s.turns actor p Rest) (λ p. IsSomeAnd (frame_of p.body) (λ f. f.number < length s.turns)) h
    (λ p there can. on_some (frame_of p.body) (λ f. IsOut s.turns actor f.number) (λ f. f.number < length s.turns) can.1
    (λ f is out. let some = some_of (slice_get s.turns f.number) (λ t. t.out ≡ Some actor) out in slice_get_within s.turns f.number some.0 some.1))

-- what a rebase asks for
abbrev pub CanRebase : CorePage → ℕ → ℕ → Type 0
CanRebase p part base = IsResident p.body × HasHeap p.kind (image_of p.body) part × IsPage (length (image_of p.body)) × IsAccepted p.kind (image_of p.body) × (base % length (image_of p.body) ≡ 0)

pub can_rebase : (s : State) → Sound s → (actor page part base : ℕ) → OnPage s.pages page (λ p. (p.writer ≡ Some actor) × CanChange s.page s.turns actor p (Rebase part base))
    → OnPage s.pages page (λ p. CanRebase p part base) × (base < 2 ^ 48)
can_rebase s sound actor page part base h =
    let some = some_of (slice_get s.pages page) (λ p. (p.writer ≡ Some actor) × CanChange s.page s.turns actor p (Rebase part base)) h in
    let p = some.0 in
    let can = some.2.1 in
    let both = whole s sound page p some.1 can.0 in
    let P : ℕ → Type 0 = λ n. base % n ≡ 0 in
    (at_some (slice_get s.pages page) (λ p. CanRebase p part base) p some.1 (can.0, can.1, subst IsPage (sym both.0) sound.page, both.1, subst P (sym both.0) can.2), can.3)

-- what a seal asks for
pub can_seal : (s : State) → Sound s → (actor frame : ℕ) (kind : ImageKind) (image : List ℕ) (heaps : List (Option ℕ)) → CanSeal s actor frame kind image heaps
    → OnTurn s.turns frame (λ t. IsSomeAnd t.turn.spare (λ f. length image ≡ length f.bytes.items))
can_seal s sound actor frame kind image heaps can =
    on_some (slice_get s.turns frame) (λ t. IsSomeAnd t.turn.spare (λ f. length f.bytes.items ≡ s.page)) (λ t. IsSomeAnd t.turn.spare (λ f. length image ≡ length f.bytes.items)) (spare_of s sound actor frame can.spare)
    (λ t there spare. on_some t.turn.spare (λ f. length f.bytes.items ≡ s.page) (λ f. length image ≡ length f.bytes.items) spare (λ f is long. can.whole ∙ sym long))
