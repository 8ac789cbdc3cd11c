-- A page that is read keeps its body.
use Rattle.std.proofs.Common.{◌≡◌, ◌≢◌, ℕ, List, [], ◌∷◌, ◌++◌, length, Option, Some, None, refl, sym, ap, subst, ◌∙◌, inl, inr, arith}
use Rattle.std.specs.Prelude.{slice_get, slice_set, IsSomeAnd, is_some}
use Rattle.std.proofs.lemmas.Bool.{cases_eq}
use Rattle.std.proofs.lemmas.Option.{slice_get_within}
use Rattle.page_body.specs.Bodies.{frame_of, installed, rested, killed}
use Rattle.evict_ring.specs.Lending.{frame_with}
use Rattle.pool_core.specs.declared.state.CorePage.{CorePage}
use Rattle.pool_core.specs.declared.event.Event.{Event}
use Rattle.pool_core.specs.declared.event.Event.TheVariants.{Hand, Take, Give, Read, Leave, Claim, Put, Seal, Look}
use Rattle.pool_core.specs.declared.event.Change.{Change}
use Rattle.pool_core.specs.declared.event.Change.TheVariants.{Keep, Install, Rest, Rebase, Kill}
use Rattle.pool_core.specs.Readers.{without_one}
use Rattle.pool_core.specs.State.{State, OnPage, OnTurn}
use Rattle.pool_core.specs.Enabled.{Enabled, CanChange}
use Rattle.pool_core.specs.Effects.{with_turn, with_page, put, owned, spared, given_ticket, kept_of, new_page, marks_left, Changes, Acts}
use Rattle.pool_core.specs.Sound.{AllStand, Sound}
use Rattle.pool_core.specs.Laws.{IsSamePage, KeepsRead, RanRead}
use Rattle.pool_core.proofs.Lists.{Puts, puts_set, puts_push, at_some, of_some, some_of, same_at}
use Rattle.pool_core.proofs.SoundParts.{changed}
use Rattle.pool_core.proofs.SoundStep.{sound_step}

same_page : (p : CorePage) → IsSamePage p p
same_page p = record { kind = refl; content = refl; heaps = refl; body = refl }

then_same : (p q r : CorePage) → IsSamePage p q → IsSamePage q r → IsSamePage p r
then_same p q r a b = record { kind = b.kind ∙ a.kind; content = b.content ∙ a.content; heaps = b.heaps ∙ a.heaps; body = b.body ∙ a.body }

all_same : (pages : List CorePage) → KeepsRead pages pages
all_same pages page p there read = at_some (slice_get pages page) (λ q. IsSamePage p q) p there (same_page p)

-- other claims at a page
claims_same : (old new : List CorePage) (place : ℕ) (p : CorePage) (readers : List ℕ) (writer : Option ℕ) → slice_get old place ≡ Some p → Puts old new place (changed p p.body readers writer) → KeepsRead old new
claims_same old new place p readers writer e put page x there read =
    let P : CorePage → Type 0 = λ q. IsSamePage x q in
    elim (cases_eq page place) [
      | inl same ↦
          let is : p ≡ x = same_at (slice_get old place) p x e (ap (slice_get old) (sym same) ∙ there) in
          at_some (slice_get new page) P (changed p p.body readers writer) (ap (slice_get new) same ∙ put.there)
          (let Q : CorePage → Type 0 = λ y. IsSamePage y (changed p p.body readers writer) in subst Q is (record { kind = refl; content = refl; heaps = refl; body = refl }))
      | inr ne ↦ at_some (slice_get new page) P x (put.others page ne ∙ there) (same_page x)
    ]

-- a page that nobody reads changes, or comes in
unread_same : (old new : List CorePage) (place : ℕ) (p' : CorePage) → Puts old new place p' → ((x : CorePage) → slice_get old place ≡ Some x → x.readers ≡ []) → KeepsRead old new
unread_same old new place p' put unread page x there read =
    elim (cases_eq page place) [
      | inl same ↦ absurd (read (unread x (ap (slice_get old) (sym same) ∙ there)))
      | inr ne ↦ at_some (slice_get new page) (λ q. IsSamePage x q) x (put.others page ne ∙ there) (same_page x)
    ]

written_same : (bytes actor : ℕ) (pages : List CorePage) (page : ℕ) (p p' : CorePage) → AllStand bytes pages → slice_get pages page ≡ Some p → p.writer ≡ Some actor → KeepsRead pages (slice_set pages page p')
written_same bytes actor pages page p p' stand e writer =
    unread_same pages (slice_set pages page p') page p' (puts_set pages page p p' e)
    (λ x there. let P : CorePage → Type 0 = λ y. y.readers ≡ [] in subst P (same_at (slice_get pages page) p x e there) ((stand page p e).claimed (ap is_some writer)))

pages_of : (old new : State) (pages : List CorePage) → new.pages ≡ pages → KeepsRead old.pages pages → KeepsRead old.pages new.pages
pages_of old new pages e keeps = let P : List CorePage → Type 0 = λ ps. KeepsRead old.pages ps in subst P (sym e) keeps

change_same : (s : State) (actor page : ℕ) (p : CorePage) (change : Change) (new : State) → Sound s → slice_get s.pages page ≡ Some p → p.writer ≡ Some actor → Changes s page p change new → KeepsRead s.pages new.pages
change_same s actor page p Keep new sound e writer acts =
    let q = put p p.body in pages_of s new (slice_set s.pages page q) (ap (λ (x : State). x.pages) acts) (written_same s.page actor s.pages page p q sound.stand e writer)
change_same s actor page p (Install frame) new sound e writer acts =
    let turn = some_of (slice_get s.turns frame) (λ t. IsSomeAnd t.turn.spare (λ f. IsSomeAnd (kept_of p.body) (λ image. new ≡ with_turn (with_page s page (put p (installed p.body (frame_with f image)))) frame (owned t page)))) acts in
    let spare = some_of turn.0.turn.spare (λ f. IsSomeAnd (kept_of p.body) (λ image. new ≡ with_turn (with_page s page (put p (installed p.body (frame_with f image)))) frame (owned turn.0 page))) turn.2 in
    let kept = some_of (kept_of p.body) (λ image. new ≡ with_turn (with_page s page (put p (installed p.body (frame_with spare.0 image)))) frame (owned turn.0 page)) spare.2 in
    let q = put p (installed p.body (frame_with spare.0 kept.0)) in
    pages_of s new (slice_set s.pages page q) (ap (λ (x : State). x.pages) kept.2) (written_same s.page actor s.pages page p q sound.stand e writer)
change_same s actor page p Rest new sound e writer acts =
    let some = some_of (frame_of p.body) (λ f. OnTurn s.turns f.number (λ t. new ≡ with_turn (with_page s page (put p (rested p.body (given_ticket page p.body)))) f.number (spared t f))) acts in
    let turn = some_of (slice_get s.turns some.0.number) (λ t. new ≡ with_turn (with_page s page (put p (rested p.body (given_ticket page p.body)))) some.0.number (spared t some.0)) some.2 in
    let q = put p (rested p.body (given_ticket page p.body)) in
    pages_of s new (slice_set s.pages page q) (ap (λ (x : State). x.pages) turn.2) (written_same s.page actor s.pages page p q sound.stand e writer)
change_same s actor page p (Rebase part base) new sound e writer acts =
    let q = put p acts.0 in pages_of s new (slice_set s.pages page q) (ap (λ (x : State). x.pages) acts.2) (written_same s.page actor s.pages page p q sound.stand e writer)
change_same s actor page p Kill new sound e writer acts =
    let q = put p (killed p.body) in pages_of s new (slice_set s.pages page q) (ap (λ (x : State). x.pages) acts) (written_same s.page actor s.pages page p q sound.stand e writer)

-- a page that is read is the same after each event
pub step_same : (s : State) (event : Event) (new : State) → Sound s → Enabled s event → Acts s event new → KeepsRead s.pages new.pages
step_same s (Hand actor) new sound enabled acts = pages_of s new s.pages (ap (λ (x : State). x.pages) acts) (all_same s.pages)
step_same s (Take actor frame) new sound enabled acts =
    let some = some_of (slice_get s.turns frame) (λ t. new ≡ with_turn s frame (record t { out = Some actor })) acts in
    pages_of s new s.pages (ap (λ (x : State). x.pages) some.2) (all_same s.pages)
step_same s (Give actor frame) new sound enabled acts =
    let some = some_of (slice_get s.turns frame) (λ t. new ≡ with_turn s frame (record t { out = None })) acts in
    pages_of s new s.pages (ap (λ (x : State). x.pages) some.2) (all_same s.pages)
step_same s (Read actor page) new sound enabled acts =
    let some = some_of (slice_get s.pages page) (λ p. new ≡ with_page s page (record p { readers = p.readers ++ actor ∷ [] })) acts in
    let p = some.0 in
    let q = changed p p.body (p.readers ++ actor ∷ []) p.writer in
    pages_of s new (slice_set s.pages page q) (ap (λ (x : State). x.pages) some.2) (claims_same s.pages (slice_set s.pages page q) page p (p.readers ++ actor ∷ []) p.writer some.1 (puts_set s.pages page p q some.1))
step_same s (Leave actor page) new sound enabled acts =
    let some = some_of (slice_get s.pages page) (λ p. let readers = without_one actor p.readers in let pages = slice_set s.pages page (record p { readers = readers }) in new ≡ record s { pages = pages; marks = marks_left pages actor page readers s.marks }) acts in
    let p = some.0 in
    let q = changed p p.body (without_one actor p.readers) p.writer in
    pages_of s new (slice_set s.pages page q) (ap (λ (x : State). x.pages) some.2) (claims_same s.pages (slice_set s.pages page q) page p (without_one actor p.readers) p.writer some.1 (puts_set s.pages page p q some.1))
step_same s (Claim actor page) new sound enabled acts =
    let some = some_of (slice_get s.pages page) (λ p. new ≡ with_page s page (record p { writer = Some actor })) acts in
    let p = some.0 in
    let q = changed p p.body p.readers (Some actor) in
    pages_of s new (slice_set s.pages page q) (ap (λ (x : State). x.pages) some.2) (claims_same s.pages (slice_set s.pages page q) page p p.readers (Some actor) some.1 (puts_set s.pages page p q some.1))
step_same s (Put actor page change) new sound enabled acts =
    let some = some_of (slice_get s.pages page) (λ p. Changes s page p change new) acts in
    let can = of_some (slice_get s.pages page) (λ p. (p.writer ≡ Some actor) × CanChange s.page s.turns actor p change) some.0 some.1 enabled.1 in
    change_same s actor page some.0 change new sound some.1 can.0 some.2
step_same s (Seal actor frame kind image heaps) new sound enabled acts =
    let turn = some_of (slice_get s.turns frame) (λ t. IsSomeAnd t.turn.spare (λ f. new ≡ with_turn (record s { pages = s.pages ++ new_page kind image heaps f ∷ [] }) frame (owned t (length s.pages)))) acts in
    let spare = some_of turn.0.turn.spare (λ f. new ≡ with_turn (record s { pages = s.pages ++ new_page kind image heaps f ∷ [] }) frame (owned turn.0 (length s.pages))) turn.2 in
    let q = new_page kind image heaps spare.0 in
    pages_of s new (s.pages ++ q ∷ []) (ap (λ (x : State). x.pages) spare.2)
    (unread_same s.pages (s.pages ++ q ∷ []) (length s.pages) q (puts_push s.pages q) (λ x there. absurd (let inside = slice_get_within s.pages (length s.pages) x there in omega arith)))
step_same s (Look actor page) new sound enabled acts = pages_of s new s.pages (ap (λ (x : State). x.pages) acts) (all_same s.pages)

-- and after a run on the way of which it is read
pub run_same : (page : ℕ) (old new : State) (events : List Event) (p : CorePage) → Sound old → RanRead page old events new → slice_get old.pages page ≡ Some p → OnPage new.pages page (λ q. IsSamePage p q)
run_same page old new [] p sound ran there =
    let P : State → Type 0 = λ s. OnPage s.pages page (λ q. IsSamePage p q) in
    subst P (sym ran) (at_some (slice_get old.pages page) (λ q. IsSamePage p q) p there (same_page p))
run_same page old new (event ∷ events) p sound ran there =
    let mid = ran.1.0 in
    let steps = ran.1.1 in
    let read = of_some (slice_get old.pages page) (λ p. p.readers ≢ []) p there ran.0 in
    let next = some_of (slice_get mid.pages page) (λ q. IsSamePage p q) (step_same old event mid sound steps.enabled steps.acts page p there read) in
    let last = some_of (slice_get new.pages page) (λ r. IsSamePage next.0 r) (run_same page mid new events next.0 (sound_step old event mid sound steps.enabled steps.acts) ran.1.2 next.1) in
    at_some (slice_get new.pages page) (λ r. IsSamePage p r) last.0 last.1 (then_same p next.0 last.0 next.2 last.2)
