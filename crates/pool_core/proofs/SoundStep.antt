-- What holds of a state holds after each event that it enables.
use Rattle.std.proofs.Common.{◌≡◌, ℕ, [], ◌∷◌, ◌++◌, length, Option, Some, None, refl, sym, ap, subst}
use Rattle.std.specs.Prelude.{slice_get, slice_set, IsSomeAnd, is_some, Result, Ok, Err, OnOk, OnErr}
use Rattle.std.proofs.lemmas.List.Elements.{Contains-append_left}
use Rattle.page_body.specs.declared.body.PageBody.{PageBody}
use Rattle.page_body.specs.Bodies.{frame_of, installed, rested, killed}
use Rattle.evict_ring.specs.Lending.{frame_with}
use Rattle.pool_core.specs.declared.state.CoreTurn.{CoreTurn}
use Rattle.pool_core.specs.declared.state.CorePage.{CorePage}
use Rattle.pool_core.specs.declared.event.Event.{Event}
use Rattle.pool_core.specs.declared.event.Event.TheVariants.{Hand, Take, Give, Read, Leave, Claim, Put, Seal, Look}
use Rattle.pool_core.specs.declared.event.Change.{Change}
use Rattle.pool_core.specs.declared.event.Change.TheVariants.{Keep, Install, Rest, Rebase, Kill}
use Rattle.pool_core.specs.Readers.{without_one}
use Rattle.pool_core.specs.State.{State, OnTurn, content_of}
use Rattle.pool_core.specs.Enabled.{Enabled, CanChange, CanLook}
use Rattle.pool_core.specs.Effects.{with_turn, with_page, put, owned, spared, given_ticket, kept_of, new_page, marks_left, Changes, Acts}
use Rattle.pool_core.specs.Sound.{Sound}
use Rattle.pool_core.proofs.Lists.{puts_set, of_some, some_of}
use Rattle.pool_core.proofs.Frames.{KeepsFrame, turns_out, pages_out}
use Rattle.pool_core.proofs.Ready.{kept_long}
use Rattle.pool_core.proofs.Bodies.{BodyStands, same_frame, killed_frame, killed_stands, rebased_frame, rebased_stands}
use Rattle.pool_core.proofs.Marks.{more_stays, unread_stays, marks_kept, marks_more, marks_after}
use Rattle.pool_core.proofs.SoundParts.{changed, page_changed, stands_claimed, stands_put, unread_of}
use Rattle.pool_core.proofs.SoundMoves.{install_sound, rest_sound, seal_sound}

hand_sound : (s : State) (hand : ℕ) → Sound s → Sound (record s { hand = hand })
hand_sound s hand sound = record { page = sound.page; turns = sound.turns; pages = sound.pages; stand = sound.stand; heaps = sound.heaps; marks = sound.marks }

turn_sound : (s : State) (frame : ℕ) (t : CoreTurn) (out : Option ℕ) → Sound s → slice_get s.turns frame ≡ Some t → Sound (with_turn s frame (record t { out = out }))
turn_sound s frame t out sound e =
    let put = puts_set s.turns frame t (record t { out = out }) e in
    let turns = slice_set s.turns frame (record t { out = out }) in
    record {
      page = sound.page;
      turns = turns_out s.page s.turns turns s.pages frame t out sound.turns e put;
      pages = pages_out s.page s.turns turns s.pages frame t out sound.pages e put;
      stand = sound.stand;
      heaps = sound.heaps;
      marks = sound.marks;
    }

read_sound : (s : State) (actor page : ℕ) (p : CorePage) → Sound s → slice_get s.pages page ≡ Some p → p.writer ≡ None → Sound (with_page s page (record p { readers = p.readers ++ actor ∷ [] }))
read_sound s actor page p sound e free =
    let readers = p.readers ++ actor ∷ [] in
    let p' = changed p p.body readers p.writer in
    let put = puts_set s.pages page p p' e in
    page_changed s sound page p p.body readers p.writer s.marks e (same_frame p.body)
    (stands_claimed s.page p readers p.writer (sound.stand page p e) (λ some. absurd (let h : ⊥ = (let w : is_some p.writer ≡ _ = ap is_some free in cc) in h)))
    (marks_kept s.page s.pages (slice_set s.pages page p') s.marks sound.marks (more_stays s.pages (slice_set s.pages page p') page p readers p.writer e put (λ other has. Contains-append_left p.readers (actor ∷ []) other has)))

leave_sound : (s : State) (actor page : ℕ) (p : CorePage) → Sound s → slice_get s.pages page ≡ Some p
    → (let readers = without_one actor p.readers in let pages = slice_set s.pages page (record p { readers = readers }) in
    Sound (record s { pages = pages; marks = marks_left pages actor page readers s.marks }))
leave_sound s actor page p sound e =
    let readers = without_one actor p.readers in
    let p' = changed p p.body readers p.writer in
    let new = slice_set s.pages page p' in
    page_changed s sound page p p.body readers p.writer (marks_left new actor page readers s.marks) e (same_frame p.body)
    (stands_claimed s.page p readers p.writer (sound.stand page p e) (λ some. ap (without_one actor) ((sound.stand page p e).claimed some)))
    (marks_after s.page s.pages new page actor p s.marks e (puts_set s.pages page p p' e) sound.marks)

claim_sound : (s : State) (actor page : ℕ) (p : CorePage) → Sound s → slice_get s.pages page ≡ Some p → p.readers ≡ [] → Sound (with_page s page (record p { writer = Some actor }))
claim_sound s actor page p sound e unread =
    let p' = changed p p.body p.readers (Some actor) in
    let new = slice_set s.pages page p' in
    page_changed s sound page p p.body p.readers (Some actor) s.marks e (same_frame p.body)
    (stands_claimed s.page p p.readers (Some actor) (sound.stand page p e) (λ some. unread))
    (marks_kept s.page s.pages new s.marks sound.marks (more_stays s.pages new page p p.readers (Some actor) e (puts_set s.pages page p p' e) (λ other has. has)))

-- a writer puts a body in the same frame
put_sound : (s : State) (actor page : ℕ) (p : CorePage) (body : PageBody) → Sound s → slice_get s.pages page ≡ Some p → p.writer ≡ Some actor → KeepsFrame p.body body
    → BodyStands s.page p.kind (content_of p) body → Sound (with_page s page (put p body))
put_sound s actor page p body sound e writer keeps stands =
    let p' = put p body in
    let new = slice_set s.pages page p' in
    page_changed s sound page p body p.readers None s.marks e keeps (stands_put s.page p body (sound.stand page p e) stands)
    (marks_kept s.page s.pages new s.marks sound.marks (unread_stays s.pages new page p' (puts_set s.pages page p p' e) (unread_of s.page actor s.pages page p sound.stand e writer)))

change_sound : (s : State) (actor page : ℕ) (p : CorePage) (change : Change) (new : State) → Sound s → slice_get s.pages page ≡ Some p → p.writer ≡ Some actor → CanChange s.page s.turns actor p change → Changes s page p change new → Sound new
change_sound s actor page p Keep new sound e writer can acts =
    let h = sound.stand page p e in
    subst Sound (sym acts) (put_sound s actor page p p.body sound e writer (same_frame p.body) (record { stands = h.stands; kept = h.kept }))
change_sound s actor page p (Install frame) new sound e writer can acts =
    let turn = some_of (slice_get s.turns frame) (λ t. IsSomeAnd t.turn.spare (λ f. IsSomeAnd (kept_of p.body) (λ image. new ≡ with_turn (with_page s page (put p (installed p.body (frame_with f image)))) frame (owned t page)))) acts in
    let t = turn.0 in
    let spare = some_of t.turn.spare (λ f. IsSomeAnd (kept_of p.body) (λ image. new ≡ with_turn (with_page s page (put p (installed p.body (frame_with f image)))) frame (owned t page))) turn.2 in
    let f = spare.0 in
    let kept = some_of (kept_of p.body) (λ image. new ≡ with_turn (with_page s page (put p (installed p.body (frame_with f image)))) frame (owned t page)) spare.2 in
    let long = of_some (kept_of p.body) (λ image. length image ≡ s.page) kept.0 kept.1 (kept_long s.page p p.body (sound.stand page p e) refl can.0).1 in
    subst Sound (sym kept.2) (install_sound s sound page frame actor p t f kept.0 e writer turn.1 spare.1 kept.1 long)
change_sound s actor page p Rest new sound e writer can acts =
    let some = some_of (frame_of p.body) (λ f. OnTurn s.turns f.number (λ t. new ≡ with_turn (with_page s page (put p (rested p.body (given_ticket page p.body)))) f.number (spared t f))) acts in
    let f = some.0 in
    let turn = some_of (slice_get s.turns f.number) (λ t. new ≡ with_turn (with_page s page (put p (rested p.body (given_ticket page p.body)))) f.number (spared t f)) some.2 in
    subst Sound (sym turn.2) (rest_sound s sound page actor p turn.0 f e writer some.1 turn.1)
change_sound s actor page p (Rebase part base) new sound e writer can acts =
    let h = sound.stand page p e in
    subst Sound (sym acts.2) (put_sound s actor page p acts.0 sound e writer (rebased_frame p.kind part base p.body acts.0 acts.1)
    (rebased_stands s.page p.kind part base (content_of p) p.body acts.0 acts.1 (record { stands = h.stands; kept = h.kept })))
change_sound s actor page p Kill new sound e writer can acts =
    subst Sound (sym acts) (put_sound s actor page p (killed p.body) sound e writer (killed_frame p.body) (killed_stands s.page p.kind (content_of p) p.body))

look_sound : (s : State) (actor page : ℕ) → Sound s → CanLook s.page s.pages actor page → Sound (record s { marks = s.marks ++ record { actor = actor; page = page } ∷ [] })
look_sound s actor page sound look = record {
  page = sound.page;
  turns = sound.turns;
  pages = sound.pages;
  stand = sound.stand;
  heaps = sound.heaps;
  marks = marks_more s.page s.pages s.marks (record { actor = actor; page = page }) sound.marks look;
}

-- each event
pub sound_step : (s : State) (event : Event) (new : State) → Sound s → Enabled s event → Acts s event new → Sound new
sound_step s (Hand actor) new sound enabled acts = subst Sound (sym acts) (hand_sound s _ sound)
sound_step s (Take actor frame) new sound enabled acts =
    let some = some_of (slice_get s.turns frame) (λ t. new ≡ with_turn s frame (record t { out = Some actor })) acts in
    subst Sound (sym some.2) (turn_sound s frame some.0 (Some actor) sound some.1)
sound_step s (Give actor frame) new sound enabled acts =
    let some = some_of (slice_get s.turns frame) (λ t. new ≡ with_turn s frame (record t { out = None })) acts in
    subst Sound (sym some.2) (turn_sound s frame some.0 None sound some.1)
sound_step s (Read actor page) new sound enabled acts =
    let some = some_of (slice_get s.pages page) (λ p. new ≡ with_page s page (record p { readers = p.readers ++ actor ∷ [] })) acts in
    subst Sound (sym some.2) (read_sound s actor page some.0 sound some.1 (of_some (slice_get s.pages page) (λ p. p.writer ≡ None) some.0 some.1 enabled.1))
sound_step s (Leave actor page) new sound enabled acts =
    let some = some_of (slice_get s.pages page) (λ p. let readers = without_one actor p.readers in let pages = slice_set s.pages page (record p { readers = readers }) in new ≡ record s { pages = pages; marks = marks_left pages actor page readers s.marks }) acts in
    subst Sound (sym some.2) (leave_sound s actor page some.0 sound some.1)
sound_step s (Claim actor page) new sound enabled acts =
    let some = some_of (slice_get s.pages page) (λ p. new ≡ with_page s page (record p { writer = Some actor })) acts in
    subst Sound (sym some.2) (claim_sound s actor page some.0 sound some.1 (of_some (slice_get s.pages page) (λ p. (p.readers ≡ []) × (p.writer ≡ None)) some.0 some.1 enabled.1).0)
sound_step s (Put actor page change) new sound enabled acts =
    let some = some_of (slice_get s.pages page) (λ p. Changes s page p change new) acts in
    let can = of_some (slice_get s.pages page) (λ p. (p.writer ≡ Some actor) × CanChange s.page s.turns actor p change) some.0 some.1 enabled.1 in
    change_sound s actor page some.0 change new sound some.1 can.0 can.1 some.2
sound_step s (Seal actor frame kind image heaps) new sound enabled acts =
    let turn = some_of (slice_get s.turns frame) (λ t. IsSomeAnd t.turn.spare (λ f. new ≡ with_turn (record s { pages = s.pages ++ new_page kind image heaps f ∷ [] }) frame (owned t (length s.pages)))) acts in
    let spare = some_of turn.0.turn.spare (λ f. new ≡ with_turn (record s { pages = s.pages ++ new_page kind image heaps f ∷ [] }) frame (owned turn.0 (length s.pages))) turn.2 in
    subst Sound (sym spare.2) (seal_sound s sound actor frame kind image heaps turn.0 spare.0 enabled.1 turn.1 spare.1)
sound_step s (Look actor page) new sound enabled acts = subst Sound (sym acts) (look_sound s actor page sound enabled.1)

-- a step that acts, or leaves the state as it was
pub sound_after : {T E : Type 0} (r : Result T E) (old new : State) (event : Event) → Sound old → Enabled old event → OnOk r (Acts old event new) → OnErr r (new ≡ old) → Sound new
sound_after (Ok x) old new event sound enabled acts same = sound_step old event new sound enabled acts
sound_after (Err e) old new event sound enabled acts same = subst Sound (sym same) sound
