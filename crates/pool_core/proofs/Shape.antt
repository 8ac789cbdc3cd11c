-- The bytes of a page and the count of turns stay.
use Rattle.std.proofs.Common.{◌≡◌, ℕ, List, [], ◌∷◌, ◌++◌, length, Some, None, refl, ap, ◌∙◌}
use Rattle.std.specs.Prelude.{slice_get, slice_set, IsSomeAnd}
use Rattle.std.proofs.lemmas.List.{length-set}
use Rattle.page_body.specs.Bodies.{frame_of, installed, rested, killed}
use Rattle.evict_ring.specs.Lending.{frame_with}
use Rattle.pool_core.specs.declared.state.CoreTurn.{CoreTurn}
use Rattle.pool_core.specs.declared.state.CorePage.{CorePage}
use Rattle.pool_core.specs.declared.event.Event.{Event}
use Rattle.pool_core.specs.declared.event.Event.TheVariants.{Hand, Take, Give, Read, Leave, Claim, Put, Seal, Look}
use Rattle.pool_core.specs.declared.event.Change.{Change}
use Rattle.pool_core.specs.declared.event.Change.TheVariants.{Keep, Install, Rest, Rebase, Kill}
use Rattle.pool_core.specs.Readers.{without_one}
use Rattle.pool_core.specs.State.{State, OnTurn}
use Rattle.pool_core.specs.Effects.{with_turn, with_page, put, owned, spared, given_ticket, kept_of, new_page, marks_left, Changes, Acts}
use Rattle.pool_core.specs.Run.{Ran, IsRun}
use Rattle.pool_core.proofs.Lists.{some_of}

pub record SameShape (old new : State) : Type 0 where
  pub page : new.page ≡ old.page
  pub turns : length new.turns ≡ length old.turns

-- a state with the same turns, and one with a turn in place of another
same_turns : (old new : State) → new.page ≡ old.page → new.turns ≡ old.turns → SameShape old new
same_turns old new page turns = record { page = page; turns = ap length turns }

one_turn : (old new : State) (frame : ℕ) (t : CoreTurn) → new.page ≡ old.page → new.turns ≡ slice_set old.turns frame t → SameShape old new
one_turn old new frame t page turns = record { page = page; turns = ap length turns ∙ length-set old.turns frame t }

same_as : (old new mid : State) → new ≡ mid → mid.page ≡ old.page → mid.turns ≡ old.turns → SameShape old new
same_as old new mid e page turns = same_turns old new (ap (λ (x : State). x.page) e ∙ page) (ap (λ (x : State). x.turns) e ∙ turns)

turned : (old new mid : State) (frame : ℕ) (t : CoreTurn) → new ≡ with_turn mid frame t → mid.page ≡ old.page → mid.turns ≡ old.turns → SameShape old new
turned old new mid frame t e page turns =
    one_turn old new frame t (ap (λ (x : State). x.page) e ∙ page) (ap (λ (x : State). x.turns) e ∙ ap (λ ts. slice_set ts frame t) turns)

change_shape : (s : State) (page : ℕ) (p : CorePage) (change : Change) (new : State) → Changes s page p change new → SameShape s new
change_shape s page p Keep new acts = same_as s new (with_page s page (put p p.body)) acts refl refl
change_shape s page p (Install frame) new acts =
    let turn = some_of (slice_get s.turns frame) (λ t. IsSomeAnd t.turn.spare (λ f. IsSomeAnd (kept_of p.body) (λ image. new ≡ with_turn (with_page s page (put p (installed p.body (frame_with f image)))) frame (owned t page)))) acts in
    let spare = some_of turn.0.turn.spare (λ f. IsSomeAnd (kept_of p.body) (λ image. new ≡ with_turn (with_page s page (put p (installed p.body (frame_with f image)))) frame (owned turn.0 page))) turn.2 in
    let kept = some_of (kept_of p.body) (λ image. new ≡ with_turn (with_page s page (put p (installed p.body (frame_with spare.0 image)))) frame (owned turn.0 page)) spare.2 in
    turned s new (with_page s page (put p (installed p.body (frame_with spare.0 kept.0)))) frame (owned turn.0 page) kept.2 refl refl
change_shape s page p Rest new acts =
    let some = some_of (frame_of p.body) (λ f. OnTurn s.turns f.number (λ t. new ≡ with_turn (with_page s page (put p (rested p.body (given_ticket page p.body)))) f.number (spared t f))) acts in
    let turn = some_of (slice_get s.turns some.0.number) (λ t. new ≡ with_turn (with_page s page (put p (rested p.body (given_ticket page p.body)))) some.0.number (spared t some.0)) some.2 in
    turned s new (with_page s page (put p (rested p.body (given_ticket page p.body)))) some.0.number (spared turn.0 some.0) turn.2 refl refl
change_shape s page p (Rebase part base) new acts = same_as s new (with_page s page (put p acts.0)) acts.2 refl refl
change_shape s page p Kill new acts = same_as s new (with_page s page (put p (killed p.body))) acts refl refl

pub step_shape : (s : State) (event : Event) (new : State) → Acts s event new → SameShape s new
step_shape s (Hand actor) new acts = same_turns s new (ap (λ (x : State). x.page) acts) (ap (λ (x : State). x.turns) acts)
step_shape s (Take actor frame) new acts =
    let some = some_of (slice_get s.turns frame) (λ t. new ≡ with_turn s frame (record t { out = Some actor })) acts in
    turned s new s frame (record some.0 { out = Some actor }) some.2 refl refl
step_shape s (Give actor frame) new acts =
    let some = some_of (slice_get s.turns frame) (λ t. new ≡ with_turn s frame (record t { out = None })) acts in
    turned s new s frame (record some.0 { out = None }) some.2 refl refl
step_shape s (Read actor page) new acts =
    let some = some_of (slice_get s.pages page) (λ p. new ≡ with_page s page (record p { readers = p.readers ++ actor ∷ [] })) acts in
    same_as s new (with_page s page (record some.0 { readers = some.0.readers ++ actor ∷ [] })) some.2 refl refl
step_shape s (Leave actor page) new acts =
    let some = some_of (slice_get s.pages page) (λ p. let readers = without_one actor p.readers in let pages = slice_set s.pages page (record p { readers = readers }) in new ≡ record s { pages = pages; marks = marks_left pages actor page readers s.marks }) acts in
    same_turns s new (ap (λ (x : State). x.page) some.2) (ap (λ (x : State). x.turns) some.2)
step_shape s (Claim actor page) new acts =
    let some = some_of (slice_get s.pages page) (λ p. new ≡ with_page s page (record p { writer = Some actor })) acts in
    same_as s new (with_page s page (record some.0 { writer = Some actor })) some.2 refl refl
step_shape s (Put actor page change) new acts =
    let some = some_of (slice_get s.pages page) (λ p. Changes s page p change new) acts in
    change_shape s page some.0 change new some.2
step_shape s (Seal actor frame kind image heaps) new acts =
    let turn = some_of (slice_get s.turns frame) (λ t. IsSomeAnd t.turn.spare (λ f. new ≡ with_turn (record s { pages = s.pages ++ new_page kind image heaps f ∷ [] }) frame (owned t (length s.pages)))) acts in
    let spare = some_of turn.0.turn.spare (λ f. new ≡ with_turn (record s { pages = s.pages ++ new_page kind image heaps f ∷ [] }) frame (owned turn.0 (length s.pages))) turn.2 in
    turned s new (record s { pages = s.pages ++ new_page kind image heaps spare.0 ∷ [] }) frame (owned turn.0 (length s.pages)) spare.2 refl refl
step_shape s (Look actor page) new acts = same_turns s new (ap (λ (x : State). x.page) acts) (ap (λ (x : State). x.turns) acts)

ran_shape : (old new : State) (events : List Event) → Ran old events new → SameShape old new
ran_shape old new [] ran = same_turns old new (ap (λ (x : State). x.page) ran) (ap (λ (x : State). x.turns) ran)
ran_shape old new (event ∷ events) ran =
    let first = step_shape old event ran.0 ran.1.acts in
    let rest = ran_shape ran.0 new events ran.2 in
    record { page = rest.page ∙ first.page; turns = rest.turns ∙ first.turns }

pub run_shape : (bytes frames count : ℕ) (events : List Event) (s : State) → IsRun bytes frames count events s → (s.page ≡ bytes) × (length s.turns ≡ frames)
run_shape bytes frames count events s run =
    let same = ran_shape run.start s events run.ran in
    (same.page ∙ run.opened.page, same.turns ∙ run.opened.whole)
