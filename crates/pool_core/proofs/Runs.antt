-- Runs, one event after another.
use Rattle.std.proofs.Common.{◌≡◌, ℕ, ◌<◌, ◌+◌, List, [], ◌∷◌, ◌++◌, length, take, inl, inr, Option, Some, None, refl, sym, ap, subst, ◌∙◌, arith}
use Rattle.std.specs.Prelude.{slice_get, IsSomeAnd}
use Rattle.std.proofs.lemmas.Option.{slice_get_within}
use Rattle.std.specs.List.{Contains}
use Rattle.evict_ring.specs.declared.frame.Frame.{Frame}
use Rattle.row_image.specs.Bytes.{IsPage}
use Rattle.pool_core.specs.declared.event.Event.{Event}
use Rattle.pool_core.specs.declared.state.Mark.{Mark}
use Rattle.pool_core.proofs.Contained.{nothing_in}
use Rattle.pool_core.specs.declared.state.CoreTurn.{CoreTurn}
use Rattle.pool_core.specs.declared.state.CorePage.{CorePage}
use Rattle.pool_core.specs.State.{State, OnTurn}
use Rattle.std.proofs.lemmas.Bool.{cases_eq}
use Rattle.pool_core.specs.Enabled.{Enabled}
use Rattle.pool_core.specs.Run.{IsNewTurn, Opened, Steps, Ran, IsRun}
use Rattle.pool_core.specs.Sound.{FrameLies, Sound}
use Rattle.pool_core.proofs.Lists.{puts_push, at_some, of_some, some_of}
use Rattle.pool_core.proofs.SoundStep.{sound_step}

-- one more event
pub ran_more : (old mid new : State) (events : List Event) (event : Event) → Ran old events mid → Steps mid event new → Ran old (events ++ event ∷ []) new
ran_more old mid new [] event ran steps = let P : State → Type 0 = λ s. Steps s event new in (new, subst P ran steps, refl)
ran_more old mid new (e ∷ es) event ran steps = (ran.0, ran.1, ran_more ran.0 mid new es event ran.2 steps)

-- what holds of a state, and after each event of a sound state, holds after a run
pub ran_sound : (old new : State) (events : List Event) → Sound old → Ran old events new → Sound new
ran_sound old new [] sound ran = subst Sound (sym ran) sound
ran_sound old new (event ∷ events) sound ran = ran_sound ran.0 new events (sound_step old event ran.0 sound ran.1.enabled ran.1.acts) ran.2

nothing_at : {A : Type 0} (xs : List A) (k : ℕ) (x : A) → xs ≡ [] → slice_get xs k ≡ Some x → ⊥
nothing_at xs k x e there = let none : slice_get xs k ≡ None = ap (λ ys. slice_get ys k) e in cc

new_turn_lies : (bytes frame : ℕ) (pages : List CorePage) (t : CoreTurn) → IsNewTurn bytes frame t → (t.turn.frame ≡ frame) × FrameLies bytes pages frame t.turn.spare t.turn.owner
new_turn_lies bytes frame pages t h =
    let some = some_of t.turn.spare (λ f. (f.number ≡ frame) × (length f.bytes.items ≡ bytes)) h.3 in
    let P : Option Frame → Type 0 = λ spare. FrameLies bytes pages frame spare t.turn.owner in
    (h.1, subst P (sym some.1) (some.2.0, some.2.1, h.2))

-- the state in which a core begins
pub opened_sound : (bytes frames count : ℕ) (s : State) → Opened bytes frames count s → Sound s
opened_sound bytes frames count s opened = record {
  page = subst IsPage (sym opened.page) opened.sized;
  turns = λ frame t there.
      let low : frame < frames = (let h = slice_get_within s.turns frame t there in let whole = opened.whole in omega arith) in
      let P : ℕ → Type 0 = λ n. (t.turn.frame ≡ frame) × FrameLies n s.pages frame t.turn.spare t.turn.owner in
      subst P (sym opened.page) (new_turn_lies bytes frame s.pages t (of_some (slice_get s.turns frame) (λ t. IsNewTurn bytes frame t) t there (opened.turns frame low)));
  pages = λ page p there. absurd (nothing_at s.pages page p opened.pages there);
  stand = λ page p there. absurd (nothing_at s.pages page p opened.pages there);
  heaps = λ page p there. absurd (nothing_at s.pages page p opened.pages there);
  marks = λ mark has. absurd (let P : List Mark → Type 0 = λ ms. Contains ms mark in nothing_in mark (subst P opened.marks has));
}

pub run_sound : (bytes frames count : ℕ) (events : List Event) (s : State) → IsRun bytes frames count events s → Sound s
run_sound bytes frames count events s run = ran_sound run.start s events (opened_sound bytes frames count run.start run.opened) run.ran

front_of : {A : Type 0} (ys : List A) (y : A) (rest : List A) → take (length ys) (ys ++ y ∷ rest) ≡ ys
front_of [] y rest = refl
front_of (x ∷ xs) y rest = ap (λ zs. x ∷ zs) (front_of xs y rest)

next_of : {A : Type 0} (ys : List A) (y : A) (rest : List A) → slice_get (ys ++ y ∷ rest) (length ys) ≡ Some y
next_of [] y rest = refl
next_of (x ∷ xs) y rest = next_of xs y rest

-- the events before a place
pub ran_front : (old new : State) (events ys : List Event) (event : Event) (rest : List Event) (k : ℕ) → ys ++ event ∷ rest ≡ events → k ≡ length ys → Ran old ys new → Ran old (take k events) new
ran_front old new events ys event rest k whole count ran =
    let P : List Event → Type 0 = λ es. Ran old es new in
    let e : take k events ≡ ys = ap (λ n. take n events) count ∙ ap (take (length ys)) (sym whole) ∙ front_of ys event rest in
    subst P (sym e) ran

pub event_there : (events ys : List Event) (event : Event) (rest : List Event) (k : ℕ) → ys ++ event ∷ rest ≡ events → k ≡ length ys → slice_get events k ≡ Some event
event_there events ys event rest k whole count = ap (slice_get events) count ∙ ap (λ es. slice_get es (length ys)) (sym whole) ∙ next_of ys event rest

pub stopped_at : (old new : State) (events ys : List Event) (event : Event) (rest : List Event) (k : ℕ) → ys ++ event ∷ rest ≡ events → k ≡ length ys → Ran old ys new → (Enabled new event → ⊥)
    → Ran old (take k events) new × IsSomeAnd (slice_get events k) (λ event. Enabled new event → ⊥)
stopped_at old new events ys event rest k whole count ran none = (
  ran_front old new events ys event rest k whole count ran,
  at_some (slice_get events k) (λ event. Enabled new event → ⊥) event (event_there events ys event rest k whole count) none,
)

pub short_of_memory : (old mid new : State) (events ys : List Event) (event : Event) (rest : List Event) (k : ℕ) → ys ++ event ∷ rest ≡ events → k ≡ length ys → Ran old ys mid → new ≡ mid
    → (n : ℕ) × (n < length events) × Ran old (take n events) new
short_of_memory old mid new events ys event rest k whole count ran same =
    let P : State → Type 0 = λ s. Ran old (take k events) s in
    (k, slice_get_within events k event (event_there events ys event rest k whole count), subst P (sym same) (ran_front old mid events ys event rest k whole count ran))

-- the turns of the first frames
pub turns_more : (bytes : ℕ) (turns turns' : List CoreTurn) (count : ℕ) (t : CoreTurn) → length turns ≡ count → turns' ≡ turns ++ t ∷ [] → IsNewTurn bytes count t
    → ((frame : ℕ) → frame < count → OnTurn turns frame (λ t. IsNewTurn bytes frame t)) → (frame : ℕ) → frame < count + 1 → OnTurn turns' frame (λ t. IsNewTurn bytes frame t)
turns_more bytes turns turns' count t long pushed is each frame low =
    let P : CoreTurn → Type 0 = λ t. IsNewTurn bytes frame t in
    let L : List CoreTurn → Type 0 = λ ts. OnTurn ts frame P in
    let put = puts_push turns t in
    subst L (sym pushed) (elim (cases_eq frame (length turns)) [
      | inl same ↦ at_some (slice_get (turns ++ t ∷ []) frame) P t (ap (slice_get (turns ++ t ∷ [])) same ∙ put.there)
          (let Q : ℕ → Type 0 = λ n. IsNewTurn bytes n t in subst Q (sym long ∙ sym same) is)
      | inr ne ↦ subst (λ o. IsSomeAnd o P) (sym (put.others frame ne)) (each frame (omega arith))
    ])
