-- A resident row page whose texts are moved.
use Rattle.std.proofs.Common.{◌≡◌, ℕ, ◌<◌, List, length, get_or, refl, sym, ap, ◌∙◌, subst, Some, Bool, true}
use Rattle.std.specs.Prelude.{slice_get, slice_set, slice_index, IsSome, IfSome}
use Rattle.std.proofs.lemmas.Option.{slice_get_within, slice_get_read}
use mathlib.Core.Logic.{dite}
use native.Mathlib.Decide.{ℕ_discrete}
use Rattle.evict_ring.specs.declared.frame.Frame.{Frame}
use Rattle.row_image.specs.declared.layout.CellKind.{CellKind}
use Rattle.row_image.specs.declared.image.ImageKind.TheVariants.{Rows}
use Rattle.row_image.specs.Image.{part_at, parts_of}
use Rattle.row_image.specs.Moves.{based}
use Rattle.row_image.specs.Rules.{IsAccepted}
use Rattle.page_body.specs.Bodies.{IsResident, image_of, IsRebased}
use Rattle.page_body.specs.Shows.{IsBased}
use Rattle.page_body.specs.Stands.{StandsFor}
use Rattle.page_body.specs.declared.body.PageBody.{PageBody}
use Rattle.page_body.specs.declared.body.PageBody.TheVariants.{Resident, Resting, Dead}
use Rattle.solo_pool.specs.declared.entry.Place.{Place}
use Rattle.solo_pool.specs.declared.entry.Place.TheVariants.{Owned}
use Rattle.solo_pool.specs.declared.entry.Entry.{Entry}
use Rattle.solo_pool.specs.declared.page.SoloPage.{SoloPage}
use Rattle.solo_pool.specs.Weights.{shown, is_alive}
use Rattle.solo_pool.specs.Moved.{number_in, IsMoved}
use Rattle.solo_pool.specs.State.{shown_in, frame_at, used_in, pins_at}
use Rattle.solo_pool.specs.Sound.{Sound}
use Rattle.solo_pool.specs.Turned.{Rebased}
use Rattle.solo_pool.specs.Views.{LiveAt, LiveIn, content_of}
use Rattle.solo_pool.specs.Sums.{get_set_same, get_set_other}
use Rattle.solo_pool.proofs.Local.{Local, local_sound, local_pins, local_live, local_valid}
use Rattle.solo_pool.specs.Writes.{Paid}
use Rattle.solo_pool.specs.Laws.{live_shown}
use Rattle.solo_pool.proofs.Paying.{paid_step, pays_same}
use Rattle.solo_pool.proofs.Live.{live_within, live_entry}

pub not_moved : (kinds : List CellKind) (b : PageBody) → IsResident b → IsAccepted (Rows kinds) (image_of b) → IsMoved kinds b b
not_moved kinds b resident accepted = record { resident = resident; number = refl; ticket = refl; long = refl; accepted = accepted; stands = λ told content st. st }

pub moved_then : (kinds : List CellKind) (a b c : PageBody) → IsMoved kinds a b → IsMoved kinds b c → IsMoved kinds a c
moved_then kinds a b c first second = record {
  resident = second.resident;
  number = second.number ∙ first.number;
  ticket = second.ticket ∙ first.ticket;
  long = second.long ∙ first.long;
  accepted = second.accepted;
  stands = λ told content st. second.stands told content (first.stands told content st);
}

pub rebased_moved : (kinds : List CellKind) (part base : ℕ) (old new : PageBody) → IsRebased kinds part base old new → ((told : Bool) (content : List ℕ) → StandsFor told (Rows kinds) content old → StandsFor told (Rows kinds) content new) → IsMoved kinds old new
rebased_moved kinds part base (Resident f t) (Resident g u) is st = record { resident = tt; number = ap Some is.0; ticket = is.1; long = is.2; accepted = is.3; stands = st }
rebased_moved kinds part base (Resident f t) (Resting u) is st = absurd is
rebased_moved kinds part base (Resident f t) (Dead u) is st = absurd is
rebased_moved kinds part base (Resting t) new is st = absurd is
rebased_moved kinds part base (Dead f) new is st = absurd is

pub rebased_parts : (kinds : List CellKind) (part base : ℕ) (old new : PageBody) → IsRebased kinds part base old new → parts_of (image_of new) ≡ slice_set (parts_of (image_of old)) part (based (part_at (image_of old) part) base)
rebased_parts kinds part base (Resident f t) (Resident g u) is = is.5
rebased_parts kinds part base (Resident f t) (Resting u) is = absurd is
rebased_parts kinds part base (Resident f t) (Dead u) is = absurd is
rebased_parts kinds part base (Resting t) new is = absurd is
rebased_parts kinds part base (Dead f) new is = absurd is

pub alive_resident : (b : PageBody) → IsResident b → is_alive b ≡ true
alive_resident (Resident f t) k = refl
alive_resident (Resting t) k = absurd k
alive_resident (Dead f) k = absurd k

-- the frame of a resident body, which is in two places named
frame_image : (b : PageBody) (f : Frame) → shown b ≡ Some f → image_of b ≡ f.bytes.items
frame_image (Resident g t) f k = let same : g ≡ f = cc k in ap (λ (z : Frame). z.bytes.items) same
frame_image (Resting t) f k = absurd (cc k)
frame_image (Dead g) f k = absurd (cc k)

pub resident_shown : (b : PageBody) → IsSome (shown b) → IsResident b
resident_shown (Resident f t) k = tt
resident_shown (Resting t) k = absurd (cc k)
resident_shown (Dead f) k = absurd (cc k)

shown_resident : (b : PageBody) → IsResident b → (f : Frame) × (shown b ≡ Some f)
shown_resident (Resident f t) k = (f, refl)
shown_resident (Resting t) k = absurd k
shown_resident (Dead f) k = absurd k

pub if_shown : (P : List ℕ → Type 0) (b : PageBody) → IsResident b → P (image_of b) → IfSome (shown b) (λ f. P f.bytes.items)
if_shown P (Resident f t) k p = p
if_shown P (Resting t) k p = absurd k
if_shown P (Dead f) k p = absurd k

module _ (told : Bool) (x page held : ℕ) (es : List Entry) (ps : List Place) (us : List ℕ) (s : Sound page es ps us held) (e e' : Entry) (at : slice_get es x ≡ Some e) where
  px : x < length es
  px = slice_get_within es x e at

  module _ (f f' : Frame) (was : shown e.body ≡ Some f) (now : shown e'.body ≡ Some f') (number : f'.number ≡ f.number) (long : length f'.bytes.items ≡ length f.bytes.items) where
    was_at : frame_at es x ≡ Some f
    was_at = ap shown_in at ∙ was

    now_at : frame_at (slice_set es x e') x ≡ Some f'
    now_at = ap shown_in (get_set_same es x e' px) ∙ now

    place : slice_get ps f.number ≡ Some (Owned x)
    place = s.owned x f was_at

    moved_local : Local x f.number page es (slice_set es x e') ps ps us us held
    moved_local = record {
      entries = λ y n. get_set_other es x y e' n;
      places = λ j n. refl;
      uses = λ j n. refl;
      owner = λ y o. cc place;
      owner' = λ y o. (cc place, ap number_in now_at ∙ ap Some number);
      from = λ g o. let k : f ≡ g = cc was_at in ap (λ (z : Frame). z.number) (sym k);
      to = λ g o. let k : f' ≡ g = cc now_at in (ap (λ (z : Frame). z.number) (sym k) ∙ number, place, ap (λ (z : Frame). length z.bytes.items) (sym k) ∙ long ∙ s.full x f was_at);
      spare' = λ g o. absurd (cc place);
      open' = λ o. absurd (cc place);
      total' = s.total;
      long' = s.long;
    }

    moved_here : e'.kind ≡ e.kind → e'.seal.value ≡ e.seal.value → is_alive e'.body ≡ true → ((content : List ℕ) → StandsFor told e.kind content e.body → StandsFor told e.kind content e'.body)
        → Rebased told x page es (slice_set es x e') ps us us held
    moved_here kind seal alive stands = let l = moved_local in record {
      sound = local_sound s l;
      pins = λ y. dite (ℕ_discrete y x)
          (λ k. subst (λ z. pins_at (slice_set es x e') us z ≡ pins_at es us z) (sym k) (ap (used_in us) now_at ∙ ap (slice_index us) number ∙ sym (ap (used_in us) was_at)))
          (λ n. local_pins s l y n);
      lives = λ p v. dite (ℕ_discrete p.at x)
          (λ k. let old : LiveIn told page p (Some e) = subst (λ z. LiveIn told page p z) (ap (slice_get es) k ∙ at) v in
          subst (λ z. LiveIn told page p z) (sym (ap (slice_get (slice_set es x e')) k ∙ get_set_same es x e' px))
          (record {
            seal = seal ∙ old.seal;
            kind = kind ∙ old.kind;
            alive = alive;
            long = old.long;
            stands = subst (λ z. StandsFor told z (content_of p) e'.body) old.kind (stands (content_of p) (subst (λ z. StandsFor told z (content_of p) e.body) (sym old.kind) old.stands));
          }))
          (λ n. local_live s l told p n v);
      valid = λ q v n. local_valid s l told q n v;
    }

  module _ (kinds : List CellKind) (resident : IsResident e.body) (kind : e.kind ≡ Rows kinds) (b' : PageBody) (moved : IsMoved kinds e.body b') (is : e' ≡ record { kind = e.kind; body = b'; seal = e.seal }) where
    pub moved_at : Rebased told x page es (slice_set es x e') ps us us held
    moved_at =
        let old = shown_resident e.body resident in
        let new = shown_resident b' moved.resident in
        let body : e'.body ≡ b' = ap (λ (z : Entry). z.body) is in
        let numbers : Some new.0.number ≡ Some old.0.number = sym (ap number_in new.1) ∙ moved.number ∙ ap number_in old.1 in
        let number : new.0.number ≡ old.0.number = cc numbers in
        let long : length new.0.bytes.items ≡ length old.0.bytes.items = sym (ap length (frame_image b' new.0 new.1)) ∙ moved.long ∙ ap length (frame_image e.body old.0 old.1) in
        moved_here old.0 new.0 old.1 (ap shown body ∙ new.1) number long
        (ap (λ (z : Entry). z.kind) is) (ap (λ (z : Entry). z.seal.value) is) (ap is_alive body ∙ alive_resident b' moved.resident)
        (λ content st. subst (λ z. StandsFor told e.kind content z) (sym body) (subst (λ z. StandsFor told z content b') (sym kind) (moved.stands told content (subst (λ z. StandsFor told z content e.body) kind st))))

    pub moved_frame : (P : List ℕ → Type 0) → P (image_of b') → IfSome (frame_at (slice_set es x e') x) (λ f. P f.bytes.items)
    moved_frame P p = subst (λ o. IfSome o (λ f. P f.bytes.items)) (sym (ap shown_in (get_set_same es x e' px) ∙ ap (λ (z : Entry). shown z.body) is)) (if_shown P b' moved.resident p)

some_if : (b : PageBody) → IsResident b → IsSome (shown b)
some_if (Resident f t) k = refl
some_if (Resting t) k = absurd k
some_if (Dead f) k = absurd k

-- the entry of a live row page that is resident
module _ (told : Bool) (page held : ℕ) (es : List Entry) (ps : List Place) (us : List ℕ) (s : Sound page es ps us held) (p : SoloPage) (live : LiveAt told page es p) (there : IsSome (frame_at es p.at)) (kinds : List CellKind) (kind : p.seal.value.kind ≡ Rows kinds) (e : Entry) (is : e ≡ get_or es p.at e) where
  pub row_within : p.at < length es
  row_within = live_within told page es p live

  row_at : slice_get es p.at ≡ Some e
  row_at = slice_get_read es (length es) p.at e refl row_within is

  pub row_resident : IsResident e.body
  row_resident = resident_shown e.body (subst (λ o. IsSome (shown_in o)) row_at there)

  row_shown : (f : Frame) × (shown e.body ≡ Some f)
  row_shown = shown_resident e.body row_resident

  pub row_full : length (image_of e.body) ≡ page
  row_full = ap length (frame_image e.body row_shown.0 row_shown.1) ∙ s.full p.at row_shown.0 (ap shown_in row_at ∙ row_shown.1)

  pub row_accepted : IsAccepted (Rows kinds) (image_of e.body)
  row_accepted = let st = live_shown told page es p row_shown.0 live (ap shown_in row_at ∙ row_shown.1) in
      subst (λ z. IsAccepted (Rows kinds) z) (sym (frame_image e.body row_shown.0 row_shown.1)) (subst (λ z. IsAccepted z row_shown.0.bytes.items) kind st.accepted)

  row_kind : e.kind ≡ Rows kinds
  row_kind = let v = live_entry told page es p e live is in v.kind ∙ kind

  module _ (b' : PageBody) (moved : IsMoved kinds e.body b') where
    pub row_moved : Rebased told p.at page es (slice_set es p.at (record { kind = e.kind; body = b'; seal = e.seal })) ps us us held
    row_moved = moved_at told p.at page held es ps us s e (record { kind = e.kind; body = b'; seal = e.seal }) row_at kinds row_resident row_kind b' moved refl

    pub row_paid : (n w : ℕ) → Paid es n w → Paid (slice_set es p.at (record { kind = e.kind; body = b'; seal = e.seal })) n w
    row_paid n w paid = paid_step es p.at e (record { kind = e.kind; body = b'; seal = e.seal }) row_at n w w paid (pays_same e.body b' w row_resident moved.resident moved.ticket)

    row_now : frame_at (slice_set es p.at (record { kind = e.kind; body = b'; seal = e.seal })) p.at ≡ shown b'
    row_now = ap shown_in (get_set_same es p.at (record { kind = e.kind; body = b'; seal = e.seal }) row_within)

    pub row_there : IsSome (frame_at (slice_set es p.at (record { kind = e.kind; body = b'; seal = e.seal })) p.at)
    row_there = subst IsSome (sym row_now) (some_if b' moved.resident)

    pub row_based : (bases : List ℕ) → IsBased (image_of b') bases → IfSome (frame_at (slice_set es p.at (record { kind = e.kind; body = b'; seal = e.seal })) p.at) (λ f. IsBased f.bytes.items bases)
    row_based bases based = subst (λ o. IfSome o (λ f. IsBased f.bytes.items bases)) (sym row_now) (if_shown (λ image. IsBased image bases) b' moved.resident based)
