-- A change of the tables at one page and one frame.
use Rattle.std.proofs.Common.{◌≡◌, ◌≢◌, ℕ, ◌<◌, Bool, List, length, refl, sym, ap, ◌∙◌, subst, Option, Some, None}
use Rattle.std.specs.Prelude.{slice_get, slice_index, sum}
use mathlib.Core.Logic.{dite}
use native.Mathlib.Decide.{ℕ_discrete}
use Rattle.evict_ring.specs.declared.frame.Frame.{Frame}
use Rattle.solo_pool.specs.declared.entry.Place.{Place}
use Rattle.solo_pool.specs.declared.entry.Place.TheVariants.{Spare, Open, Owned}
use Rattle.solo_pool.specs.declared.entry.Entry.{Entry}
use Rattle.solo_pool.specs.declared.page.SoloPage.{SoloPage}
use Rattle.solo_pool.specs.declared.page.SoloPin.{SoloPin}
use Rattle.solo_pool.specs.State.{shown_in, frame_at, used_in, pins_at}
use Rattle.solo_pool.specs.Moved.{number_in}
use Rattle.solo_pool.specs.Sound.{Sound}
use Rattle.solo_pool.specs.Views.{LiveAt, LiveIn, IsPin}

pub record Local (x i page : ℕ) (es es' : List Entry) (ps ps' : List Place) (us us' : List ℕ) (held' : ℕ) : Type 0 where
  pub entries : (y : ℕ) → y ≢ x → slice_get es' y ≡ slice_get es y
  pub places : (j : ℕ) → j ≢ i → slice_get ps' j ≡ slice_get ps j
  pub uses : (j : ℕ) → j ≢ i → slice_index us' j ≡ slice_index us j
  pub owner : (y : ℕ) → slice_get ps i ≡ Some (Owned y) → y ≡ x
  pub owner' : (y : ℕ) → slice_get ps' i ≡ Some (Owned y) → (y ≡ x) × (number_in (frame_at es' x) ≡ Some i)
  pub from : (f : Frame) → frame_at es x ≡ Some f → f.number ≡ i
  pub to : (f : Frame) → frame_at es' x ≡ Some f → (f.number ≡ i) × (slice_get ps' i ≡ Some (Owned x)) × (length f.bytes.items ≡ page)
  pub spare' : (f : Frame) → slice_get ps' i ≡ Some (Spare f) → (f.number ≡ i) × (length f.bytes.items ≡ page) × (slice_index us' i ≡ 0)
  pub open' : slice_get ps' i ≡ Some Open → slice_index us' i ≡ 1
  pub total' : held' ≡ sum us'
  pub long' : length us' ≡ length ps'

number_of_some : (i j : ℕ) (o : Option Frame) → ((f : Frame) → o ≡ Some f → f.number ≡ i) → number_in o ≡ Some j → j ≡ i
number_of_some i j None from at = absurd (cc)
number_of_some i j (Some f) from at = let e : f.number ≡ j = cc in sym e ∙ from f refl

used_other : (i : ℕ) (us us' : List ℕ) → ((j : ℕ) → j ≢ i → slice_index us' j ≡ slice_index us j) → (o : Option Frame) → ((f : Frame) → o ≡ Some f → f.number ≢ i) → used_in us' o ≡ used_in us o
used_other i us us' same None n = refl
used_other i us us' same (Some f) n = same f.number (n f refl)

module _ {x i page held held' : ℕ} {es es' : List Entry} {ps ps' : List Place} {us us' : List ℕ} (s : Sound page es ps us held) (l : Local x i page es es' ps ps' us us' held') where
  -- the frame of another page is another
  other_frame : (y : ℕ) (f : Frame) → y ≢ x → frame_at es y ≡ Some f → f.number ≢ i
  other_frame y f n at e = n (l.owner y (subst (λ k. slice_get ps k ≡ Some (Owned y)) e (s.owned y f at)))

  frame_same : (y : ℕ) → y ≢ x → frame_at es' y ≡ frame_at es y
  frame_same y n = ap shown_in (l.entries y n)

  pub local_sound : Sound page es' ps' us' held'
  local_sound = record {
    long = l.long';
    total = l.total';
    owned = λ y f at. dite (ℕ_discrete y x)
        (λ e. let at' : frame_at es' x ≡ Some f = subst (λ k. frame_at es' k ≡ Some f) e at in let t = l.to f at' in subst (λ k. slice_get ps' k ≡ Some (Owned y)) (sym t.0) (subst (λ k. slice_get ps' i ≡ Some (Owned k)) (sym e) t.1))
        (λ n. let old : frame_at es y ≡ Some f = sym (frame_same y n) ∙ at in l.places f.number (other_frame y f n old) ∙ s.owned y f old);
    full = λ y f at. dite (ℕ_discrete y x)
        (λ e. (l.to f (subst (λ k. frame_at es' k ≡ Some f) e at)).2)
        (λ n. s.full y f (sym (frame_same y n) ∙ at));
    backed = λ j y at. dite (ℕ_discrete j i)
        (λ e. let o = l.owner' y (subst (λ k. slice_get ps' k ≡ Some (Owned y)) e at) in subst (λ k. number_in (frame_at es' k) ≡ Some j) (sym o.0) (o.1 ∙ ap Some (sym e)))
        (λ n. let old : slice_get ps j ≡ Some (Owned y) = sym (l.places j n) ∙ at in let b = s.backed j y old in
        dite (ℕ_discrete y x)
        (λ e. absurd (n (number_of_some i j (frame_at es x) l.from (subst (λ k. number_in (frame_at es k) ≡ Some j) e b))))
        (λ m. ap number_in (frame_same y m) ∙ b));
    spare = λ j f at. dite (ℕ_discrete j i)
        (λ e. (l.spare' f (subst (λ k. slice_get ps' k ≡ Some (Spare f)) e at)).0 ∙ sym e)
        (λ n. s.spare j f (sym (l.places j n) ∙ at));
    spare_full = λ j f at. dite (ℕ_discrete j i)
        (λ e. (l.spare' f (subst (λ k. slice_get ps' k ≡ Some (Spare f)) e at)).1)
        (λ n. s.spare_full j f (sym (l.places j n) ∙ at));
    idle = λ j f at. dite (ℕ_discrete j i)
        (λ e. ap (slice_index us') e ∙ (l.spare' f (subst (λ k. slice_get ps' k ≡ Some (Spare f)) e at)).2)
        (λ n. l.uses j n ∙ s.idle j f (sym (l.places j n) ∙ at));
    opened = λ j at. dite (ℕ_discrete j i)
        (λ e. ap (slice_index us') e ∙ l.open' (subst (λ k. slice_get ps' k ≡ Some Open) e at))
        (λ n. l.uses j n ∙ s.opened j (sym (l.places j n) ∙ at));
  }

  pub local_pins : (y : ℕ) → y ≢ x → pins_at es' us' y ≡ pins_at es us y
  local_pins y n = ap (used_in us') (frame_same y n) ∙ used_other i us us' l.uses (frame_at es y) (λ f at. other_frame y f n at)

  pub local_live : (told : Bool) (p : SoloPage) → p.at ≢ x → LiveAt told page es p → LiveAt told page es' p
  local_live told p n live = subst (LiveIn told page p) (sym (l.entries p.at n)) live

  pub local_valid : (told : Bool) (q : SoloPin) → q.at ≢ x → IsPin told page es us q → IsPin told page es' us' q
  local_valid told q n v = record {
    at = v.at;
    shown = frame_same q.at n ∙ v.shown;
    used = subst (λ k. 0 < k) (sym (l.uses q.frame.value.number (other_frame q.at q.frame.value n v.shown))) v.used;
    live = local_live told q.page.value (λ e. n (sym v.at ∙ e)) v.live;
  }
