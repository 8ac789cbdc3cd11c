-- The changes that calls make of the tables.
use Rattle.std.proofs.Common.{◌≡◌, ◌≢◌, ℕ, ◌+◌, ◌-◌, ◌<◌, Bool, true, false, List, [], ◌∷◌, ◌++◌, length, refl, sym, ap, ◌∙◌, subst, arith, Option, Some, None, length-set, suc, zero, ne_eqb, eq-eqb}
use Rattle.std.specs.Prelude.{slice_get, slice_index, slice_set, sum, cond}
use Rattle.std.proofs.lemmas.Option.{slice_get_past, slice_get_within}
use mathlib.Core.Logic.{dite}
use native.Mathlib.Decide.{ℕ_discrete}
use Rattle.number_bags.specs.Bags.{one_of}
use Rattle.page_body.specs.Stands.{StandsFor}
use Rattle.solo_pool.specs.Weights.{shown, is_alive}
use Rattle.row_image.specs.declared.image.ImageKind.{ImageKind}
use Rattle.evict_ring.specs.declared.frame.Frame.{Frame}
use Rattle.solo_pool.specs.declared.entry.Place.{Place}
use Rattle.solo_pool.specs.declared.entry.Place.TheVariants.{Spare, Open, Owned}
use Rattle.solo_pool.specs.declared.entry.Entry.{Entry}
use Rattle.solo_pool.specs.declared.page.SoloPage.{SoloPage}
use Rattle.solo_pool.specs.State.{shown_in, frame_at, used_in, pins_at, open_in, opens_at}
use Rattle.solo_pool.specs.Moved.{number_in}
use Rattle.solo_pool.specs.Sound.{Sound}
use Rattle.solo_pool.specs.Turned.{Opened, Pinned, Unpinned, Closed, Ended}
use Rattle.solo_pool.specs.Views.{LiveAt, LiveIn}
use Rattle.solo_pool.specs.Sums.{sum_set, get_set_same, get_set_other, index_set_same, index_set_other}
use Rattle.solo_pool.proofs.Local.{Local, local_sound, local_pins, local_live, local_valid}

pub one_same : (x : ℕ) → one_of x x ≡ 1
unfolding one_of
one_same x = ap (λ b. cond b 1 0) (eq-eqb x x refl)

pub one_other : (x y : ℕ) → y ≢ x → one_of x y ≡ 0
unfolding one_of
one_other x y n = ap (λ b. cond b 1 0) (ne_eqb x y (λ e. n (sym e)))

-- a frame more of a slot, where only that slot changes
opens_more : (i : ℕ) (ps : List Place) (p : Place) → i < length ps → open_in (slice_get ps i) ≡ 0 → open_in (Some p) ≡ 1 → (y : ℕ) → opens_at (slice_set ps i p) y ≡ opens_at ps y + one_of i y
opens_more i ps p h was is y = dite (ℕ_discrete y i)
    (λ e. subst (λ k. opens_at (slice_set ps i p) k ≡ opens_at ps k + one_of i k) (sym e)
    (let a : opens_at (slice_set ps i p) i ≡ 1 = ap open_in (get_set_same ps i p h) ∙ is in omega (arith, a, was, one_same i)))
    (λ n. let a : opens_at (slice_set ps i p) y ≡ opens_at ps y = ap open_in (get_set_other ps i y p n) in omega (arith, a, one_other i y n))

none_some : {A : Type 0} {o : Option A} {x : A} → o ≡ None → o ≡ Some x → ⊥
none_some e f = cc

module _ (told : Bool) (i page held : ℕ) (es : List Entry) (ps : List Place) (us : List ℕ) (s : Sound page es ps us held) (h : i < length ps) (idle : slice_index us i ≡ 0) where
  past : frame_at es (length es) ≡ None
  past = ap shown_in (slice_get_past es (length es) (omega arith))

  h' : i < length us
  h' = let l = s.long in omega (arith, l, h)

  total : held + 1 ≡ sum (slice_set us i 1)
  total = let t = s.total in omega (arith, sum_set us i 1 h', idle, t)

  long : length (slice_set us i 1) ≡ length (slice_set ps i Open)
  long = length-set us i 1 ∙ s.long ∙ sym (length-set ps i Open)

  at_i : slice_get (slice_set ps i Open) i ≡ Some Open
  at_i = get_set_same ps i Open h

  spare_local : (f : Frame) → slice_get ps i ≡ Some (Spare f) → Local (length es) i page es es ps (slice_set ps i Open) us (slice_set us i 1) (held + 1)
  spare_local f at = record {
    entries = λ y n. refl;
    places = λ j n. get_set_other ps i j Open n;
    uses = λ j n. index_set_other us i j 1 n;
    owner = λ y o. absurd (cc);
    owner' = λ y o. absurd (cc at_i);
    from = λ g o. absurd (none_some past o);
    to = λ g o. absurd (none_some past o);
    spare' = λ g o. absurd (cc at_i);
    open' = λ o. index_set_same us i 1 h';
    total' = total;
    long' = long;
  }

  pub took_spare : (f : Frame) → slice_get ps i ≡ Some (Spare f) → Opened told i page es es ps (slice_set ps i Open) us (slice_set us i 1) (held + 1)
  took_spare f at = let l = spare_local f at in record {
    sound = local_sound s l;
    pins = λ y. dite (ℕ_discrete y (length es))
        (λ e. subst (λ k. pins_at es (slice_set us i 1) k ≡ pins_at es us k) (sym e) (ap (used_in (slice_set us i 1)) past ∙ sym (ap (used_in us) past)))
        (λ n. local_pins s l y n);
    opens = opens_more i ps Open h (ap open_in at) refl;
    lives = λ p v. v;
    valid = λ q v. dite (ℕ_discrete q.at (length es))
        (λ e. absurd (none_some (subst (λ k. frame_at es k ≡ None) (sym e) past) v.shown))
        (λ n. local_valid s l told q n v);
  }

  module _ (x : ℕ) (e e' : Entry) (f : Frame) (at : slice_get es x ≡ Some e) (was : shown e.body ≡ Some f) (place : slice_get ps i ≡ Some (Owned x)) (rests : shown e'.body ≡ None) where
    hx : x < length es
    hx = slice_get_within es x e at

    was_at : frame_at es x ≡ Some f
    was_at = ap shown_in at ∙ was

    now_at : frame_at (slice_set es x e') x ≡ None
    now_at = ap shown_in (get_set_same es x e' hx) ∙ rests

    number : f.number ≡ i
    number = let b : number_in (frame_at es x) ≡ Some i = s.backed i x place in let k : Some f.number ≡ Some i = sym (ap number_in was_at) ∙ b in cc

    owned_local : Local x i page es (slice_set es x e') ps (slice_set ps i Open) us (slice_set us i 1) (held + 1)
    owned_local = record {
      entries = λ y n. get_set_other es x y e' n;
      places = λ j n. get_set_other ps i j Open n;
      uses = λ j n. index_set_other us i j 1 n;
      owner = λ y o. cc;
      owner' = λ y o. absurd (cc at_i);
      from = λ g o. let k : f ≡ g = cc in subst (λ (z : Frame). z.number ≡ i) k number;
      to = λ g o. absurd (none_some now_at o);
      spare' = λ g o. absurd (cc at_i);
      open' = λ o. index_set_same us i 1 h';
      total' = total;
      long' = long;
    }

    pub took_owned : e'.kind ≡ e.kind → e'.seal.value ≡ e.seal.value → is_alive e'.body ≡ true → ((kind : ImageKind) (content : List ℕ) → StandsFor told kind content e.body → StandsFor told kind content e'.body)
        → Opened told i page es (slice_set es x e') ps (slice_set ps i Open) us (slice_set us i 1) (held + 1)
    took_owned kind seal alive stands = record {
      sound = local_sound s owned_local;
      pins = λ y. dite (ℕ_discrete y x)
          (λ k. subst (λ z. pins_at (slice_set es x e') (slice_set us i 1) z ≡ pins_at es us z) (sym k)
          (let a : pins_at (slice_set es x e') (slice_set us i 1) x ≡ 0 = ap (used_in (slice_set us i 1)) now_at in
          let b : pins_at es us x ≡ 0 = ap (used_in us) was_at ∙ ap (slice_index us) number ∙ idle in a ∙ sym b))
          (λ n. local_pins s owned_local y n);
      opens = opens_more i ps Open h (ap open_in place) refl;
      lives = λ p v. dite (ℕ_discrete p.at x)
          (λ k. let old : LiveIn told page p (Some e) = subst (λ z. LiveIn told page p z) (ap (slice_get es) k ∙ at) v in
          subst (λ z. LiveIn told page p z) (sym (ap (slice_get (slice_set es x e')) k ∙ get_set_same es x e' hx))
          (record { seal = seal ∙ old.seal; kind = kind ∙ old.kind; alive = alive; long = old.long; stands = stands _ _ old.stands }))
          (λ n. local_live s owned_local told p n v);
      valid = λ q v. dite (ℕ_discrete q.at x)
          (λ k. let shown : frame_at es x ≡ Some q.frame.value = subst (λ z. frame_at es z ≡ Some q.frame.value) k v.shown in
          let same : f ≡ q.frame.value = cc in
          let used : 0 < slice_index us i = subst (λ z. 0 < slice_index us z) (ap (λ (z : Frame). z.number) (sym same) ∙ number) v.used in
          absurd (omega (arith, used, idle)))
          (λ n. local_valid s owned_local told q n v);
    }

-- what is at a place whose bag of open pages isn't empty
pub open_there : (o : Option Place) → 0 < open_in o → o ≡ Some Open
open_there None h = absurd (omega (arith, h))
open_there (Some (Spare f)) h = absurd (omega (arith, h))
open_there (Some Open) h = refl
open_there (Some (Owned x)) h = absurd (omega (arith, h))

-- a frame's slot, where its count of uses changes
module _ (told : Bool) (x page held : ℕ) (es : List Entry) (ps : List Place) (us : List ℕ) (s : Sound page es ps us held) (f : Frame) (at : frame_at es x ≡ Some f) where
  place : slice_get ps f.number ≡ Some (Owned x)
  place = s.owned x f at

  within : f.number < length us
  within = let l = s.long in let k : f.number < length ps = slice_get_within ps f.number (Owned x) place in omega (arith, l, k)

  counted_local : (v held' : ℕ) → held' ≡ sum (slice_set us f.number v) → Local x f.number page es es ps ps us (slice_set us f.number v) held'
  counted_local v held' total = record {
    entries = λ y n. refl;
    places = λ j n. refl;
    uses = λ j n. index_set_other us f.number j v n;
    owner = λ y o. cc place;
    owner' = λ y o. (cc place, ap number_in at);
    from = λ g o. let k : f ≡ g = cc in ap (λ (z : Frame). z.number) (sym k);
    to = λ g o. let k : f ≡ g = cc in (ap (λ (z : Frame). z.number) (sym k), place, s.full x g o);
    spare' = λ g o. absurd (cc place);
    open' = λ o. absurd (cc place);
    total' = total;
    long' = length-set us f.number v ∙ s.long;
  }

  used_now : (v : ℕ) → pins_at es (slice_set us f.number v) x ≡ v
  used_now v = ap (used_in (slice_set us f.number v)) at ∙ index_set_same us f.number v within

  used_before : pins_at es us x ≡ slice_index us f.number
  used_before = ap (used_in us) at

  more_total : held + 1 ≡ sum (slice_set us f.number (slice_index us f.number + 1))
  more_total = let t = s.total in omega (arith, sum_set us f.number (slice_index us f.number + 1) within, t)

  pub pin_more : Pinned told x page es es ps ps us (slice_set us f.number (slice_index us f.number + 1)) (held + 1)
  pin_more = let l = counted_local (slice_index us f.number + 1) (held + 1) more_total in record {
    sound = local_sound s l;
    pins = λ y. dite (ℕ_discrete y x)
        (λ e. subst (λ k. pins_at es (slice_set us f.number (slice_index us f.number + 1)) k ≡ pins_at es us k + one_of x k) (sym e)
        (omega (arith, used_now (slice_index us f.number + 1), used_before, one_same x)))
        (λ n. omega (arith, local_pins s l y n, one_other x y n));
    lives = λ p v. v;
    valid = λ q v. dite (ℕ_discrete q.at x)
        (λ e. let shown : frame_at es x ≡ Some q.frame.value = subst (λ z. frame_at es z ≡ Some q.frame.value) e v.shown in
        let same : f ≡ q.frame.value = cc in
        record {
          at = v.at;
          shown = v.shown;
          live = v.live;
          used = subst (λ (z : Frame). 0 < slice_index (slice_set us f.number (slice_index us f.number + 1)) z.number) same (let k = index_set_same us f.number (slice_index us f.number + 1) within in omega (arith, k));
        })
        (λ n. local_valid s l told q n v);
  }

  less_total : 0 < slice_index us f.number → held - 1 ≡ sum (slice_set us f.number (slice_index us f.number - 1))
  less_total some = let t = s.total in omega (arith, sum_set us f.number (slice_index us f.number - 1) within, t, some)

  pub pin_less : 0 < slice_index us f.number → Unpinned told x page es ps us (slice_set us f.number (slice_index us f.number - 1)) (held - 1)
  pin_less some = let l = counted_local (slice_index us f.number - 1) (held - 1) (less_total some) in record {
    sound = local_sound s l;
    pins = λ y. dite (ℕ_discrete y x)
        (λ e. subst (λ k. pins_at es us k ≡ pins_at es (slice_set us f.number (slice_index us f.number - 1)) k + one_of x k) (sym e)
        (omega (arith, used_now (slice_index us f.number - 1), used_before, one_same x, some)))
        (λ n. omega (arith, local_pins s l y n, one_other x y n));
    valid = λ q v left. dite (ℕ_discrete q.at x)
        (λ e. let shown : frame_at es x ≡ Some q.frame.value = subst (λ z. frame_at es z ≡ Some q.frame.value) e v.shown in
        let same : f ≡ q.frame.value = cc in
        let here : 0 < pins_at es (slice_set us f.number (slice_index us f.number - 1)) x = subst (λ z. 0 < pins_at es (slice_set us f.number (slice_index us f.number - 1)) z) (v.at ∙ e) left in
        record {
          at = v.at;
          shown = v.shown;
          live = v.live;
          used = subst (λ (z : Frame). 0 < slice_index (slice_set us f.number (slice_index us f.number - 1)) z.number) same (let k = index_set_same us f.number (slice_index us f.number - 1) within in omega (arith, k, here, used_now (slice_index us f.number - 1)));
        })
        (λ n. local_valid s l told q n v);
  }

opens_less : (i : ℕ) (ps : List Place) (p : Place) → slice_get ps i ≡ Some Open → open_in (Some p) ≡ 0 → (y : ℕ) → opens_at ps y ≡ opens_at (slice_set ps i p) y + one_of i y
opens_less i ps p at is y = dite (ℕ_discrete y i)
    (λ e. subst (λ k. opens_at ps k ≡ opens_at (slice_set ps i p) k + one_of i k) (sym e)
    (let a : opens_at (slice_set ps i p) i ≡ 0 = ap open_in (get_set_same ps i p (slice_get_within ps i Open at)) ∙ is in let b : opens_at ps i ≡ 1 = ap open_in at in omega (arith, a, b, one_same i)))
    (λ n. let a : opens_at (slice_set ps i p) y ≡ opens_at ps y = ap open_in (get_set_other ps i y p n) in omega (arith, a, one_other i y n))

get_push_other : {A : Type 0} (xs : List A) (x : A) (y : ℕ) → y ≢ length xs → slice_get (xs ++ (x ∷ [])) y ≡ slice_get xs y
get_push_other [] x zero n = absurd (n refl)
get_push_other [] x (suc y) n = refl
get_push_other (a ∷ xs) x zero n = refl
get_push_other (a ∷ xs) x (suc y) n = get_push_other xs x y (λ e. n (omega (arith, e)))

pub get_push_same : {A : Type 0} (xs : List A) (x : A) → slice_get (xs ++ (x ∷ [])) (length xs) ≡ Some x
get_push_same [] x = refl
get_push_same (a ∷ xs) x = get_push_same xs x

module _ (told : Bool) (i page held : ℕ) (es : List Entry) (ps : List Place) (us : List ℕ) (s : Sound page es ps us held) (at : slice_get ps i ≡ Some Open) where
  here : i < length ps
  here = slice_get_within ps i Open at

  here' : i < length us
  here' = let l = s.long in let k = here in omega (arith, l, k)

  one : slice_index us i ≡ 1
  one = s.opened i at

  gone : frame_at es (length es) ≡ None
  gone = ap shown_in (slice_get_past es (length es) (omega arith))

  less : held - 1 ≡ sum (slice_set us i 0)
  less = let t = s.total in omega (arith, sum_set us i 0 here', t, one)

  module _ (f : Frame) (number : f.number ≡ i) (full : length f.bytes.items ≡ page) where
    back_at : slice_get (slice_set ps i (Spare f)) i ≡ Some (Spare f)
    back_at = get_set_same ps i (Spare f) here

    back_local : Local (length es) i page es es ps (slice_set ps i (Spare f)) us (slice_set us i 0) (held - 1)
    back_local = record {
      entries = λ y n. refl;
      places = λ j n. get_set_other ps i j (Spare f) n;
      uses = λ j n. index_set_other us i j 0 n;
      owner = λ y o. absurd (cc);
      owner' = λ y o. absurd (cc back_at);
      from = λ g o. absurd (none_some gone o);
      to = λ g o. absurd (none_some gone o);
      spare' = λ g o. let k : f ≡ g = cc back_at in (ap (λ (z : Frame). z.number) (sym k) ∙ number, ap (λ (z : Frame). length z.bytes.items) (sym k) ∙ full, index_set_same us i 0 here');
      open' = λ o. absurd (cc back_at);
      total' = less;
      long' = length-set us i 0 ∙ s.long ∙ sym (length-set ps i (Spare f));
    }

    pub gave_back : Closed told i page es es ps (slice_set ps i (Spare f)) us (slice_set us i 0) (held - 1)
    gave_back = let l = back_local in record {
      sound = local_sound s l;
      pins = λ y. dite (ℕ_discrete y (length es))
          (λ e. subst (λ k. pins_at es (slice_set us i 0) k ≡ pins_at es us k) (sym e) (ap (used_in (slice_set us i 0)) gone ∙ sym (ap (used_in us) gone)))
          (λ n. local_pins s l y n);
      opens = opens_less i ps (Spare f) at refl;
      lives = λ p v. v;
      valid = λ q v. dite (ℕ_discrete q.at (length es))
          (λ e. absurd (none_some (subst (λ k. frame_at es k ≡ None) (sym e) gone) v.shown))
          (λ n. local_valid s l told q n v);
    }

    module _ (e' : Entry) (shows : shown e'.body ≡ Some f) where
      sealed_at : slice_get (slice_set ps i (Owned (length es))) i ≡ Some (Owned (length es))
      sealed_at = get_set_same ps i (Owned (length es)) here

      sealed_frame : frame_at (es ++ (e' ∷ [])) (length es) ≡ Some f
      sealed_frame = ap shown_in (get_push_same es e') ∙ shows

      sealed_local : Local (length es) i page es (es ++ (e' ∷ [])) ps (slice_set ps i (Owned (length es))) us (slice_set us i 0) (held - 1)
      sealed_local = record {
        entries = λ y n. get_push_other es e' y n;
        places = λ j n. get_set_other ps i j (Owned (length es)) n;
        uses = λ j n. index_set_other us i j 0 n;
        owner = λ y o. absurd (cc);
        owner' = λ y o. (cc sealed_at, ap number_in sealed_frame ∙ ap Some number);
        from = λ g o. absurd (none_some gone o);
        to = λ g o. let k : f ≡ g = cc sealed_frame in (ap (λ (z : Frame). z.number) (sym k) ∙ number, sealed_at, ap (λ (z : Frame). length z.bytes.items) (sym k) ∙ full);
        spare' = λ g o. absurd (cc sealed_at);
        open' = λ o. absurd (cc sealed_at);
        total' = less;
        long' = length-set us i 0 ∙ s.long ∙ sym (length-set ps i (Owned (length es)));
      }

      pub sealed_new : Closed told i page es (es ++ (e' ∷ [])) ps (slice_set ps i (Owned (length es))) us (slice_set us i 0) (held - 1)
      sealed_new = let l = sealed_local in record {
        sound = local_sound s l;
        pins = λ y. dite (ℕ_discrete y (length es))
            (λ k. subst (λ z. pins_at (es ++ (e' ∷ [])) (slice_set us i 0) z ≡ pins_at es us z) (sym k)
            (let a : pins_at (es ++ (e' ∷ [])) (slice_set us i 0) (length es) ≡ 0 = ap (used_in (slice_set us i 0)) sealed_frame ∙ ap (slice_index (slice_set us i 0)) number ∙ index_set_same us i 0 here' in
            a ∙ sym (ap (used_in us) gone)))
            (λ n. local_pins s l y n);
        opens = opens_less i ps (Owned (length es)) at refl;
        lives = λ p v. dite (ℕ_discrete p.at (length es))
            (λ k. absurd (subst (λ z. LiveIn told page p z) (ap (slice_get es) k ∙ slice_get_past es (length es) (omega arith)) v))
            (λ n. local_live s l told p n v);
        valid = λ q v. dite (ℕ_discrete q.at (length es))
            (λ k. absurd (none_some (subst (λ z. frame_at es z ≡ None) (sym k) gone) v.shown))
            (λ n. local_valid s l told q n v);
      }

    module _ (x : ℕ) (e e' : Entry) (was : slice_get es x ≡ Some e) (dead : is_alive e.body ≡ false) (none : shown e.body ≡ None) (shows : shown e'.body ≡ Some f) where
      ox : x < length es
      ox = slice_get_within es x e was

      over_at : slice_get (slice_set ps i (Owned x)) i ≡ Some (Owned x)
      over_at = get_set_same ps i (Owned x) here

      over_before : frame_at es x ≡ None
      over_before = ap shown_in was ∙ none

      over_frame : frame_at (slice_set es x e') x ≡ Some f
      over_frame = ap shown_in (get_set_same es x e' ox) ∙ shows

      over_local : Local x i page es (slice_set es x e') ps (slice_set ps i (Owned x)) us (slice_set us i 0) (held - 1)
      over_local = record {
        entries = λ y n. get_set_other es x y e' n;
        places = λ j n. get_set_other ps i j (Owned x) n;
        uses = λ j n. index_set_other us i j 0 n;
        owner = λ y o. absurd (cc);
        owner' = λ y o. (cc over_at, ap number_in over_frame ∙ ap Some number);
        from = λ g o. absurd (none_some over_before o);
        to = λ g o. let k : f ≡ g = cc over_frame in (ap (λ (z : Frame). z.number) (sym k) ∙ number, over_at, ap (λ (z : Frame). length z.bytes.items) (sym k) ∙ full);
        spare' = λ g o. absurd (cc over_at);
        open' = λ o. absurd (cc over_at);
        total' = less;
        long' = length-set us i 0 ∙ s.long ∙ sym (length-set ps i (Owned x));
      }

      -- no page of that number is live
      pub over_not : (p : SoloPage) → p.at ≡ x → LiveAt told page es p → ⊥
      over_not p k v =
          let is : LiveIn told page p (Some e) = subst (λ z. LiveIn told page p z) (ap (slice_get es) k ∙ was) v in
          let both : true ≡ false = sym is.alive ∙ dead in cc both

      pub sealed_there : Closed told i page es (slice_set es x e') ps (slice_set ps i (Owned x)) us (slice_set us i 0) (held - 1)
      sealed_there = let l = over_local in record {
        sound = local_sound s l;
        pins = λ y. dite (ℕ_discrete y x)
            (λ k. subst (λ z. pins_at (slice_set es x e') (slice_set us i 0) z ≡ pins_at es us z) (sym k)
            (let a : pins_at (slice_set es x e') (slice_set us i 0) x ≡ 0 = ap (used_in (slice_set us i 0)) over_frame ∙ ap (slice_index (slice_set us i 0)) number ∙ index_set_same us i 0 here' in
            a ∙ sym (ap (used_in us) over_before)))
            (λ n. local_pins s l y n);
        opens = opens_less i ps (Owned x) at refl;
        lives = λ p v. dite (ℕ_discrete p.at x)
            (λ k. absurd (over_not p k v))
            (λ n. local_live s l told p n v);
        valid = λ q v. dite (ℕ_discrete q.at x)
            (λ k. absurd (none_some (subst (λ z. frame_at es z ≡ None) (sym k) over_before) v.shown))
            (λ n. local_valid s l told q n v);
      }

    module _ (x : ℕ) (e e' : Entry) (was : slice_get es x ≡ Some e) (rests : shown e.body ≡ None) (shows : shown e'.body ≡ Some f) where
      px : x < length es
      px = slice_get_within es x e was

      inst_at : slice_get (slice_set ps i (Owned x)) i ≡ Some (Owned x)
      inst_at = get_set_same ps i (Owned x) here

      inst_before : frame_at es x ≡ None
      inst_before = ap shown_in was ∙ rests

      inst_frame : frame_at (slice_set es x e') x ≡ Some f
      inst_frame = ap shown_in (get_set_same es x e' px) ∙ shows

      inst_local : Local x i page es (slice_set es x e') ps (slice_set ps i (Owned x)) us us held
      inst_local = record {
        entries = λ y n. get_set_other es x y e' n;
        places = λ j n. get_set_other ps i j (Owned x) n;
        uses = λ j n. refl;
        owner = λ y o. absurd (cc);
        owner' = λ y o. (cc inst_at, ap number_in inst_frame ∙ ap Some number);
        from = λ g o. absurd (none_some inst_before o);
        to = λ g o. let k : f ≡ g = cc inst_frame in (ap (λ (z : Frame). z.number) (sym k) ∙ number, inst_at, ap (λ (z : Frame). length z.bytes.items) (sym k) ∙ full);
        spare' = λ g o. absurd (cc inst_at);
        open' = λ o. absurd (cc inst_at);
        total' = s.total;
        long' = s.long ∙ sym (length-set ps i (Owned x));
      }

      pub opens_installed : (y : ℕ) → opens_at ps y ≡ opens_at (slice_set ps i (Owned x)) y + one_of i y
      opens_installed = opens_less i ps (Owned x) at refl

      pub installed_at : e'.kind ≡ e.kind → e'.seal.value ≡ e.seal.value → is_alive e'.body ≡ true → ((kind : ImageKind) (content : List ℕ) → e.kind ≡ kind → StandsFor told kind content e.body → StandsFor told kind content e'.body)
          → Pinned told x page es (slice_set es x e') ps (slice_set ps i (Owned x)) us us held
      installed_at kind seal alive stands = let l = inst_local in record {
        sound = local_sound s l;
        pins = λ y. dite (ℕ_discrete y x)
            (λ k. subst (λ z. pins_at (slice_set es x e') us z ≡ pins_at es us z + one_of x z) (sym k)
            (let a : pins_at (slice_set es x e') us x ≡ 1 = ap (used_in us) inst_frame ∙ ap (slice_index us) number ∙ one in
            let b : pins_at es us x ≡ 0 = ap (used_in us) inst_before in omega (arith, a, b, one_same x)))
            (λ n. omega (arith, local_pins s l y n, one_other x y n));
        lives = λ p v. dite (ℕ_discrete p.at x)
            (λ k. let old : LiveIn told page p (Some e) = subst (λ z. LiveIn told page p z) (ap (slice_get es) k ∙ was) v in
            subst (λ z. LiveIn told page p z) (sym (ap (slice_get (slice_set es x e')) k ∙ get_set_same es x e' px))
            (record { seal = seal ∙ old.seal; kind = kind ∙ old.kind; alive = alive; long = old.long; stands = stands _ _ old.kind old.stands }))
            (λ n. local_live s l told p n v);
        valid = λ q v. dite (ℕ_discrete q.at x)
            (λ k. absurd (none_some (subst (λ z. frame_at es z ≡ None) (sym k) inst_before) v.shown))
            (λ n. local_valid s l told q n v);
      }

module _ (told : Bool) (x page held : ℕ) (es : List Entry) (ps : List Place) (us : List ℕ) (s : Sound page es ps us held) (e e' : Entry) (at : slice_get es x ≡ Some e) (ends : shown e'.body ≡ None) (dead : is_alive e'.body ≡ false) where
  ex : x < length es
  ex = slice_get_within es x e at

  -- no page of that number is live any more
  end_gone : (p : SoloPage) → p.at ≡ x → LiveAt told page (slice_set es x e') p → ⊥
  end_gone p here v =
      let is : LiveIn told page p (Some e') = subst (LiveIn told page p) (ap (slice_get (slice_set es x e')) here ∙ get_set_same es x e' ex) v in
      let both : true ≡ false = sym is.alive ∙ dead in cc both

  end_now : frame_at (slice_set es x e') x ≡ None
  end_now = ap shown_in (get_set_same es x e' ex) ∙ ends

  module _ (f : Frame) (shows : shown e.body ≡ Some f) (free : pins_at es us x ≡ 0) where
    end_before : frame_at es x ≡ Some f
    end_before = ap shown_in at ∙ shows

    end_place : slice_get ps f.number ≡ Some (Owned x)
    end_place = s.owned x f end_before

    end_in : f.number < length ps
    end_in = slice_get_within ps f.number (Owned x) end_place

    end_idle : slice_index us f.number ≡ 0
    end_idle = sym (ap (used_in us) end_before) ∙ free

    end_spare : slice_get (slice_set ps f.number (Spare f)) f.number ≡ Some (Spare f)
    end_spare = get_set_same ps f.number (Spare f) end_in

    end_local : Local x f.number page es (slice_set es x e') ps (slice_set ps f.number (Spare f)) us us held
    end_local = record {
      entries = λ y n. get_set_other es x y e' n;
      places = λ j n. get_set_other ps f.number j (Spare f) n;
      uses = λ j n. refl;
      owner = λ y o. cc end_place;
      owner' = λ y o. absurd (cc end_spare);
      from = λ g o. let k : f ≡ g = cc end_before in ap (λ (z : Frame). z.number) (sym k);
      to = λ g o. absurd (none_some end_now o);
      spare' = λ g o. let k : f ≡ g = cc end_spare in (ap (λ (z : Frame). z.number) (sym k), ap (λ (z : Frame). length z.bytes.items) (sym k) ∙ s.full x f end_before, end_idle);
      open' = λ o. absurd (cc end_spare);
      total' = s.total;
      long' = s.long ∙ sym (length-set ps f.number (Spare f));
    }

    pub ended_resident : Ended told x page es (slice_set es x e') ps (slice_set ps f.number (Spare f)) us us held
    ended_resident = let l = end_local in record {
      sound = local_sound s l;
      pins = λ y. dite (ℕ_discrete y x)
          (λ k. subst (λ z. pins_at (slice_set es x e') us z ≡ pins_at es us z) (sym k) (ap (used_in us) end_now ∙ sym free))
          (λ n. local_pins s l y n);
      opens = λ y. dite (ℕ_discrete y f.number)
          (λ k. subst (λ z. opens_at (slice_set ps f.number (Spare f)) z ≡ opens_at ps z) (sym k) (ap open_in end_spare ∙ sym (ap open_in end_place)))
          (λ n. ap open_in (get_set_other ps f.number y (Spare f) n));
      lives = λ p v n. local_live s l told p n v;
      gone = end_gone;
      valid = λ q v. dite (ℕ_discrete q.at x)
          (λ k. let sh : frame_at es x ≡ Some q.frame.value = subst (λ z. frame_at es z ≡ Some q.frame.value) k v.shown in
          let same : f ≡ q.frame.value = cc end_before in
          let used : 0 < slice_index us f.number = subst (λ (z : Frame). 0 < slice_index us z.number) (sym same) v.used in
          absurd (omega (arith, used, end_idle)))
          (λ n. local_valid s l told q n v);
    }

  module _ (rests : shown e.body ≡ None) where
    rest_before : frame_at es x ≡ None
    rest_before = ap shown_in at ∙ rests

    nowhere : slice_get ps (length ps) ≡ None
    nowhere = slice_get_past ps (length ps) (omega arith)

    rest_local : Local x (length ps) page es (slice_set es x e') ps ps us us held
    rest_local = record {
      entries = λ y n. get_set_other es x y e' n;
      places = λ j n. refl;
      uses = λ j n. refl;
      owner = λ y o. absurd (none_some nowhere o);
      owner' = λ y o. absurd (none_some nowhere o);
      from = λ g o. absurd (none_some rest_before o);
      to = λ g o. absurd (none_some end_now o);
      spare' = λ g o. absurd (none_some nowhere o);
      open' = λ o. absurd (none_some nowhere o);
      total' = s.total;
      long' = s.long;
    }

    pub ended_resting : Ended told x page es (slice_set es x e') ps ps us us held
    ended_resting = let l = rest_local in record {
      sound = local_sound s l;
      pins = λ y. dite (ℕ_discrete y x)
          (λ k. subst (λ z. pins_at (slice_set es x e') us z ≡ pins_at es us z) (sym k) (ap (used_in us) end_now ∙ sym (ap (used_in us) rest_before)))
          (λ n. local_pins s l y n);
      opens = λ y. refl;
      lives = λ p v n. local_live s l told p n v;
      gone = end_gone;
      valid = λ q v. dite (ℕ_discrete q.at x)
          (λ k. absurd (none_some (subst (λ z. frame_at es z ≡ None) (sym k) rest_before) v.shown))
          (λ n. local_valid s l told q n v);
    }

-- the same where the place was written by another name
pub took_spare_as : (told : Bool) (i page held : ℕ) (es : List Entry) (ps : List Place) (us : List ℕ) (p : Place) (f : Frame) → Sound page es ps us held → i < length ps → slice_get ps i ≡ Some (Spare f) → p ≡ Open → Opened told i page es es ps (slice_set ps i p) us (slice_set us i 1) (held + 1)
took_spare_as told i page held es ps us p f s h at is = subst (λ (z : Place). Opened told i page es es ps (slice_set ps i z) us (slice_set us i 1) (held + 1)) (sym is)
    (took_spare told i page held es ps us s h (s.idle i f at) f at)
