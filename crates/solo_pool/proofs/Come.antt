-- A page that comes in, a new page, and the end of a page.
use Rattle.std.proofs.Common.{◌≡◌, ◌≢◌, ℕ, ◌+◌, ◌-◌, ◌<◌, ◌≤◌, List, [], ◌∷◌, ◌++◌, length, refl, sym, ap, ◌∙◌, subst, arith, Option, Some, None, get_or, Bool, true, false}
use Rattle.std.specs.Prelude.{slice_get, slice_set}
use Rattle.std.proofs.lemmas.Option.{slice_get_read, slice_get_within}
use Rattle.page_body.specs.Bodies.{IsResting, installed}
use Rattle.solo_pool.specs.Weights.{shown, is_alive}
use Rattle.row_image.specs.Rules.{IsAccepted}
use Rattle.row_image.specs.Flat.{flat}
use Rattle.number_bags.specs.Bags.{one_of}
use Rattle.page_body.specs.Stands.{StandsFor, ImageStands}
use Rattle.row_image.specs.declared.image.ImageKind.{ImageKind}
use Rattle.page_body.specs.declared.open.OpenPage.{OpenPage}
use Rattle.evict_ring.specs.declared.frame.Frame.{Frame}
use Rattle.page_body.specs.declared.body.PageBody.{PageBody}
use Rattle.page_body.specs.declared.body.PageBody.TheVariants.{Resident, Resting, Dead}
use Rattle.solo_pool.specs.declared.entry.Place.{Place}
use Rattle.solo_pool.specs.declared.entry.Place.TheVariants.{Owned, Open, Spare}
use Rattle.solo_pool.specs.declared.entry.Entry.{Entry}
use Rattle.solo_pool.specs.declared.page.SoloPage.{SoloPage}
use Rattle.solo_pool.specs.State.{shown_in, used_in, frame_at, pins_at, opens_at}
use Rattle.solo_pool.specs.Sound.{Sound}
use Rattle.solo_pool.specs.Views.{RestsAt, RestsIn, PutStands, PutIn, LiveAt, LiveIn, IsEntryOf, VacantAt, VacantIn}
use Rattle.solo_pool.specs.Turned.{Pinned, Closed, Ended}
use Rattle.solo_pool.specs.Sums.{get_set_same, index_set_same}
use Rattle.ooc_io.specs.Counts.{raised}
use Rattle.solo_pool.specs.Writes.{Paid}
use Rattle.solo_pool.proofs.Paying.{Pays, paid_step, pays_install, pays_end, paid_new, paid_over}
use Rattle.page_body.specs.ContentLength.{flat_as_long}
use Rattle.solo_pool.proofs.Turns.{installed_at, over_not, sealed_there, opens_installed, open_there, sealed_new, get_push_same, ended_resident, ended_resting}

shown_installed : (b : PageBody) (f : Frame) → IsResting b → shown (installed b f) ≡ Some f
shown_installed (Resident g t) f k = absurd k
shown_installed (Resting t) f k = refl
shown_installed (Dead g) f k = absurd k

alive_installed : (b : PageBody) (f : Frame) → IsResting b → is_alive (installed b f) ≡ true
alive_installed (Resident g t) f k = absurd k
alive_installed (Resting t) f k = refl
alive_installed (Dead g) f k = absurd k

shown_resting : (b : PageBody) → IsResting b → shown b ≡ None
shown_resting (Resident g t) k = absurd k
shown_resting (Resting t) k = refl
shown_resting (Dead g) k = absurd k

module _ (told : Bool) (x page held : ℕ) (es : List Entry) (ps : List Place) (us : List ℕ) (s : Sound page es ps us held) (f : Frame) (within : x < length es) (body : RestsAt es x) (own : 0 < opens_at ps f.number) (full : length f.bytes.items ≡ page) (put : PutStands told es x f) (e : Entry) (is : e ≡ get_or es x e) (b : PageBody) (becomes : b ≡ installed e.body f) where
  e' : Entry
  e' = record { kind = e.kind; body = b; seal = e.seal }

  e_at : slice_get es x ≡ Some e
  e_at = slice_get_read es (length es) x e refl within is

  e_rests : IsResting e.body
  e_rests = subst RestsIn e_at body

  e_put : PutIn told f (Some e)
  e_put = subst (PutIn told f) e_at put

  pub put_shown : frame_at (slice_set es x (record { kind = e.kind; body = b; seal = e.seal })) x ≡ Some f
  put_shown = ap shown_in (get_set_same es x (record { kind = e.kind; body = b; seal = e.seal }) within) ∙ ap shown becomes ∙ shown_installed e.body f e_rests

  pub put_paid : (n w : ℕ) → Paid es n w → Paid (slice_set es x (record { kind = e.kind; body = b; seal = e.seal })) n w
  put_paid n w p = paid_step es x e (record { kind = e.kind; body = b; seal = e.seal }) e_at n w w p (subst (λ z. Pays e.body z w w) (sym becomes) (pays_install e.body f w e_rests))

  pub put_opens : (y : ℕ) → opens_at ps y ≡ opens_at (slice_set ps f.number (Owned x)) y + one_of f.number y
  put_opens = opens_installed told f.number page held es ps us s (open_there _ own) f refl full x e (record { kind = e.kind; body = b; seal = e.seal }) e_at (shown_resting e.body e_rests) (ap shown becomes ∙ shown_installed e.body f e_rests)

  pub put_pins : ((kind : ImageKind) (content : List ℕ) → StandsFor told kind content e.body → ImageStands told kind content f.bytes.items → StandsFor told kind content b) → Pinned told x page es (slice_set es x (record { kind = e.kind; body = b; seal = e.seal })) ps (slice_set ps f.number (Owned x)) us us held
  put_pins stands = installed_at told f.number page held es ps us s (open_there _ own) f refl full x e (record { kind = e.kind; body = b; seal = e.seal }) e_at (shown_resting e.body e_rests) (ap shown becomes ∙ shown_installed e.body f e_rests) refl refl (ap is_alive becomes ∙ alive_installed e.body f e_rests)
      (λ kind content k st. stands kind content st (subst (λ z. ImageStands told z content f.bytes.items) k (e_put content (subst (λ z. StandsFor told z content e.body) (sym k) st))))

-- a new page by its entry
entry_new : (told : Bool) (page : ℕ) (o : OpenPage) → length o.frame.bytes.items ≡ page → (e : Entry) → e.body ≡ Resident o.frame None → (p : SoloPage) → p.seal.value ≡ o → e.seal.value ≡ o → e.kind ≡ o.kind → IsAccepted o.kind o.frame.bytes.items → 4096 ≤ page → IsEntryOf told page p e
entry_new told page o full e body p seal seal' kind acc low =
    (record {
      seal = seal' ∙ sym seal;
      kind = kind ∙ ap (λ (z : OpenPage). z.kind) (sym seal);
      alive = ap is_alive body;
      long = ap (λ (z : OpenPage). length (flat z.kind z.frame.bytes.items)) seal ∙ flat_as_long o.kind o.frame.bytes.items acc (omega (arith, low, full)) ∙ full;
      stands = subst (λ z. StandsFor told p.seal.value.kind (flat p.seal.value.kind p.seal.value.frame.bytes.items) z) (sym body)
          (subst (λ (z : OpenPage). StandsFor told z.kind (flat z.kind z.frame.bytes.items) (Resident o.frame None)) (sym seal) (record { accepted = acc; same = λ t. refl }, tt));
    })

module _ (told : Bool) (page held : ℕ) (es es' : List Entry) (ps : List Place) (us : List ℕ) (s : Sound page es ps us held) (o : OpenPage) (own : 0 < opens_at ps o.frame.number) (full : length o.frame.bytes.items ≡ page) (e : Entry) (body : e.body ≡ Resident o.frame None) (pushed : es' ≡ es ++ (e ∷ [])) (n : ℕ) (at : n ≡ length es) where
  pub new_closed : Closed told o.frame.number page es es' ps (slice_set ps o.frame.number (Owned n)) us (slice_set us o.frame.number 0) (held - 1)
  new_closed = subst (λ z. Closed told o.frame.number page es es' ps (slice_set ps o.frame.number (Owned z)) us (slice_set us o.frame.number 0) (held - 1)) (sym at)
      (subst (λ z. Closed told o.frame.number page es z ps (slice_set ps o.frame.number (Owned (length es))) us (slice_set us o.frame.number 0) (held - 1)) (sym pushed)
      (sealed_new told o.frame.number page held es ps us s (open_there _ own) o.frame refl full e (ap shown body)))

  pub new_paid : (m w : ℕ) → Paid es m w → Paid es' (raised m) w
  new_paid m w p = paid_new es es' e o.frame m w pushed body p

  new_at : slice_get es' n ≡ Some e
  new_at = ap (λ z. slice_get z n) pushed ∙ ap (slice_get (es ++ (e ∷ []))) at ∙ get_push_same es e

  pub new_unpinned : pins_at es' (slice_set us o.frame.number 0) n ≡ 0
  new_unpinned = ap (λ z. used_in (slice_set us o.frame.number 0) (shown_in z)) new_at ∙ ap (λ z. used_in (slice_set us o.frame.number 0) (shown z)) body ∙ index_set_same us o.frame.number 0 (let l = s.long in let k : o.frame.number < length ps = slice_get_within ps o.frame.number Open (open_there _ own) in omega (arith, l, k))

  pub new_live : (p : SoloPage) → p.at ≡ n → p.seal.value ≡ o → e.seal.value ≡ o → e.kind ≡ o.kind → IsAccepted o.kind o.frame.bytes.items → 4096 ≤ page → LiveAt told page es' p
  new_live p pat seal seal' kind acc low = subst (λ z. LiveIn told page p z) (sym (ap (slice_get es') pat ∙ new_at)) (entry_new told page o full e body p seal seal' kind acc low)

module _ (told : Bool) (x page held : ℕ) (es : List Entry) (ps : List Place) (us : List ℕ) (s : Sound page es ps us held) (within : x < length es) (free : pins_at es us x ≡ 0) (e : Entry) (is : e ≡ get_or es x e) (b : PageBody) (gone : shown b ≡ None) (dead : is_alive b ≡ false) (o : Option Frame) (was : o ≡ shown e.body) where
  g_at : slice_get es x ≡ Some e
  g_at = slice_get_read es (length es) x e refl within is

  pub end_paid : (n w : ℕ) → Paid es n w → Paid (slice_set es x (record { kind = e.kind; body = b; seal = e.seal })) n w
  end_paid n w p = paid_step es x e (record { kind = e.kind; body = b; seal = e.seal }) g_at n w w p (pays_end e.body b w dead)

  pub end_slot : (f : Frame) → o ≡ Some f → f.number < length ps
  end_slot f k = slice_get_within ps f.number (Owned x) (s.owned x f (ap shown_in g_at ∙ sym was ∙ k))

  pub end_some : (f : Frame) → o ≡ Some f → Ended told x page es (slice_set es x (record { kind = e.kind; body = b; seal = e.seal })) ps (slice_set ps f.number (Spare f)) us us held
  end_some f k = ended_resident told x page held es ps us s e (record { kind = e.kind; body = b; seal = e.seal }) g_at gone dead f (sym was ∙ k) free

  pub end_none : o ≡ None → Ended told x page es (slice_set es x (record { kind = e.kind; body = b; seal = e.seal })) ps ps us us held
  end_none k = ended_resting told x page held es ps us s e (record { kind = e.kind; body = b; seal = e.seal }) g_at gone dead (sym was ∙ k)

dead_shown : (b : PageBody) → is_alive b ≡ false → shown b ≡ None
dead_shown (Resident f t) k = absurd (cc k)
dead_shown (Resting t) k = absurd (cc k)
dead_shown (Dead f) k = refl

vacant_some : (es : List Entry) (x : ℕ) (o : Option Entry) → slice_get es x ≡ o → VacantIn o → (e : Entry) × (slice_get es x ≡ Some e) × (is_alive e.body ≡ false)
vacant_some es x None at v = absurd v
vacant_some es x (Some e) at v = (e, at, v)

module _ (told : Bool) (page held : ℕ) (es : List Entry) (ps : List Place) (us : List ℕ) (s : Sound page es ps us held) (x : ℕ) (vacant : VacantAt es x) (o : OpenPage) (own : 0 < opens_at ps o.frame.number) (full : length o.frame.bytes.items ≡ page) (e : Entry) (body : e.body ≡ Resident o.frame None) where
  old : (d : Entry) × (slice_get es x ≡ Some d) × (is_alive d.body ≡ false)
  old = vacant_some es x (slice_get es x) refl vacant

  pub over_within : x < length es
  over_within = slice_get_within es x old.0 old.1

  pub over_closed : Closed told o.frame.number page es (slice_set es x e) ps (slice_set ps o.frame.number (Owned x)) us (slice_set us o.frame.number 0) (held - 1)
  over_closed = sealed_there told o.frame.number page held es ps us s (open_there _ own) o.frame refl full x old.0 e old.1 old.2 (dead_shown old.0.body old.2) (ap shown body)

  pub over_paid : (m w : ℕ) → Paid es m w → Paid (slice_set es x e) (raised m) w
  over_paid m w p = paid_over es x old.0 e o.frame m w old.1 old.2 body p

  pub over_differs : (p : SoloPage) → LiveAt told page es p → p.at ≢ x
  over_differs p v k = over_not told o.frame.number page held es ps us s (open_there _ own) o.frame refl full x old.0 e old.1 old.2 (dead_shown old.0.body old.2) (ap shown body) p k v

  over_get : slice_get (slice_set es x e) x ≡ Some e
  over_get = get_set_same es x e over_within

  pub over_unpinned : pins_at (slice_set es x e) (slice_set us o.frame.number 0) x ≡ 0
  over_unpinned = ap (λ z. used_in (slice_set us o.frame.number 0) (shown_in z)) over_get ∙ ap (λ z. used_in (slice_set us o.frame.number 0) (shown z)) body ∙ index_set_same us o.frame.number 0 (let l = s.long in let k : o.frame.number < length ps = slice_get_within ps o.frame.number Open (open_there _ own) in omega (arith, l, k))

  pub over_live : (p : SoloPage) → p.at ≡ x → p.seal.value ≡ o → e.seal.value ≡ o → e.kind ≡ o.kind → IsAccepted o.kind o.frame.bytes.items → 4096 ≤ page → LiveAt told page (slice_set es x e) p
  over_live p pat seal seal' kind acc low = subst (λ z. LiveIn told page p z) (sym (ap (slice_get (slice_set es x e)) pat ∙ over_get)) (entry_new told page o full e body p seal seal' kind acc low)
