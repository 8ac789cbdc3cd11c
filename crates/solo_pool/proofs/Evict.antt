-- A page that goes out.
use Rattle.std.proofs.Common.{◌≡◌, ℕ, ◌+◌, ◌<◌, List, length, refl, sym, ap, ◌∙◌, subst, arith, Option, Some, None, get_or, Bool, true}
use Rattle.std.specs.Prelude.{slice_get, slice_index, slice_set, IsSome}
use Rattle.std.proofs.lemmas.Option.{slice_get_read, slice_get_within}
use Rattle.ooc_io.specs.declared.ticket.Ticket.{Ticket}
use Rattle.page_body.specs.Bodies.{IsResident, CanRest, rested, frame_of}
use Rattle.solo_pool.specs.Weights.{shown, is_alive}
use Rattle.page_body.specs.Stands.{StandsFor}
use Rattle.row_image.specs.declared.image.ImageKind.{ImageKind}
use Rattle.evict_ring.specs.declared.frame.Frame.{Frame}
use Rattle.page_body.specs.declared.body.PageBody.{PageBody}
use Rattle.page_body.specs.declared.body.PageBody.TheVariants.{Resident, Resting, Dead}
use Rattle.solo_pool.specs.declared.entry.Place.{Place}
use Rattle.solo_pool.specs.declared.entry.Place.TheVariants.{Owned, Open}
use Rattle.solo_pool.specs.declared.entry.Entry.{Entry}
use Rattle.solo_pool.specs.State.{shown_in, frame_at}
use Rattle.solo_pool.specs.Moved.{number_in}
use Rattle.solo_pool.specs.Sound.{Sound}
use Rattle.solo_pool.specs.Turned.{Opened}
use Rattle.solo_pool.specs.Sums.{get_set_other}
use Rattle.solo_pool.proofs.Found.{some_within}
use Rattle.row_image.specs.Bytes.{IsPage}
use Rattle.page_body.specs.Bodies.{image_of, writes_to_rest}
use Rattle.solo_pool.specs.Writes.{Paid}
use Rattle.solo_pool.proofs.Paying.{Pays, paid_step, pays_rest}
use Rattle.solo_pool.proofs.Turns.{took_owned}

some_number : (o : Option Frame) (i : ℕ) → number_in o ≡ Some i → IsSome o
some_number None i e = absurd (cc)
some_number (Some f) i e = refl

resident_of : (b : PageBody) → IsSome (shown b) → IsResident b
resident_of (Resident f t) k = tt
resident_of (Resting t) k = absurd (cc k)
resident_of (Dead f) k = absurd (cc k)

resident_frame : (b : PageBody) → IsResident b → shown b ≡ frame_of b
resident_frame (Resident f t) k = refl
resident_frame (Resting t) k = absurd k
resident_frame (Dead f) k = absurd k

rests_none : (b : PageBody) (given : Option Ticket) → IsResident b → CanRest b given → shown (rested b given) ≡ None
rests_none (Resident f (Some t)) given r k = refl
rests_none (Resident f None) (Some t) r k = refl
rests_none (Resident f None) None r k = absurd (cc k)
rests_none (Resting t) given r k = absurd r
rests_none (Dead f) given r k = absurd r

rests_alive : (b : PageBody) (given : Option Ticket) → IsResident b → CanRest b given → is_alive (rested b given) ≡ true
rests_alive (Resident f (Some t)) given r k = refl
rests_alive (Resident f None) (Some t) r k = refl
rests_alive (Resident f None) None r k = absurd (cc k)
rests_alive (Resting t) given r k = absurd r
rests_alive (Dead f) given r k = absurd r

image_full : (b : PageBody) (n : ℕ) → IsResident b → ((f : Frame) → shown b ≡ Some f → length f.bytes.items ≡ n) → length (image_of b) ≡ n
image_full (Resident f t) n k full = full f refl
image_full (Resting t) n k full = absurd k
image_full (Dead f) n k full = absurd k

module _ (told : Bool) (i x page held : ℕ) (es : List Entry) (ps : List Place) (us : List ℕ) (s : Sound page es ps us held) (place : slice_get ps i ≡ Some (Owned x)) where
  there : IsSome (frame_at es x)
  there = some_number (frame_at es x) i (s.backed i x place)

  pub out_within : x < length es
  out_within = some_within es x there

  pub out_slot : i < length ps
  out_slot = slice_get_within ps i (Owned x) place

  pub out_use : i < length us
  out_use = let l = s.long in let k = out_slot in omega (arith, l, k)

  pub out_resident : (e : Entry) → e ≡ get_or es x e → IsResident e.body
  out_resident e is = resident_of e.body (subst (λ o. IsSome (shown_in o)) (slice_get_read es (length es) x e refl out_within is) there)

  pub out_page : IsPage page → (e : Entry) → e ≡ get_or es x e → IsPage (length (image_of e.body))
  out_page fits e is =
      let at : slice_get es x ≡ Some e = slice_get_read es (length es) x e refl out_within is in
      subst IsPage (sym (image_full e.body page (out_resident e is) (λ f k. s.full x f (ap shown_in at ∙ k)))) fits

  pub out_same : (e0 e : Entry) → e0 ≡ get_or es x e0 → e ≡ get_or es x e → e0 ≡ e
  out_same e0 e is0 is = let a = slice_get_read es (length es) x e0 refl out_within is0 in let b = slice_get_read es (length es) x e refl out_within is in cc (a, b)

  module _ (e : Entry) (is : e ≡ get_or es x e) (f : Frame) (frame : frame_of e.body ≡ Some f) where
    at : slice_get es x ≡ Some e
    at = slice_get_read es (length es) x e refl out_within is

    shows : shown e.body ≡ Some f
    shows = resident_frame e.body (out_resident e is) ∙ frame

    pub out_number : f.number ≡ i
    out_number = let a : frame_at es x ≡ Some f = ap shown_in at ∙ shows in let b : Some f.number ≡ Some i = sym (ap number_in a) ∙ s.backed i x place in cc b

    pub out_full : length f.bytes.items ≡ page
    out_full = s.full x f (ap shown_in at ∙ shows)

    pub out_opened : slice_index us i ≡ 0 → (given : Option Ticket) → CanRest e.body given → (b : PageBody) → b ≡ rested e.body given → ((kind : ImageKind) (content : List ℕ) → StandsFor told kind content e.body → StandsFor told kind content b)
        → Opened told i page es (slice_set es x (record { kind = e.kind; body = b; seal = e.seal })) ps (slice_set ps i Open) us (slice_set us i 1) (held + 1)
    out_opened idle given can b becomes stands = took_owned told i page held es ps us s out_slot idle x e (record { kind = e.kind; body = b; seal = e.seal }) f at shows place (ap shown becomes ∙ rests_none e.body given (out_resident e is) can) refl refl (ap is_alive becomes ∙ rests_alive e.body given (out_resident e is) can) stands

    pub out_others : (e' : Entry) (y : ℕ) → frame_at es y ≡ None → slice_get (slice_set es x e') y ≡ slice_get es y
    out_others e' y none = get_set_other es x y e' (λ k. let z : frame_at es x ≡ None = subst (λ j. frame_at es j ≡ None) k none in let w : frame_at es x ≡ Some f = ap shown_in at ∙ shows in absurd (cc (z, w)))

    pub out_paid : (given : Option Ticket) → CanRest e.body given → (b : PageBody) → b ≡ rested e.body given → (n w w' : ℕ) → w' ≡ writes_to_rest e.body w → Paid es n w → Paid (slice_set es x (record { kind = e.kind; body = b; seal = e.seal })) n w'
    out_paid given can b becomes n w w' more p = paid_step es x e (record { kind = e.kind; body = b; seal = e.seal }) at n w w' p
        (subst (λ z. Pays e.body z w w') (sym becomes) (subst (λ z. Pays e.body (rested e.body given) w z) (sym more) (pays_rest e.body given w (out_resident e is) can)))
