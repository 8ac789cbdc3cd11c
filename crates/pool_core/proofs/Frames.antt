-- A frame is in one place, after each kind of change.
use Rattle.std.proofs.Common.{◌≡◌, ℕ, List, length, Option, Some, None, refl, sym, subst, ◌∙◌}
use Rattle.std.specs.Prelude.{slice_get}
use Rattle.evict_ring.specs.declared.frame.Frame.{Frame}
use Rattle.page_body.specs.declared.body.PageBody.{PageBody}
use Rattle.page_body.specs.Bodies.{frame_of}
use Rattle.pool_core.specs.declared.state.CoreTurn.{CoreTurn}
use Rattle.pool_core.specs.declared.state.CorePage.{CorePage}
use Rattle.pool_core.specs.State.{OnPage, OnTurn}
use Rattle.pool_core.specs.Effects.{spared, owned}
use Rattle.pool_core.specs.Sound.{HasFrame, FrameLies, TurnsLie, BodyLies, PagesLie}
use Rattle.pool_core.proofs.Lists.{Puts, each_put, at_some, of_some, on_put, same_at}

lies_moved : (bytes : ℕ) (pages pages' : List CorePage) (n : ℕ) (spare : Option Frame) (owner : Option ℕ) → FrameLies bytes pages n spare owner
    → ((q : ℕ) → OnPage pages q (λ p. HasFrame n p.body) → OnPage pages' q (λ p. HasFrame n p.body)) → FrameLies bytes pages' n spare owner
lies_moved bytes pages pages' n (Some f) owner h go = h
lies_moved bytes pages pages' n None None h go = h
lies_moved bytes pages pages' n None (Some q) h go = go q h

-- a turn goes out or comes home
pub turns_out : (bytes : ℕ) (turns turns' : List CoreTurn) (pages : List CorePage) (frame : ℕ) (t : CoreTurn) (out : Option ℕ) → TurnsLie bytes turns pages
    → slice_get turns frame ≡ Some t → Puts turns turns' frame (record t { out = out }) → TurnsLie bytes turns' pages
turns_out bytes turns turns' pages frame t out lie e put =
    each_put turns turns' frame (record t { out = out }) (λ n u. (u.turn.frame ≡ n) × FrameLies bytes pages n u.turn.spare u.turn.owner) put
    (lie frame t e) (λ n u ne there. lie n u there)

pub pages_out : (bytes : ℕ) (turns turns' : List CoreTurn) (pages : List CorePage) (frame : ℕ) (t : CoreTurn) (out : Option ℕ) → PagesLie bytes turns pages
    → slice_get turns frame ≡ Some t → Puts turns turns' frame (record t { out = out }) → PagesLie bytes turns' pages
pages_out bytes turns turns' pages frame t out lie e put q p there f has =
    let h = lie q p there f has in
    let P : CoreTurn → Type 0 = λ u. u.turn.owner ≡ Some q in (
      h.0,
      on_put turns turns' frame (record t { out = out }) f.number P P put h.1
          (λ u same is hu. subst P (same_at (slice_get turns frame) u t is e) hu) (λ u ne hu. hu),
    )

-- a page's body keeps its frame
pub record KeepsFrame (old new : PageBody) : Type 0 where
  pub has : (n : ℕ) → HasFrame n old → HasFrame n new
  pub had : (f : Frame) → frame_of new ≡ Some f → (g : Frame) × (frame_of old ≡ Some g) × (f.number ≡ g.number) × (length f.bytes.items ≡ length g.bytes.items)

pub turns_kept : (bytes : ℕ) (turns : List CoreTurn) (pages pages' : List CorePage) (page : ℕ) (p p' : CorePage) → TurnsLie bytes turns pages
    → slice_get pages page ≡ Some p → Puts pages pages' page p' → KeepsFrame p.body p'.body → TurnsLie bytes turns pages'
turns_kept bytes turns pages pages' page p p' lie e put keeps n u there =
    let P : CorePage → Type 0 = λ x. HasFrame n x.body in
    let h = lie n u there in (
      h.0,
      lies_moved bytes pages pages' n u.turn.spare u.turn.owner h.1 (λ q here. on_put pages pages' page p' q P P put here
          (λ x same is hx. keeps.has n (subst P (same_at (slice_get pages page) x p is e) hx)) (λ x ne hx. hx)),
    )

pub pages_kept : (bytes : ℕ) (turns : List CoreTurn) (pages pages' : List CorePage) (page : ℕ) (p p' : CorePage) → PagesLie bytes turns pages
    → slice_get pages page ≡ Some p → Puts pages pages' page p' → KeepsFrame p.body p'.body → PagesLie bytes turns pages'
pages_kept bytes turns pages pages' page p p' lie e put keeps =
    each_put pages pages' page p' (λ q x. BodyLies bytes turns q x.body) put
    (λ f has. let g = keeps.had f has in let h = lie page p e g.0 g.1 in
    (g.3 ∙ h.0, let P : ℕ → Type 0 = λ n. OnTurn turns n (λ t. t.turn.owner ≡ Some page) in subst P (sym g.2) h.1))
    (λ q x ne there. lie q x there)

-- a page without a frame, which may be a new one, gets that of a turn
abbrev pub HasNone : List CorePage → ℕ → Type 0
HasNone pages page = (p : CorePage) → slice_get pages page ≡ Some p → (n : ℕ) → HasFrame n p.body → ⊥

pub turns_given : (bytes : ℕ) (turns turns' : List CoreTurn) (pages pages' : List CorePage) (frame page : ℕ) (t : CoreTurn) (p' : CorePage) → TurnsLie bytes turns pages
    → slice_get turns frame ≡ Some t → Puts turns turns' frame (owned t page) → HasNone pages page → Puts pages pages' page p' → HasFrame frame p'.body → TurnsLie bytes turns' pages'
turns_given bytes turns turns' pages pages' frame page t p' lie e put none page_put has =
    each_put turns turns' frame (owned t page) (λ n u. (u.turn.frame ≡ n) × FrameLies bytes pages' n u.turn.spare u.turn.owner) put
    ((lie frame t e).0, at_some (slice_get pages' page) (λ p. HasFrame frame p.body) p' page_put.there has)
    (λ n u ne there. let h = lie n u there in
    let P : CorePage → Type 0 = λ x. HasFrame n x.body in (
      h.0,
      lies_moved bytes pages pages' n u.turn.spare u.turn.owner h.1 (λ q here. on_put pages pages' page p' q P P page_put here
          (λ x same is hx. absurd (none x is n hx)) (λ x ne hx. hx)),
    ))

pub pages_given : (bytes : ℕ) (turns turns' : List CoreTurn) (pages pages' : List CorePage) (frame page : ℕ) (t : CoreTurn) (p' : CorePage) (f : Frame) → PagesLie bytes turns pages
    → slice_get turns frame ≡ Some t → t.turn.owner ≡ None → Puts turns turns' frame (owned t page) → Puts pages pages' page p'
    → frame_of p'.body ≡ Some f → f.number ≡ frame → length f.bytes.items ≡ bytes → PagesLie bytes turns' pages'
pages_given bytes turns turns' pages pages' frame page t p' f lie e free put page_put has number whole =
    let Q : Frame → Type 0 = λ g. (length g.bytes.items ≡ bytes) × OnTurn turns' g.number (λ u. u.turn.owner ≡ Some page) in
    let R : ℕ → Type 0 = λ n. OnTurn turns' n (λ u. u.turn.owner ≡ Some page) in
    let mine : Q f = (whole, subst R (sym number) (at_some (slice_get turns' frame) (λ u. u.turn.owner ≡ Some page) (owned t page) put.there refl)) in
    each_put pages pages' page p' (λ q x. BodyLies bytes turns' q x.body) page_put
    (λ g has'. subst Q (same_at (frame_of p'.body) f g has has') mine)
    (λ q x ne there g has'. let h = lie q x there g has' in
    let P : CoreTurn → Type 0 = λ u. u.turn.owner ≡ Some q in (
      h.0,
      on_put turns turns' frame (owned t page) g.number P P put h.1
          (λ u same is hu. absurd (let owner : t.turn.owner ≡ Some q = subst P (same_at (slice_get turns frame) u t is e) hu in cc)) (λ u ne hu. hu),
    ))

-- a page's frame goes back to its turn
pub turns_taken : (bytes : ℕ) (turns turns' : List CoreTurn) (pages pages' : List CorePage) (page : ℕ) (t : CoreTurn) (p p' : CorePage) (f : Frame) → TurnsLie bytes turns pages
    → PagesLie bytes turns pages → slice_get turns f.number ≡ Some t → Puts turns turns' f.number (spared t f) → slice_get pages page ≡ Some p → frame_of p.body ≡ Some f
    → Puts pages pages' page p' → TurnsLie bytes turns' pages'
turns_taken bytes turns turns' pages pages' page t p p' f lie pages_lie e put is_page has page_put =
    each_put turns turns' f.number (spared t f) (λ n u. (u.turn.frame ≡ n) × FrameLies bytes pages' n u.turn.spare u.turn.owner) put
    ((lie f.number t e).0, (refl, (pages_lie page p is_page f has).0, refl))
    (λ n u ne there. let h = lie n u there in
    let P : CorePage → Type 0 = λ x. HasFrame n x.body in (
      h.0,
      lies_moved bytes pages pages' n u.turn.spare u.turn.owner h.1 (λ q here. on_put pages pages' page p' q P P page_put here
          (λ x same is hx. absurd (ne (sym (of_some (frame_of p.body) (λ g. g.number ≡ n) f has (subst P (same_at (slice_get pages page) x p is is_page) hx)))))
          (λ x ne hx. hx)),
    ))

pub pages_taken : (bytes : ℕ) (turns turns' : List CoreTurn) (pages pages' : List CorePage) (page : ℕ) (t : CoreTurn) (p p' : CorePage) (f : Frame) → PagesLie bytes turns pages
    → slice_get turns f.number ≡ Some t → Puts turns turns' f.number (spared t f) → slice_get pages page ≡ Some p → frame_of p.body ≡ Some f
    → Puts pages pages' page p' → frame_of p'.body ≡ None → PagesLie bytes turns' pages'
pages_taken bytes turns turns' pages pages' page t p p' f lie e put is_page has page_put none =
    let mine : t.turn.owner ≡ Some page = of_some (slice_get turns f.number) (λ u. u.turn.owner ≡ Some page) t e (lie page p is_page f has).1 in
    each_put pages pages' page p' (λ q x. BodyLies bytes turns' q x.body) page_put
    (λ g has'. absurd (let h : ⊥ = cc in h))
    (λ q x ne there g has'. let h = lie q x there g has' in
    let P : CoreTurn → Type 0 = λ u. u.turn.owner ≡ Some q in (
      h.0,
      on_put turns turns' f.number (spared t f) g.number P P put h.1
          (λ u same is hu. absurd (ne (let owner : t.turn.owner ≡ Some q = subst P (same_at (slice_get turns f.number) u t is e) hu in cc))) (λ u ne hu. hu),
    ))
