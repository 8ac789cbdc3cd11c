-- Live pages that differ are at most as many as the frames and the writes.
use Rattle.std.proofs.Common.{◌≡◌, ◌≢◌, ℕ, ◌+◌, ◌-◌, ◌^◌, ◌<◌, ◌≤◌, List, [], ◌∷◌, length, suc, zero, refl, sym, ap, ◌∙◌, subst, arith, Option, Some, None, Bool, true, false}
use Rattle.std.specs.Prelude.{slice_get, slice_index, slice_set, sum}
use Rattle.std.specs.List.{sum_by, All, AllByRecursion}
use Rattle.std.proofs.lemmas.List.Sums.{sum_by-cons}
use Rattle.std.proofs.Math.Decide.{dec_le}
use Rattle.std.proofs.Math.Nat.{lt_of_not-le}
use mathlib.Core.Logic.{dite}
use native.Mathlib.Decide.{ℕ_discrete}
use Rattle.evict_ring.specs.declared.frame.Frame.{Frame}
use Rattle.number_bags.specs.Bags.{one_of, times}
use Rattle.page_body.specs.declared.body.PageBody.{PageBody}
use Rattle.page_body.specs.declared.body.PageBody.TheVariants.{Resident, Resting, Dead}
use Rattle.number_bags.proofs.Bags.{one_same, one_other, one_most}
use Rattle.number_bags.proofs.Few.{among}
use Rattle.solo_pool.specs.declared.entry.Place.{Place}
use Rattle.solo_pool.specs.declared.entry.Place.TheVariants.{Spare, Open, Owned}
use Rattle.solo_pool.specs.declared.entry.Entry.{Entry}
use Rattle.solo_pool.specs.declared.page.SoloPage.{SoloPage}
use Rattle.ooc_io.specs.declared.lane.SpillLane.{Ghosts}
use Rattle.ooc_io.specs.declared.ticket.TicketMark as mark
use Rattle.solo_pool.specs.declared.solo_tables.SoloTables.{SoloTables}
use Rattle.solo_pool.specs.Weights.{shown, is_alive, ticketed}
use Rattle.solo_pool.specs.Moved.{number_in}
use Rattle.solo_pool.specs.State.{shown_in, frame_at}
use Rattle.solo_pool.specs.Sound.{Sound}
use Rattle.solo_pool.specs.Writes.{Paid, ticket_in}
use Rattle.solo_pool.specs.Views.{LiveAt, LiveIn, solo_terms}
use Rattle.solo_pool.specs.View.{view_of, sealed_of, wrote_of}
use Rattle.page_body.specs.View.{PoolView}
use Rattle.page_body.specs.PageLists.{ids_of, AllLive, WereWritten}
use Rattle.solo_pool.specs.Sums.{sum_step, sum_set, index_set_same, index_set_other}

-- the tickets, page by page
abbrev pub tickets : List Entry → List ℕ
tickets [] = []
tickets (e ∷ es) = ticket_in e ∷ tickets es

tickets_sum : (es : List Entry) → sum (tickets es) ≡ sum_by ticket_in es
tickets_sum [] = refl
tickets_sum (e ∷ es) = let a = tickets_sum es in omega (arith, a, sum_step (ticket_in e) (tickets es), sum_by-cons ticket_in e es)

abbrev pub ticket_there : Option Entry → ℕ
ticket_there None = 0
ticket_there (Some e) = ticket_in e

tickets_at : (es : List Entry) (x : ℕ) → slice_index (tickets es) x ≡ ticket_there (slice_get es x)
tickets_at [] x = refl
tickets_at (e ∷ es) zero = refl
tickets_at (e ∷ es) (suc x) = tickets_at es x

-- one for each frame
abbrev pub ones : List Place → List ℕ
ones [] = []
ones (p ∷ ps) = 1 ∷ ones ps

ones_sum : (ps : List Place) → sum (ones ps) ≡ length ps
ones_sum [] = refl
ones_sum (p ∷ ps) = let a = ones_sum ps in omega (arith, a, sum_step 1 (ones ps))

ones_at : (ps : List Place) (y : ℕ) (p : Place) → slice_get ps y ≡ Some p → slice_index (ones ps) y ≡ 1
ones_at [] y p e = absurd (cc e)
ones_at (q ∷ ps) zero p e = refl
ones_at (q ∷ ps) (suc y) p e = ones_at ps y p e

-- the frames of the pages that have one, and the numbers of the others
abbrev pub if_frame : Option Frame → List ℕ → List ℕ
if_frame (Some f) ks = f.number ∷ ks
if_frame None ks = ks

abbrev pub if_none : Option Frame → ℕ → List ℕ → List ℕ
if_none (Some f) x ks = ks
if_none None x ks = x ∷ ks

abbrev pub frames_of : List Entry → List SoloPage → List ℕ
frames_of es [] = []
frames_of es (p ∷ pages) = if_frame (frame_at es p.at) (frames_of es pages)

abbrev pub rests_of : List Entry → List SoloPage → List ℕ
rests_of es [] = []
rests_of es (p ∷ pages) = if_none (frame_at es p.at) p.at (rests_of es pages)

one_each : (o : Option Frame) (x : ℕ) (ks js : List ℕ) → length (if_frame o ks) + length (if_none o x js) ≡ length ks + length js + 1
one_each (Some f) x ks js = omega arith
one_each None x ks js = omega arith

split_length : (es : List Entry) (pages : List SoloPage) → length (frames_of es pages) + length (rests_of es pages) ≡ length pages
split_length es [] = refl
split_length es (p ∷ pages) = let a = split_length es pages in omega (arith, a, one_each (frame_at es p.at) p.at (frames_of es pages) (rests_of es pages))

-- how often a number is a page's
abbrev pub ids : List SoloPage → ℕ → ℕ
ids [] y = 0
ids (p ∷ pages) y = one_of p.at y + ids pages y

ids_bag : (told : Bool) (pages : List SoloPage) (y : ℕ) → ids_of (solo_terms told) pages y ≡ ids pages y
ids_bag told [] y = refl
ids_bag told (p ∷ pages) y = let a = ids_bag told pages y in omega (arith, a)

-- a page at rest has its number among those of the pages
rest_least : (o : Option Frame) (x y : ℕ) (ks : List ℕ) → times (if_none o x ks) y ≤ one_of x y + times ks y
rest_least (Some f) x y ks = omega arith
rest_least None x y ks = omega arith

rests_least : (es : List Entry) (pages : List SoloPage) (y : ℕ) → times (rests_of es pages) y ≤ ids pages y
rests_least es [] y = omega arith
rests_least es (p ∷ pages) y = let a = rests_least es pages y in omega (arith, a, rest_least (frame_at es p.at) p.at y (rests_of es pages))

-- a live body without a frame has a ticket
rest_ticket : (b : PageBody) → is_alive b ≡ true → shown b ≡ None → ticketed b ≡ 1
rest_ticket (Resident f t) alive none = absurd (cc none)
rest_ticket (Resting t) alive none = refl
rest_ticket (Dead f) alive none = absurd (cc alive)

live_ticket : (told : Bool) (page : ℕ) (p : SoloPage) (o : Option Entry) → LiveIn told page p o → shown_in o ≡ None → ticket_there o ≡ 1
live_ticket told page p None live none = absurd live
live_ticket told page p (Some e) live none = rest_ticket e.body live.alive none

module _ (told : Bool) (page held : ℕ) (es : List Entry) (ps : List Place) (us : List ℕ) (s : Sound page es ps us held) where
  -- where no ticket is, no page rests
  rest_here : (p : SoloPage) (y : ℕ) (ks : List ℕ) → LiveAt told page es p → ticket_there (slice_get es y) ≡ 0 → (o : Option Frame) → frame_at es p.at ≡ o → times (if_none o p.at ks) y ≡ times ks y
  rest_here p y ks live none (Some f) is = refl
  rest_here p y ks live none None is = dite (ℕ_discrete y p.at)
      (λ e. let a = live_ticket told page p (slice_get es p.at) live is in let b : ticket_there (slice_get es p.at) ≡ 0 = subst (λ z. ticket_there (slice_get es z) ≡ 0) e none in absurd (omega (arith, a, b)))
      (λ n. omega (arith, one_other p.at y n))

  no_rests : (pages : List SoloPage) (y : ℕ) → AllByRecursion (LiveAt told page es) pages → ticket_there (slice_get es y) ≡ 0 → times (rests_of es pages) y ≡ 0
  no_rests [] y live none = refl
  no_rests (p ∷ pages) y live none = rest_here p y (rests_of es pages) live.0 none (frame_at es p.at) refl ∙ no_rests pages y live.1 none

  rests_fit : (pages : List SoloPage) → AllByRecursion (LiveAt told page es) pages → ((y : ℕ) → ids pages y ≤ 1) → (y : ℕ) → times (rests_of es pages) y ≤ slice_index (tickets es) y
  rests_fit pages live apart y = dite (ℕ_discrete (ticket_there (slice_get es y)) 0)
      (λ none. let a = no_rests pages y live none in omega (arith, a))
      (λ some. let a = rests_least es pages y in let b = apart y in let c = tickets_at es y in let d : 0 < ticket_there (slice_get es y) = dite (dec_le 1 (ticket_there (slice_get es y))) (λ h. h) (λ n. absurd (some (let k = lt_of_not-le n in omega (arith, k)))) in omega (arith, a, b, c, d))

  -- a page whose frame is y is the one that owns it
  frame_here : (p : SoloPage) (y z : ℕ) (ks : List ℕ) → slice_get ps y ≡ Some (Owned z) → (o : Option Frame) → frame_at es p.at ≡ o → times (if_frame o ks) y ≤ one_of p.at z + times ks y
  frame_here p y z ks place None is = omega arith
  frame_here p y z ks place (Some f) is = dite (ℕ_discrete y f.number)
      (λ e. let own : slice_get ps y ≡ Some (Owned p.at) = subst (λ k. slice_get ps k ≡ Some (Owned p.at)) (sym e) (s.owned p.at f is) in
      let same : Some (Owned p.at) ≡ Some (Owned z) = sym own ∙ place in
      let at : p.at ≡ z = cc same in
      let one : one_of p.at z ≡ 1 = subst (λ k. one_of p.at k ≡ 1) at (one_same p.at) in
      omega (arith, one, one_most f.number y))
      (λ n. omega (arith, one_other f.number y n))

  frames_owned : (pages : List SoloPage) (y z : ℕ) → slice_get ps y ≡ Some (Owned z) → times (frames_of es pages) y ≤ ids pages z
  frames_owned [] y z place = omega arith
  frames_owned (p ∷ pages) y z place = let a = frames_owned pages y z place in omega (arith, a, frame_here p y z (frames_of es pages) place (frame_at es p.at) refl)

  frame_not : (p : SoloPage) (y : ℕ) (ks : List ℕ) → ((z : ℕ) → slice_get ps y ≡ Some (Owned z) → ⊥) → (o : Option Frame) → frame_at es p.at ≡ o → times (if_frame o ks) y ≡ times ks y
  frame_not p y ks not None is = refl
  frame_not p y ks not (Some f) is = dite (ℕ_discrete y f.number)
      (λ e. absurd (not p.at (subst (λ k. slice_get ps k ≡ Some (Owned p.at)) (sym e) (s.owned p.at f is))))
      (λ n. omega (arith, one_other f.number y n))

  frames_not : (pages : List SoloPage) (y : ℕ) → ((z : ℕ) → slice_get ps y ≡ Some (Owned z) → ⊥) → times (frames_of es pages) y ≡ 0
  frames_not [] y not = refl
  frames_not (p ∷ pages) y not = frame_not p y (frames_of es pages) not (frame_at es p.at) refl ∙ frames_not pages y not

  frames_in : (pages : List SoloPage) → ((y : ℕ) → ids pages y ≤ 1) → (y : ℕ) (o : Option Place) → slice_get ps y ≡ o → times (frames_of es pages) y ≤ slice_index (ones ps) y
  frames_in pages apart y None at = let a = frames_not pages y (λ z k. let both : None ≡ Some (Owned z) = sym at ∙ k in cc both) in omega (arith, a)
  frames_in pages apart y (Some (Spare f)) at = let a = frames_not pages y (λ z k. let both : Some (Spare f) ≡ Some (Owned z) = sym at ∙ k in cc both) in omega (arith, a)
  frames_in pages apart y (Some Open) at = let a = frames_not pages y (λ z k. let both : Some Open ≡ Some (Owned z) = sym at ∙ k in cc both) in omega (arith, a)
  frames_in pages apart y (Some (Owned z)) at = let a = frames_owned pages y z at in let b = apart z in let c = ones_at ps y (Owned z) at in omega (arith, a, b, c)

  pub live_bound : (pages : List SoloPage) → AllByRecursion (LiveAt told page es) pages → ((y : ℕ) → ids pages y ≤ 1) → length pages ≤ length ps + sum_by ticket_in es
  live_bound pages live apart =
      let a = among (frames_of es pages) (ones ps) (λ y. frames_in pages apart y (slice_get ps y) refl) in
      let b = among (rests_of es pages) (tickets es) (rests_fit pages live apart) in
      omega (arith, a, b, ones_sum ps, tickets_sum es, split_length es pages)

by_recursion : {Page Pin : Type 0} (a : PoolView Page Pin) (pages : List Page) → AllLive a pages → AllByRecursion a.live pages
by_recursion a [] live = tt
by_recursion a (p ∷ pages) live = (live.0, by_recursion a pages live.1)

module _ {L M : Type 0} {lane : Ghosts L M} {marks : mark.Ghosts M} where
  -- while its count of writes is below its end
  pub were_written : (told : Bool) (name faults writes : ℕ) (s : SoloTables L M lane marks) → WereWritten (solo_terms told) (view_of told name faults writes s)
  were_written told name faults writes s pages live differ below =
      let paid = s.paid.tickets below in
      let bound = live_bound told s.page s.held s.entries.items s.places.items s.uses.items s.sound pages (by_recursion (view_of told name faults writes s) pages live) (λ y. subst (λ z. z ≤ 1) (ids_bag told pages y) (differ refl y)) in
      omega (arith, paid, bound)

  -- no page is written twice
  pub wrote_most : (s : SoloTables L M lane marks) → wrote_of s ≤ sealed_of s
  wrote_most s = dite (dec_le (2 ^ 64 - 1) s.sealed)
      (λ h. let m = s.paid.most in omega (arith, h, m))
      (λ n. let o = s.paid.once (lt_of_not-le n) in omega (arith, o))
