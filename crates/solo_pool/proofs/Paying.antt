-- How the counts of writes go on with a change of one page.
use Rattle.std.proofs.Common.{◌≡◌, ℕ, ◌+◌, ◌-◌, ◌^◌, ◌<◌, ◌≤◌, List, [], ◌∷◌, ◌++◌, refl, sym, ap, subst, arith, Option, Some, None, false}
use Rattle.std.specs.Prelude.{slice_get, slice_set}
use Rattle.std.specs.List.{sum_by}
use Rattle.std.proofs.lemmas.List.Sums.{sum_by-set, sum_by_push}
use Rattle.std.proofs.lemmas.Option.{slice_get_within, get_or_from_slice_get}
use Rattle.std.proofs.Math.Nat.{min-le_left, min-le_right}
use Rattle.ooc_io.specs.Counts.{raised}
use Rattle.ooc_io.specs.declared.ticket.Ticket.{Ticket}
use Rattle.evict_ring.specs.declared.frame.Frame.{Frame}
use Rattle.page_body.specs.Bodies.{IsResident, IsResting, CanRest, rested, installed, ticket_of, writes_to_rest}
use Rattle.page_body.specs.declared.body.PageBody.{PageBody}
use Rattle.page_body.specs.declared.body.PageBody.TheVariants.{Resident, Resting, Dead}
use Rattle.solo_pool.specs.declared.entry.Entry.{Entry}
use Rattle.solo_pool.specs.Weights.{is_alive, one_if_some, one_if_none, ticketed, unwritten}
use Rattle.solo_pool.specs.Writes.{Paid, ticket_in, unwritten_in}

-- what a step of a body may do to the count of writes
pub record Pays (b b' : PageBody) (w w' : ℕ) : Type 0 where
  pub ticket : w' < 2 ^ 64 - 1 → ticketed b' + w ≤ ticketed b + w'
  pub once : w' + unwritten b' ≤ w + unwritten b
  pub later : w' < 2 ^ 64 - 1 → w < 2 ^ 64 - 1
  pub most : w ≤ 2 ^ 64 - 1 → w' ≤ 2 ^ 64 - 1

module _ (es : List Entry) (x : ℕ) (e e' : Entry) (at : slice_get es x ≡ Some e) where
  one_set : (f : Entry → ℕ) → sum_by f (slice_set es x e') + f e ≡ sum_by f es + f e'
  one_set f = subst (λ z. sum_by f (slice_set es x e') + f z ≡ sum_by f es + f e') (get_or_from_slice_get es x e e at) (sum_by-set f es x e' e (slice_get_within es x e at))

  pub paid_step : (s w w' : ℕ) → Paid es s w → Pays e.body e'.body w w' → Paid (slice_set es x e') s w'
  paid_step s w w' p step = record {
    most = step.most p.most;
    tickets = λ l. let a = p.tickets (step.later l) in let b = step.ticket l in omega (arith, one_set ticket_in, a, b);
    once = λ l. let a = p.once l in let b = step.once in omega (arith, one_set unwritten_in, a, b);
  }

raised_most : (w : ℕ) → raised w ≤ w + 1
raised_most w = min-le_left (w + 1) (2 ^ 64 - 1)

pub pays_rest : (b : PageBody) (given : Option Ticket) (w : ℕ) → IsResident b → CanRest b given → Pays b (rested b given) w (writes_to_rest b w)
pays_rest (Resident f (Some t)) given w r k = record { ticket = λ l. omega arith; once = omega arith; later = λ l. l; most = λ l. l }
pays_rest (Resident f None) (Some t) w r k = record { ticket = λ l. omega (arith, l); once = omega (arith, raised_most w); later = λ l. omega (arith, l); most = λ l. min-le_right (w + 1) (2 ^ 64 - 1) }
pays_rest (Resident f None) None w r k = absurd (cc k)
pays_rest (Resting t) given w r k = absurd r
pays_rest (Dead f) given w r k = absurd r

pub pays_install : (b : PageBody) (f : Frame) (w : ℕ) → IsResting b → Pays b (installed b f) w w
pays_install (Resident g t) f w k = absurd k
pays_install (Resting t) f w k = record { ticket = λ l. omega arith; once = omega arith; later = λ l. l; most = λ l. l }
pays_install (Dead g) f w k = absurd k

ends_ticket : (b : PageBody) → is_alive b ≡ false → ticketed b ≡ 0
ends_ticket (Resident f t) k = absurd (cc k)
ends_ticket (Resting t) k = absurd (cc k)
ends_ticket (Dead f) k = refl

ends_unwritten : (b : PageBody) → is_alive b ≡ false → unwritten b ≡ 0
ends_unwritten (Resident f t) k = absurd (cc k)
ends_unwritten (Resting t) k = absurd (cc k)
ends_unwritten (Dead f) k = refl

pub pays_end : (b b' : PageBody) (w : ℕ) → is_alive b' ≡ false → Pays b b' w w
pays_end b b' w k = record { ticket = λ l. omega (arith, ends_ticket b' k); once = omega (arith, ends_unwritten b' k); later = λ l. l; most = λ l. l }

ticket_counts : (b : PageBody) → IsResident b → ticketed b ≡ one_if_some (ticket_of b)
ticket_counts (Resident f t) k = refl
ticket_counts (Resting t) k = absurd k
ticket_counts (Dead f) k = absurd k

unwritten_counts : (b : PageBody) → IsResident b → unwritten b ≡ one_if_none (ticket_of b)
unwritten_counts (Resident f t) k = refl
unwritten_counts (Resting t) k = absurd k
unwritten_counts (Dead f) k = absurd k

-- the ticket stays
pub pays_same : (b b' : PageBody) (w : ℕ) → IsResident b → IsResident b' → ticket_of b' ≡ ticket_of b → Pays b b' w w
pays_same b b' w k k' same = record {
  ticket = λ l. let a = ap one_if_some same in omega (arith, ticket_counts b k, ticket_counts b' k', a);
  once = let a = ap one_if_none same in omega (arith, unwritten_counts b k, unwritten_counts b' k', a);
  later = λ l. l;
  most = λ l. l;
}

-- one page more, which was never written
pub paid_new : (es es' : List Entry) (e : Entry) (f : Frame) (s w : ℕ) → es' ≡ es ++ (e ∷ []) → e.body ≡ Resident f None → Paid es s w → Paid es' (raised s) w
paid_new es es' e f s w pushed body p = subst (λ z. Paid z (raised s) w) (sym pushed) (record {
  most = p.most;
  tickets = λ l. let a = p.tickets l in let n = ap ticketed body in omega (arith, sum_by_push ticket_in es e, a, n);
  once = λ l. let a = p.once (omega (arith, l)) in let n = ap unwritten body in omega (arith, sum_by_push unwritten_in es e, a, n, l);
})

-- a page in the place of one whose life ended
pub paid_over : (es : List Entry) (x : ℕ) (e e' : Entry) (f : Frame) (s w : ℕ) → slice_get es x ≡ Some e → is_alive e.body ≡ false → e'.body ≡ Resident f None → Paid es s w → Paid (slice_set es x e') (raised s) w
paid_over es x e e' f s w at dead body p = record {
  most = p.most;
  tickets = λ l. let a = p.tickets l in let n = ap ticketed body in let o = ends_ticket e.body dead in omega (arith, one_set es x e e' at ticket_in, a, n, o);
  once = λ l. let a = p.once (omega (arith, l)) in let n = ap unwritten body in let o = ends_unwritten e.body dead in omega (arith, one_set es x e e' at unwritten_in, a, n, o, l);
}
