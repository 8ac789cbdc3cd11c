use Rattle.std.proofs.Common.{◌≡◌, Some, subst}
use Rattle.spill_file.specs.Places.{TakesPlace, next_place}
use Rattle.spill_file.proofs.Books.{took_free}
use Rattle.spill_file.proofs.places.Places.take.Goals as goal

pub returns-in-Some : goal.returns-in-Some
returns-in-Some c = λ p next.
    let s = c.self.inside in
    subst (λ z. next_place z ≡ Some p → TakesPlace p z (record { lane = s.lane; free = c.pop.new.self.items; end = s.end })) c.self.view_is
    (took_free s.lane s.end s.free.items c.pop.new.self.items c.in-Some.field-0 c.in-Some.ensures.items p) next
