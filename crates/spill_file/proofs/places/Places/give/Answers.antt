use Rattle.std.proofs.Common.{subst, sym}
use Rattle.spill_file.specs.Places.{GivesPlace}
use Rattle.spill_file.proofs.Books.{gives}
use Rattle.spill_file.proofs.places.Places.give.Goals as goal

pub returns-clause-given : goal.returns-clause-given
returns-clause-given c =
    let s = c.self.inside in
    subst (λ z. GivesPlace c.args.place z (record { lane = s.lane; free = c.push.new.self.items; end = s.end })) c.self.view_is
    (subst (λ f. GivesPlace c.args.place (record { lane = s.lane; free = s.free.items; end = s.end }) (record { lane = s.lane; free = f; end = s.end })) (sym c.in_ok-push.ensures.items) (gives s.lane s.free.items c.args.place s.end))
