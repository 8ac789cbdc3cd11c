use Rattle.std.proofs.Common.{◌∙◌, sym, ap}
use Rattle.std.specs.Prelude.{position, ◌==◌}
use Rattle.pool_core.specs.Readers.{without_one}
use Rattle.pool_core.proofs.ReaderLemmas.{without-found, without-absent}
use Rattle.pool_core.proofs.readers.Readers.remove_one.Goals as goal

pub returns-in-Some : goal.returns-in-Some
returns-in-Some c =
    let items = c.self.inside.actors.items in
    let found = ap (position (λ other. other == c.args.actor)) (sym c.deref.ensures.value) ∙ sym c.place_of.ensures ∙ c.in-Some.is in
    c.remove.ensures.items ∙ sym (without-found c.args.actor items c.in-Some.at found) ∙ ap (without_one c.args.actor) c.self.view_is

pub returns-in_default : goal.returns-in_default
returns-in_default c =
    let items = c.self.inside.actors.items in
    let absent = ap (position (λ other. other == c.args.actor)) (sym c.deref.ensures.value) ∙ sym c.place_of.ensures ∙ c.in_default.is in
    sym c.self.view_is ∙ sym (without-absent c.args.actor items absent) ∙ ap (without_one c.args.actor) c.self.view_is
