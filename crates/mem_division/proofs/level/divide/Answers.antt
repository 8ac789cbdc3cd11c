use Rattle.std.proofs.Common.{◌≡◌, ◌-◌, ap, sym, ◌∙◌, map, arith}
use Rattle.mem_division.specs.Level.{sum_at, filled}
use Rattle.mem_division.proofs.Filling.{least_sum, division_is}
use Rattle.mem_division.proofs.level.divide.Goals as goal

pub level_of-level-requires : goal.level_of-level-requires
level_of-level-requires c =
    let e = least_sum c.args.wants.now c.requires.wants in
    let h = c.requires.enough in
    omega arith

pub returns-in-Some : goal.returns-in-Some
returns-in-Some c =
    let rest : c.in-Some.rest ≡ c.args.total - sum_at c.level_of-level.result c.args.wants.now = c.in-Some.ensures.1 in
    c.fill.ensures
    ∙ ap (λ n. map (λ place. place.grant) (filled c.level_of-level.result n c.args.wants.now)) rest
    ∙ sym (division_is c.args.total c.level_of-level.result c.args.wants.now c.requires.wants c.level_of-level.ensures.reached c.level_of-level.ensures.greatest)
