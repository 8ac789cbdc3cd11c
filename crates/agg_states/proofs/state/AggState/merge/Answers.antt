use Rattle.std.proofs.Common.{◌≡◌, ◌+◌, ◌≤◌, sym, subst, ap, ◌∙◌, arith}
use Rattle.ooc_types.specs.declared.value.Value.{Value}
use Rattle.agg_states.specs.Tally.{Tally, row_limit}
use Rattle.agg_states.specs.Bounds.{IsSound}
use Rattle.agg_states.proofs.Sound.{sound_both, join_fits, sound_as}
use Rattle.agg_states.proofs.state.AggState.merge.Goals as goal

pub join-requires : goal.join-requires
join-requires c =
    let self = c.self.inside in
    let other = c.other.inside in
    let few : self.rows + other.rows ≤ row_limit = omega (arith, c.self.invariant.0) in
    let kind = ap (λ (t : Tally). t.kind) c.self.view_is ∙ c.requires.kind ∙ sym (ap (λ (t : Tally). t.kind) c.other.view_is) in
    let of = ap (λ (t : Tally). t.of) c.self.view_is ∙ c.requires.of ∙ sym (ap (λ (t : Tally). t.of) c.other.view_is) in
    join_fits self.kind self.of self.rows other.rows self.cell other.cell c.self.invariant (sound_as self.kind other.kind self.of other.of other.rows other.cell kind of c.other.invariant) few

pub invariant_of-self : goal.invariant_of-self
invariant_of-self c =
    let self = c.self.inside in
    let other = c.other.inside in
    let few : self.rows + other.rows ≤ row_limit = omega (arith, c.self.invariant.0) in
    let kind = ap (λ (t : Tally). t.kind) c.self.view_is ∙ c.requires.kind ∙ sym (ap (λ (t : Tally). t.kind) c.other.view_is) in
    let of = ap (λ (t : Tally). t.of) c.self.view_is ∙ c.requires.of ∙ sym (ap (λ (t : Tally). t.of) c.other.view_is) in
    subst (λ (v : Value). IsSound self.kind self.of (self.rows + other.rows) v) (sym c.join.ensures)
    (sound_both self.kind self.of self.rows other.rows self.cell other.cell c.self.invariant (sound_as self.kind other.kind self.of other.of other.rows other.cell kind of c.other.invariant) few)
