use Rattle.std.proofs.Common.{◌≡◌, ◌<◌, ◌+◌, sym, subst, arith}
use Rattle.ooc_types.specs.declared.value.Value.{Value}
use Rattle.agg_states.specs.Tally.{Tally, row_limit}
use Rattle.agg_states.specs.Bounds.{IsSound, CanTake}
use Rattle.agg_states.proofs.Sound.{sound_more}
use Rattle.agg_states.proofs.state.AggState.add.Goals as goal

pub invariant_of-self-2 : goal.invariant_of-self-2
invariant_of-self-2 c =
    let self = c.self.inside in
    let few : self.rows < row_limit = omega (arith, c.self.invariant.0) in
    let form = subst (λ (t : Tally). CanTake t c.args.value.now) (sym c.self.view_is) c.requires in
    subst (λ (v : Value). IsSound self.kind self.of (self.rows + 1) v) (sym c.in_ok-take.ensures.ok)
    (sound_more self.kind self.of self.rows self.cell c.args.value.now c.self.invariant few form)
