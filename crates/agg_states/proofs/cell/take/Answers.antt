use Rattle.std.proofs.Common.{◌≡◌, ℤ, SFits, rules, subst, sym, ◌∙◌}
use Rattle.std.specs.Int.{w128}
use Rattle.std.proofs.lemmas.Int.{to_z-of_z}
use Rattle.ooc_decimal.specs.Ends.{nearest_of}
use Rattle.agg_states.specs.Cells.{SumFits}
use Rattle.agg_states.proofs.Sound.{take_fits}
use Rattle.agg_states.proofs.cell.take.Goals as goal

pub add_number-requires-in-Number : goal.add_number-requires-in-Number
add_number-requires-in-Number c =
    let digits : SFits w128 c.in-Number.digits = search rules in
    let result : SFits w128 c.nearest_number.result = search rules in
    let near : c.nearest_number.result ≡ nearest_of c.args.of c.in-Number.digits = simp to_z-of_z at c.nearest_number.ensures in
    subst (λ (z : ℤ). SumFits c.args.cell.now z) (sym (to_z-of_z w128 c.nearest_number.result result ∙ near))
    (take_fits c.args.kind c.args.of c.args.rows c.args.cell.now c.args.value.now c.in-Number.digits c.in-Number.scale c.in-Sum.is c.in-Number.is c.requires.sound c.requires.room c.requires.form)
