use Rattle.std.proofs.Common.{rules, ◌+◌, ◌-◌, ◌<◌, ℕ, List, [], length, get_or, sym, ap, ◌∙◌, subst, arith}
use Rattle.std.specs.Prelude.{slice_range}
use Rattle.std.specs.Int.{w128}
use mir.Val.{SFits}
use Rattle.std.proofs.lemmas.Int.{to_z-of_z}
use Rattle.row_image.specs.Image.{part_at}
use Rattle.row_image.specs.Texts.{TextValue}
use Rattle.rebase_pins.specs.Seen.{value_seen}
use Rattle.rebase_pins.specs.Sight.{seen_in}
use Rattle.rebase_pins.specs.Images.{Seen}
use Rattle.rebase_pins.specs.Rows.{part_number}
use Rattle.rebase_pins.specs.Parts.{IsKnownPart}
use Rattle.rebase_pins.proofs.Below.{row_below}
use Rattle.rebase_pins.proofs.Values.{value_cell, text_lies, picked_long}
use Rattle.rebase_pins.proofs.view.RowView.value.Goals as goal

pub read_cell-requires-clause-row : goal.read_cell-requires-clause-row
read_cell-requires-clause-row c = row_below c.self.inside c.args.self.now c.args.row c.self.invariant c.self.view_is c.requires.row

pub returns-in-Null : goal.returns-in-Null
returns-in-Null c =
    let v = c.self.inside in
    let below = row_below v c.args.self.now c.args.row c.self.invariant c.self.view_is c.requires.row in
    let inside = subst (λ s. c.args.column < length s.kinds) (sym c.self.view_is) c.requires.column in
    value_cell v.layout.now v.image.now c.self.invariant.page c.self.invariant.accepted (seen_in v).heaps c.args.row c.args.column _ below inside c.in-Null.ensures
    ∙ ap (λ s. value_seen s c.args.row c.args.column) c.self.view_is

pub returns-in-Number : goal.returns-in-Number
returns-in-Number c =
    let v = c.self.inside in
    let below = row_below v c.args.self.now c.args.row c.self.invariant c.self.view_is c.requires.row in
    let inside = subst (λ s. c.args.column < length s.kinds) (sym c.self.view_is) c.requires.column in
    let fits : SFits w128 c.in-Number.number = search rules in
    simp to_z-of_z (value_cell v.layout.now v.image.now c.self.invariant.page c.self.invariant.accepted (seen_in v).heaps c.args.row c.args.column _ below inside c.in-Number.ensures
    ∙ ap (λ s. value_seen s c.args.row c.args.column) c.self.view_is)

pub returns-in-Short : goal.returns-in-Short
returns-in-Short c =
    let v = c.self.inside in
    let below = row_below v c.args.self.now c.args.row c.self.invariant c.self.view_is c.requires.row in
    let inside = subst (λ s. c.args.column < length s.kinds) (sym c.self.view_is) c.requires.column in
    value_cell v.layout.now v.image.now c.self.invariant.page c.self.invariant.accepted (seen_in v).heaps c.args.row c.args.column _ below inside c.in-Short.ensures
    ∙ ap (λ s. value_seen s c.args.row c.args.column) c.self.view_is

pub long_text-requires-clause-low : goal.long_text-requires-clause-low
long_text-requires-clause-low c =
    let v = c.self.inside in
    let below = row_below v c.args.self.now c.args.row c.self.invariant c.self.view_is c.requires.row in
    let inside = subst (λ s. c.args.column < length s.kinds) (sym c.self.view_is) c.requires.column in
    let lies = text_lies v.layout.now v.image.now c.args.row c.args.column c.in-Long.prefix c.in-Long.length c.in-Long.address c.self.invariant.page c.self.invariant.accepted below inside (sym c.in-Long.ensures) in
    let known = subst (λ (s : Seen). IsKnownPart s.image c.args.row) c.self.view_is lies.inside in
    let base = c.part_for-part.ensures.base known ∙ ap (λ (s : Seen). (part_at s.image (part_number s.image c.args.row)).base) (sym c.self.view_is) in
    let heap = c.part_for-part.ensures.heap known ∙ ap (λ (s : Seen). get_or s.heaps (part_number s.image c.args.row) []) (sym c.self.view_is) in
    let low = lies.low in
    omega (arith, low, base)

pub long_text-requires-clause-high : goal.long_text-requires-clause-high
long_text-requires-clause-high c = λ some.
    let v = c.self.inside in
    let below = row_below v c.args.self.now c.args.row c.self.invariant c.self.view_is c.requires.row in
    let inside = subst (λ s. c.args.column < length s.kinds) (sym c.self.view_is) c.requires.column in
    let lies = text_lies v.layout.now v.image.now c.args.row c.args.column c.in-Long.prefix c.in-Long.length c.in-Long.address c.self.invariant.page c.self.invariant.accepted below inside (sym c.in-Long.ensures) in
    let known = subst (λ (s : Seen). IsKnownPart s.image c.args.row) c.self.view_is lies.inside in
    let base = c.part_for-part.ensures.base known ∙ ap (λ (s : Seen). (part_at s.image (part_number s.image c.args.row)).base) (sym c.self.view_is) in
    let heap = c.part_for-part.ensures.heap known ∙ ap (λ (s : Seen). get_or s.heaps (part_number s.image c.args.row) []) (sym c.self.view_is) in
    let high = lies.high in
    let few = lies.few in let there = lies.inside in
    let good = c.self.invariant in
    let is = ap length heap in
    let long = picked_long v.image.now v.part0.heap.now v.part1.heap.now v.part2.heap.now v.part3.heap.now good.heap0 good.heap1 good.heap2 good.heap3 (part_number v.image.now c.args.row) (omega (arith, few, there)) (omega (arith, some, is)) in
    omega (arith, high, base, is, long)

pub returns-in-Long : goal.returns-in-Long
returns-in-Long c =
    let v = c.self.inside in
    let below = row_below v c.args.self.now c.args.row c.self.invariant c.self.view_is c.requires.row in
    let inside = subst (λ s. c.args.column < length s.kinds) (sym c.self.view_is) c.requires.column in
    let lies = text_lies v.layout.now v.image.now c.args.row c.args.column c.in-Long.prefix c.in-Long.length c.in-Long.address c.self.invariant.page c.self.invariant.accepted below inside (sym c.in-Long.ensures) in
    let known = subst (λ (s : Seen). IsKnownPart s.image c.args.row) c.self.view_is lies.inside in
    let base = c.part_for-part.ensures.base known ∙ ap (λ (s : Seen). (part_at s.image (part_number s.image c.args.row)).base) (sym c.self.view_is) in
    let heap = c.part_for-part.ensures.heap known ∙ ap (λ (s : Seen). get_or s.heaps (part_number s.image c.args.row) []) (sym c.self.view_is) in
    let heaps = (seen_in v).heaps in
    let from = λ (b : ℕ). c.in-Long.address - b in
    let read = ap TextValue c.long_text.ensures in
    read
    ∙ ap (λ (z : List ℕ). TextValue (slice_range z (from c.part_for-part.result.base) (from c.part_for-part.result.base + c.in-Long.length))) heap
    ∙ ap (λ b. TextValue (slice_range (get_or heaps (part_number v.image.now c.args.row) []) (from b) (from b + c.in-Long.length))) base
    ∙ sym (lies.value heaps)
    ∙ ap (λ s. value_seen s c.args.row c.args.column) c.self.view_is
