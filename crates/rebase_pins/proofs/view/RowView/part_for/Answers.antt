use Rattle.std.proofs.Common.{refl, arith}
use Rattle.rebase_pins.proofs.KeptParts.{number_in, kept_part, kept_base}
use Rattle.rebase_pins.proofs.view.RowView.part_for.Goals as goal

pub returns-then-row-self-clause-heap : goal.returns-then-row-self-clause-heap
returns-then-row-self-clause-heap c =
    let v = c.self.inside in
    kept_part v c.args.self.now c.args.row 0 v.part0.base v.part0.heap.now c.self.view_is (λ known. (number_in v c.args.row c.self.invariant known).at0 (let t = c.if-row-self.true in omega (arith, t, c.from-row.ensures))) refl

pub returns-then-row-self-clause-base : goal.returns-then-row-self-clause-base
returns-then-row-self-clause-base c =
    let v = c.self.inside in
    kept_base v c.args.self.now c.args.row 0 v.part0.end v.part0.base c.self.view_is (λ known. (number_in v c.args.row c.self.invariant known).at0 (let t = c.if-row-self.true in omega (arith, t, c.from-row.ensures))) c.self.invariant.part0

pub returns-then-row-self-2-clause-heap : goal.returns-then-row-self-2-clause-heap
returns-then-row-self-2-clause-heap c =
    let v = c.self.inside in
    kept_part v c.args.self.now c.args.row 1 v.part1.base v.part1.heap.now c.self.view_is (λ known. (number_in v c.args.row c.self.invariant known).at1 (let t = c.if-row-self.false in omega (arith, t, c.from-row.ensures)) (let t = c.if-row-self-2.true in omega (arith, t, c.from-row.ensures))) refl

pub returns-then-row-self-2-clause-base : goal.returns-then-row-self-2-clause-base
returns-then-row-self-2-clause-base c =
    let v = c.self.inside in
    kept_base v c.args.self.now c.args.row 1 v.part1.end v.part1.base c.self.view_is (λ known. (number_in v c.args.row c.self.invariant known).at1 (let t = c.if-row-self.false in omega (arith, t, c.from-row.ensures)) (let t = c.if-row-self-2.true in omega (arith, t, c.from-row.ensures))) c.self.invariant.part1

pub returns-then-row-self-3-clause-heap : goal.returns-then-row-self-3-clause-heap
returns-then-row-self-3-clause-heap c =
    let v = c.self.inside in
    kept_part v c.args.self.now c.args.row 2 v.part2.base v.part2.heap.now c.self.view_is (λ known. (number_in v c.args.row c.self.invariant known).at2 (let t = c.if-row-self.false in omega (arith, t, c.from-row.ensures)) (let t = c.if-row-self-2.false in omega (arith, t, c.from-row.ensures)) (let t = c.if-row-self-3.true in omega (arith, t, c.from-row.ensures))) refl

pub returns-then-row-self-3-clause-base : goal.returns-then-row-self-3-clause-base
returns-then-row-self-3-clause-base c =
    let v = c.self.inside in
    kept_base v c.args.self.now c.args.row 2 v.part2.end v.part2.base c.self.view_is (λ known. (number_in v c.args.row c.self.invariant known).at2 (let t = c.if-row-self.false in omega (arith, t, c.from-row.ensures)) (let t = c.if-row-self-2.false in omega (arith, t, c.from-row.ensures)) (let t = c.if-row-self-3.true in omega (arith, t, c.from-row.ensures))) c.self.invariant.part2

pub returns-else-row-self-3-clause-heap : goal.returns-else-row-self-3-clause-heap
returns-else-row-self-3-clause-heap c =
    let v = c.self.inside in
    kept_part v c.args.self.now c.args.row 3 v.part3.base v.part3.heap.now c.self.view_is (λ known. (number_in v c.args.row c.self.invariant known).at3 (let t = c.if-row-self.false in omega (arith, t, c.from-row.ensures)) (let t = c.if-row-self-2.false in omega (arith, t, c.from-row.ensures)) (let t = c.if-row-self-3.false in omega (arith, t, c.from-row.ensures))) refl

pub returns-else-row-self-3-clause-base : goal.returns-else-row-self-3-clause-base
returns-else-row-self-3-clause-base c =
    let v = c.self.inside in
    kept_base v c.args.self.now c.args.row 3 v.part3.end v.part3.base c.self.view_is (λ known. (number_in v c.args.row c.self.invariant known).at3 (let t = c.if-row-self.false in omega (arith, t, c.from-row.ensures)) (let t = c.if-row-self-2.false in omega (arith, t, c.from-row.ensures)) (let t = c.if-row-self-3.false in omega (arith, t, c.from-row.ensures))) c.self.invariant.part3
