use Rattle.std.proofs.Common.{◌≤◌, ◌<◌, ◌++◌, [], ◌∷◌, List, length, map, take, arith, ap, sym, ◌∙◌, add-one, take_all}
use Rattle.std.proofs.Math.Seq.{take-suc}
use Rattle.std.proofs.lemmas.List.{length-map, get_or-map}
use Rattle.ooc_types.specs.declared.value.Value.{Value}
use Rattle.ooc_types.specs.declared.value.Value.TheVariants as sql
use Rattle.csv_load.specs.declared.field_read.FieldRead.TheVariants as read
use Rattle.csv_load.specs.FieldReads.{value_in}
use Rattle.csv_load.proofs.Columns.{values-more, length-values}
use Rattle.csv_load.proofs.store.put_values.Goals as goal

pub loop-i-preserved : goal.loop-i-preserved
loop-i-preserved c =
    let fields = c.args.fields.now in
    let all : List Value = map value_in fields in
    let i = c.loop-i.i in
    let values = c.loop-i.values in
    let v = c.put_value.new.value in
    let so_far = c.loop-i.invariant in
    let room : i < length values = omega (arith, so_far.0, c.loop-i-test.true) in
    let inside : i < length all = omega (arith, length-map fields value_in, c.loop-i-test.true) in (
      length-values values i v ∙ so_far.0,
      values-more values i v room ∙ ap (λ (l : List Value). l ++ v ∷ []) so_far.1
          ∙ ap (λ (x : Value). take i all ++ x ∷ []) (c.in_ok-put_value.ensures ∙ sym (get_or-map value_in fields i read.Null sql.Null c.loop-i-test.true))
          ∙ sym (take-suc all i sql.Null inside) ∙ ap (λ n. take n all) (sym (add-one i)),
    )

pub returns : goal.returns
returns c =
    let fields = c.args.fields.now in
    let all : List Value = map value_in fields in
    let i = c.loop-i.i in
    let so_far = c.loop-i.invariant in
    let high : length c.loop-i.values ≤ i = omega (arith, so_far.0, c.loop-i-test.false) in
    let over : length all ≤ i = omega (arith, length-map fields value_in, c.loop-i-test.false) in
    sym (take_all i c.loop-i.values high) ∙ so_far.1 ∙ take_all i all over
