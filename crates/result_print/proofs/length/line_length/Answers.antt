use Rattle.std.proofs.Common.{◌≡◌, ◌∷◌, length, map, ap, sym, arith, ◌∙◌}
use Rattle.std.proofs.lemmas.List.{take_all, nil_from_length}
use Rattle.std.proofs.lemmas.Bool.Decides.{nat_tests}
use Rattle.std.specs.List.{flat_map}
use Rattle.result_print.specs.Printed.{line_text, value_text}
use Rattle.result_print.proofs.Lengths.{length_line, length_empty}
use Rattle.result_print.proofs.length.line_length.Goals as goal

pub returns-then-is_empty : goal.returns-then-is_empty
returns-then-is_empty c =
    let zero : length c.args.values.now ≡ 0 = grind (arith, nat_tests) in
    let nothing = nil_from_length c.args.values.now zero in
    length_empty value_text ∙ sym (ap (λ l. length (line_text (map value_text l))) nothing)

pub returns : goal.returns
returns c =
    let values = c.args.values.now in
    let all = ap (λ l. length (flat_map (λ v. 44 ∷ value_text v) l)) (take_all c.loop-value.value-index values (omega arith)) in
    let some : length values ≡ 0 → ⊥ = grind (arith, nat_tests) in
    c.loop-value.invariant.counted ∙ all ∙ length_line value_text values some
