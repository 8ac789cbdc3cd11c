use Rattle.std.proofs.Common.{◌≡◌, ◌*◌, ◌≤◌, ◌∷◌, length, take}
use Rattle.std.specs.List.{flat_map}
use Rattle.result_print.specs.Printed.{value_text}
use Rattle.result_print.proofs.length.line_length.Given as goal

abbrev pub invariant-loop-value : goal.invariant-loop-value
invariant-loop-value l = record {
  counted : l.length ≡ length (flat_map (λ v. 44 ∷ value_text v) (take l.value-index l.values));
  bounded : l.length ≤ 8193 * l.value-index;
}
