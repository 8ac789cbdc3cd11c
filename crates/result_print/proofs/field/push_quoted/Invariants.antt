use Rattle.std.proofs.Common.{◌≡◌, [], ◌∷◌, ◌++◌, take}
use Rattle.std.specs.List.{flat_map}
use Rattle.result_print.specs.Printed.{doubled}
use Rattle.result_print.proofs.field.push_quoted.Given as goal

abbrev pub invariant-loop-byte : goal.invariant-loop-byte
invariant-loop-byte l = l.into.items ≡ (l.fn.into.items ++ 34 ∷ []) ++ flat_map doubled (take l.byte-index l.bytes)
