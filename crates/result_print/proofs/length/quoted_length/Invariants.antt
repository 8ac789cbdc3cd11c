use Rattle.std.proofs.Common.{◌≡◌, ◌+◌, ◌*◌, ◌≤◌, length, take}
use Rattle.std.specs.List.{flat_map}
use Rattle.result_print.specs.Printed.{doubled}
use Rattle.result_print.proofs.length.quoted_length.Given as goal

abbrev pub invariant-loop-byte : goal.invariant-loop-byte
invariant-loop-byte l = record {
  counted : l.length ≡ length (flat_map doubled (take l.byte-index l.bytes)) + 2;
  bounded : l.length ≤ 2 * l.byte-index + 2;
}
