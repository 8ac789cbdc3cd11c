use Rattle.std.proofs.Common.{◌≡◌, false, take}
use Rattle.std.specs.List.{list_any}
use Rattle.result_print.specs.Printed.{is_special}
use Rattle.result_print.proofs.field.has_special.Given as goal

abbrev pub invariant-loop-byte : goal.invariant-loop-byte
invariant-loop-byte l = list_any is_special (take l.byte-index l.bytes) ≡ false
