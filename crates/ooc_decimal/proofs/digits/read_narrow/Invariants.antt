use Rattle.std.proofs.Common.{◌≡◌, ◌+◌, ◌-◌, ◌<◌, ◌^◌, length, drop}
use Rattle.std.specs.Str.{all_ascii_digits}
use Rattle.ooc_decimal.specs.Numeral.{number_after}
use Rattle.ooc_decimal.proofs.digits.read_narrow.Given as goal

abbrev pub invariant-loop-byte : goal.invariant-loop-byte
invariant-loop-byte l = record {
  number : number_after l.value (drop l.byte-index l.digits) ≡ number_after l.start l.digits;
  digits : all_ascii_digits (drop l.byte-index l.digits) ≡ all_ascii_digits l.digits;
  small : l.value < 10 ^ (18 - length l.digits + l.byte-index);
}
