use Rattle.std.proofs.Common.{◌≡◌, ◌<◌, ◌^◌, drop}
use Rattle.std.specs.Str.{all_ascii_digits}
use Rattle.ooc_decimal.specs.Numeral.{number_after}
use Rattle.ooc_decimal.proofs.digits.read_digits.Given as goal

abbrev pub invariant-loop-byte : goal.invariant-loop-byte
invariant-loop-byte l = record {
  number : number_after l.value (drop l.byte-index l.digits) ≡ number_after l.start l.digits;
  digits : all_ascii_digits (drop l.byte-index l.digits) ≡ all_ascii_digits l.digits;
  fits : l.value < 2 ^ 128;
}
