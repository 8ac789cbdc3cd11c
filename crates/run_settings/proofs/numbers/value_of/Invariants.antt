use Rattle.std.proofs.Common.{◌≡◌, ◌<◌, ◌^◌, take}
use Rattle.run_settings.specs.Numbers.{value_of}
use Rattle.run_settings.proofs.numbers.value_of.Given as goal

abbrev pub invariant-loop-byte : goal.invariant-loop-byte
invariant-loop-byte l = record {
  is : l.value ≡ value_of (take l.byte-index l.text);
  small : l.value < 10 ^ l.byte-index;
}
