use Rattle.std.proofs.Common.{◌≡◌, ◌+◌, ◌*◌, ◌-◌, ◌≤◌, ◌^◌, length, drop}
use Rattle.std.specs.Str.Parse.{digits_value_after}
use Rattle.sql_lex.proofs.numbers.digits_behind.Given as goal

-- the number so far, with the digits that are left, is the whole
abbrev pub invariant-loop-byte : goal.invariant-loop-byte
invariant-loop-byte l = record {
  whole : digits_value_after 10 l.number (drop l.byte-index l.digits) ≡ digits_value_after 10 l.value l.digits;
  small : (l.number + 1) * 10 ^ (length l.digits - l.byte-index) ≤ (l.value + 1) * 10 ^ length l.digits;
}
