use Rattle.std.proofs.Common.{◌≡◌, take}
use Rattle.std.specs.List.{fold}
use Rattle.row_hash.specs.Hash.{fnv_step}
use Rattle.row_hash.proofs.fnv.feed_bytes.Given as goal

abbrev pub invariant-loop-byte : goal.invariant-loop-byte
invariant-loop-byte l = l.hash ≡ fold fnv_step l.fn.hash (take l.byte-index l.bytes)
